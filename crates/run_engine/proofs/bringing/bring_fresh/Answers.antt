use Rattle.std.proofs.Common.{ℕ, [], subst, ◌∙◌, arith}
use Rattle.std.specs.Prelude.{slice_index_or, option_map, is_err}
use Rattle.job_laws.specs.Meanings.{meaning_of}
use Rattle.record_text.specs.Shifts.{left}
use Rattle.run_engine.specs.InPlace.{EachAt}
use Rattle.run_engine.specs.Inputs.{texts_of}
use Rattle.run_engine.specs.Sweeps.{swept_by}
use Rattle.run_engine.specs.Rows.{OthersStay}
use Rattle.run_engine.specs.Phases.{IsBroughtLane}
use Rattle.run_engine.proofs.SweepSteps.{sweep-idle, ok-from}
use Rattle.run_engine.proofs.PhaseSteps.{all-counted, none-counted}
use Rattle.run_engine.proofs.LanePhase.{tried-same, all-tried, all-brought, each-counted, all-ready}
use Rattle.run_engine.proofs.bringing.bring_fresh.Goals as goal

pub returns-in-Err-clause-tried : goal.returns-in-Err-clause-tried
returns-in-Err-clause-tried g c = record {
  count = c.in-Err.ensures.count;
  each = λ k d e lt. tried-same c.args.worker.now.parts (g.J.Job.setting c.args.worker.now.job.now) (slice_index_or c.args.lanes.now.items k d).lane (slice_index_or c.deal_all.new.lanes.items k e).lane (c.requires.lanes.seats k d lt).holds.mapped (c.in-Err.ensures.each k d e lt).0;
}

pub returns-in-Err-clause-counted : goal.returns-in-Err-clause-counted
returns-in-Err-clause-counted g c = none-counted (meaning_of g.J.Job c.args.worker.now.job.now) g.J.Meter.Meter.counts (texts_of c.args.leaves.now.items) (texts_of c.args.fresh.now.items) c.args.meters.now.items

pub returns-in-Err-clause-sweep : goal.returns-in-Err-clause-sweep
returns-in-Err-clause-sweep g c = (c.requires.sweep.0, sweep-idle _ (swept_by (option_map (λ s. s.collector) c.args.sweep.now)))

pub work_lanes-requires-clause-lanes : goal.work_lanes-requires-clause-lanes
work_lanes-requires-clause-lanes g c κs within =
    let r = c.requires.lanes in
    all-ready (meaning_of g.J.Job c.args.worker.now.job.now) (g.J.Job.setting c.args.worker.now.job.now) c.args.worker.now.parts c.args.worker.now.memo.now.locks (texts_of c.args.leaves.now.items) (left [] c.args.shift.now (texts_of c.args.leaves.now.items)) c.args.fresh.now.items c.args.lanes.now.items c.deal_all.new.lanes.items
    r.seats c.in-Ok.ensures r.within r.inputs r.leave

pub returns-clause-tried : goal.returns-clause-tried
returns-clause-tried g c =
    all-tried (meaning_of g.J.Job c.args.worker.now.job.now) (g.J.Job.setting c.args.worker.now.job.now) c.args.worker.now.parts g.J.Meter.Meter.counts c.args.worker.now.memo.now.locks (texts_of c.args.leaves.now.items) (left [] c.args.shift.now (texts_of c.args.leaves.now.items)) c.args.fresh.now.items c.args.lanes.now.items c.deal_all.new.lanes.items c.work_lanes.new.lanes.items
    c.args.meters.now.items c.work_lanes.new.meters.items (is_err c.work_lanes.result) c.requires.lanes.seats c.in-Ok.ensures c.work_lanes.ensures.worked c.requires.meters

pub returns-clause-ok : goal.returns-clause-ok
returns-clause-ok g c =
    ok-from c.work_lanes.result (EachAt (λ k s. IsBroughtLane (texts_of c.args.fresh.now.items) (left [] c.args.shift.now (texts_of c.args.leaves.now.items)) k s.lane) c.work_lanes.new.lanes.items) (λ is.
    all-brought (meaning_of g.J.Job c.args.worker.now.job.now) (g.J.Job.setting c.args.worker.now.job.now) c.args.worker.now.parts g.J.Meter.Meter.counts c.args.worker.now.memo.now.locks (texts_of c.args.leaves.now.items) (left [] c.args.shift.now (texts_of c.args.leaves.now.items)) c.args.fresh.now.items c.args.lanes.now.items c.deal_all.new.lanes.items c.work_lanes.new.lanes.items
    c.args.meters.now.items c.work_lanes.new.meters.items (is_err c.work_lanes.result) c.requires.lanes.seats c.in-Ok.ensures c.work_lanes.ensures.worked c.requires.meters is)

pub returns-clause-counted : goal.returns-clause-counted
returns-clause-counted g c =
    let count = c.requires.lanes.count in
    let meters = c.requires.meters in
    let same = c.in-Ok.ensures.count in
    all-counted (meaning_of g.J.Job c.args.worker.now.job.now) g.J.Meter.Meter.counts (texts_of c.args.leaves.now.items) (texts_of c.args.fresh.now.items) c.args.meters.now.items c.work_lanes.new.meters.items (omega (arith, count, meters)) (subst (λ (n : ℕ). OthersStay n c.args.meters.now.items c.work_lanes.new.meters.items) (same ∙ count) c.work_lanes.ensures.others)
    (each-counted (meaning_of g.J.Job c.args.worker.now.job.now) (g.J.Job.setting c.args.worker.now.job.now) c.args.worker.now.parts g.J.Meter.Meter.counts c.args.worker.now.memo.now.locks (texts_of c.args.leaves.now.items) (left [] c.args.shift.now (texts_of c.args.leaves.now.items)) c.args.fresh.now.items c.args.lanes.now.items c.deal_all.new.lanes.items c.work_lanes.new.lanes.items
    c.args.meters.now.items c.work_lanes.new.meters.items (is_err c.work_lanes.result) c.requires.lanes.seats c.in-Ok.ensures c.work_lanes.ensures.worked count)

use Rattle.std.proofs.Common.{ℕ, length, refl, subst}
use Rattle.std.specs.Prelude.{option_map, is_err}
use Rattle.job_laws.specs.Meanings.{meaning_of}
use Rattle.tree_laws.specs.Trees.{bound_of}
use Rattle.run_engine.specs.declared.part_seat.PartSeat.{PartSeat}
use Rattle.run_engine.specs.InPlace.{EachPair}
use Rattle.run_engine.specs.Inputs.{texts_of}
use Rattle.run_engine.specs.Sweeps.{swept_by}
use Rattle.run_engine.specs.Rows.{OthersStay}
use Rattle.run_engine.specs.Phases.{IsShiftedPart}
use Rattle.run_engine.proofs.SweepSteps.{sweep-idle, ok-from}
use Rattle.run_engine.proofs.PartPhase.{parts-ready, parts-tried, parts-shifted, parts-counted, parts-handed}
use Rattle.run_engine.proofs.RunParts.{parts-uncounted}
use Rattle.run_engine.proofs.advancing.take_shift.Goals as goal

pub returns-in-Err-clause-tried : goal.returns-in-Err-clause-tried
returns-in-Err-clause-tried g c = parts-handed g.T.Tree.view g.T.Tree.pins (g.J.Job.setting c.args.worker.now.job.now) g.T.Tree.KIND c.args.worker.now.memo.now.locks c.args.worker.now.shift.now (length c.args.fresh.now.items) c.args.parts.now.items c.hand_sheets.new.parts.items c.requires.parts.seats_are c.in-Err.ensures

pub returns-in-Err-clause-counted : goal.returns-in-Err-clause-counted
returns-in-Err-clause-counted g c = parts-uncounted g.J.Meter.Meter.counts (meaning_of g.J.Job c.args.worker.now.job.now) (bound_of g.T.Tree.view g.T.Tree.bound) g.T.Tree.tight g.T.Tree.view (length c.args.parts.now.items) c.args.worker.now.shift.now (texts_of c.args.fresh.now.items) c.args.parts.now.items c.hand_sheets.new.parts.items c.args.meters.now.items c.requires.meters

pub returns-in-Err-clause-sweep : goal.returns-in-Err-clause-sweep
returns-in-Err-clause-sweep g c = (c.requires.sweep.0, sweep-idle _ (swept_by (option_map (λ s. s.collector) c.args.sweep.now)))

pub work_parts-requires-clause-parts : goal.work_parts-requires-clause-parts
work_parts-requires-clause-parts g c κs within =
    let r = c.requires.parts in
    parts-ready g.J.Job (g.J.Job.setting c.args.worker.now.job.now) (length c.args.parts.now.items) g.T.Tree.view g.T.Tree.pins (bound_of g.T.Tree.view g.T.Tree.bound) g.T.Tree.tight g.T.Tree.shaped c.args.worker.now.shift.now c.args.fresh.now.items r.inputs c.args.parts.now.items c.hand_sheets.new.parts.items c.in-Ok.ensures
    g.T.Tree.KIND c.args.worker.now.memo.now.locks r.seats_are

pub returns-clause-tried : goal.returns-clause-tried
returns-clause-tried g c =
    let r = c.requires.parts in
    parts-tried g.J.Job (g.J.Job.setting c.args.worker.now.job.now) (length c.args.parts.now.items) g.T.Tree.view g.T.Tree.pins (bound_of g.T.Tree.view g.T.Tree.bound) g.T.Tree.tight g.T.Tree.shaped c.args.worker.now.shift.now c.args.fresh.now.items r.inputs c.args.parts.now.items c.hand_sheets.new.parts.items c.in-Ok.ensures
    g.J.Meter.Meter.counts c.work_parts.new.parts.items c.args.meters.now.items c.work_parts.new.meters.items (is_err c.work_parts.result) c.work_parts.ensures.worked c.requires.meters

pub returns-clause-ok : goal.returns-clause-ok
returns-clause-ok g c =
    let r = c.requires.parts in
    ok-from c.work_parts.result (EachPair (λ p (s t : PartSeat _ _ _ _). IsShiftedPart g.T.Tree.view (meaning_of g.J.Job c.args.worker.now.job.now) (length c.args.parts.now.items) g.T.Tree.shaped c.args.worker.now.shift.now (texts_of c.args.fresh.now.items) p s.tree t.tree) c.args.parts.now.items c.work_parts.new.parts.items) (λ is.
    parts-shifted g.J.Job (g.J.Job.setting c.args.worker.now.job.now) (length c.args.parts.now.items) g.T.Tree.view g.T.Tree.pins (bound_of g.T.Tree.view g.T.Tree.bound) g.T.Tree.tight g.T.Tree.shaped c.args.worker.now.shift.now c.args.fresh.now.items r.inputs c.args.parts.now.items c.hand_sheets.new.parts.items c.in-Ok.ensures
    g.J.Meter.Meter.counts c.work_parts.new.parts.items c.args.meters.now.items c.work_parts.new.meters.items (is_err c.work_parts.result) c.work_parts.ensures.worked c.requires.meters is (λ p d lt. (r.seats_are p d lt).no_fresh))

pub returns-clause-counted : goal.returns-clause-counted
returns-clause-counted g c =
    let r = c.requires.parts in
    parts-counted g.J.Job (g.J.Job.setting c.args.worker.now.job.now) (length c.args.parts.now.items) g.T.Tree.view g.T.Tree.pins (bound_of g.T.Tree.view g.T.Tree.bound) g.T.Tree.tight g.T.Tree.shaped c.args.worker.now.shift.now c.args.fresh.now.items r.inputs c.args.parts.now.items c.hand_sheets.new.parts.items c.in-Ok.ensures
    g.J.Meter.Meter.counts c.work_parts.new.parts.items c.args.meters.now.items c.work_parts.new.meters.items (is_err c.work_parts.result) c.work_parts.ensures.worked
    (subst (λ (n : ℕ). OthersStay n c.args.meters.now.items c.work_parts.new.meters.items) c.in-Ok.ensures.count c.work_parts.ensures.others) refl (λ p d lt. (r.seats_are p d lt).no_fresh)

use Rattle.std.proofs.Common.{rules, ◌≡◌, true, false, List, length, drop, All, sym, ap, subst, ◌∙◌}
use Rattle.std.specs.Prelude.{Some}
use Rattle.collector.specs.Collectors.{CollectorView, horizon_of}
use Rattle.tree_laws.specs.Trees.{bound_of}
use Rattle.run_engine.specs.Sweeps.{IsSwept}
use Rattle.run_engine.proofs.RowSteps.{row-ready, each-work, others-stay}
use Rattle.run_engine.proofs.PartPhase.{parts-well, parts-unwell, parts-unworked}
use Rattle.run_engine.proofs.SweepSteps.{sweep-failed, sweep-idle, sweep-left, sweep-well, took-sweep, on-err, on-ok}
use Rattle.run_engine.proofs.advancing.work_parts.Goals as goal

pub work_row-worked-requires-clause-ready : goal.work_row-worked-requires-clause-ready
work_row-worked-requires-clause-ready g c κs within =
    let was : c.args.sweep.now ≡ Some c.in-Some.last = search rules in
    row-ready c.args.parts.now.items c.args.meters.now.items c.in-Some.last _ (λ k d e lt. c.requires.parts k d lt) (ap (λ (v : CollectorView). v.caller.locks) (sym (took-sweep (λ s. s.collector) c.args.sweep.now c.in-Some.last was)) ∙ c.requires.sweep.1) c.requires.meters

pub returns-in-Err-clause-worked : goal.returns-in-Err-clause-worked
returns-in-Err-clause-worked g c =
    let same = on-err c.work_row-worked.result.0 c.in-Err.e c.in-Err.is c.work_row-worked.ensures.err in
    parts-unworked g.T.Tree.view g.T.Tree.pins (bound_of g.T.Tree.view g.T.Tree.bound) g.T.Tree.tight g.T.Tree.shaped c.args.worker.now.shift.now g.J.Meter.Meter.counts c.args.parts.now.items c.work_row-worked.new.items.items c.args.meters.now.items c.work_row-worked.new.meters.items g.T.Tree.KIND (g.J.Job.setting c.args.worker.now.job.now) c.args.worker.now.memo.now.locks
    same.0 same.1 c.requires.parts c.requires.meters

pub returns-in-Err-clause-others : goal.returns-in-Err-clause-others
returns-in-Err-clause-others g c =
    let same = on-err c.work_row-worked.result.0 c.in-Err.e c.in-Err.is c.work_row-worked.ensures.err in
    others-stay (length c.args.parts.now.items) c.args.meters.now.items c.work_row-worked.new.meters.items (ap length same.1) (ap (λ (l : List _). drop (length c.args.parts.now.items) l) same.1)

pub returns-in-Err-clause-sweep : goal.returns-in-Err-clause-sweep
returns-in-Err-clause-sweep g c =
    let was : c.args.sweep.now ≡ Some c.in-Some.last = search rules in
    let same = on-err c.work_row-worked.result.0 c.in-Err.e c.in-Err.is c.work_row-worked.ensures.err in
    sweep-left (λ s. s.collector) c.args.sweep.now c.in-Some.last c.work_row-worked.result.1 c.args.worker.now.run true was
    (subst (λ s. IsSwept (horizon_of c.in-Some.last.collector.keep c.args.worker.now.run) c.in-Some.last.collector s.collector true) (sym same.2) (sweep-idle (horizon_of c.in-Some.last.collector.keep c.args.worker.now.run) c.in-Some.last.collector))

pub returns-then-unswept-clause-worked : goal.returns-then-unswept-clause-worked
returns-then-unswept-clause-worked g c =
    let done = on-ok c.work_row-worked.result.0 _ c.in-Ok.is c.work_row-worked.ensures.ok in
    let each = each-work c.args.parts.now.items c.args.meters.now.items c.in-Some.last c.work_row-worked.new.items.items c.work_row-worked.new.meters.items c.work_row-worked.result.1 _ c.requires.meters done in
    parts-unwell g.T.Tree.view g.T.Tree.pins (bound_of g.T.Tree.view g.T.Tree.bound) g.T.Tree.tight g.T.Tree.shaped c.args.worker.now.shift.now g.J.Meter.Meter.counts c.args.parts.now.items c.work_row-worked.new.items.items c.args.meters.now.items c.work_row-worked.new.meters.items done.count (λ k d f e h lt. (each.0 k d f e h lt).1)

pub returns-then-unswept-clause-others : goal.returns-then-unswept-clause-others
returns-then-unswept-clause-others g c =
    let done = on-ok c.work_row-worked.result.0 _ c.in-Ok.is c.work_row-worked.ensures.ok in
    others-stay (length c.args.parts.now.items) c.args.meters.now.items c.work_row-worked.new.meters.items done.meters_count done.others

pub returns-then-unswept-clause-sweep : goal.returns-then-unswept-clause-sweep
returns-then-unswept-clause-sweep g c =
    let was : c.args.sweep.now ≡ Some c.in-Some.last = search rules in
    let done = on-ok c.work_row-worked.result.0 _ c.in-Ok.is c.work_row-worked.ensures.ok in
    let each = each-work c.args.parts.now.items c.args.meters.now.items c.in-Some.last c.work_row-worked.new.items.items c.work_row-worked.new.meters.items c.work_row-worked.result.1 _ c.requires.meters done in
    sweep-left (λ s. s.collector) c.args.sweep.now c.in-Some.last c.work_row-worked.result.1 c.args.worker.now.run true was
    (sweep-failed (horizon_of c.in-Some.last.collector.keep c.args.worker.now.run) c.in-Some.last.collector c.work_row-worked.result.1.collector c.work_row-worked.result.1.failed each.1.1)

pub returns-then-all_advanced-clause-worked : goal.returns-then-all_advanced-clause-worked
returns-then-all_advanced-clause-worked g c =
    let done = on-ok c.work_row-worked.result.0 _ c.in-Ok.is c.work_row-worked.ensures.ok in
    let each = each-work c.args.parts.now.items c.args.meters.now.items c.in-Some.last c.work_row-worked.new.items.items c.work_row-worked.new.meters.items c.work_row-worked.result.1 _ c.requires.meters done in
    let all : All (λ s. s.failed ≡ false) c.work_row-worked.new.items.items = search rules in
    parts-well g.T.Tree.view g.T.Tree.pins (bound_of g.T.Tree.view g.T.Tree.bound) g.T.Tree.tight g.T.Tree.shaped c.args.worker.now.shift.now g.J.Meter.Meter.counts c.args.parts.now.items c.work_row-worked.new.items.items c.args.meters.now.items c.work_row-worked.new.meters.items done.count (λ k d f e h lt. (each.0 k d f e h lt).1) all

pub returns-then-all_advanced-clause-others : goal.returns-then-all_advanced-clause-others
returns-then-all_advanced-clause-others g c =
    let done = on-ok c.work_row-worked.result.0 _ c.in-Ok.is c.work_row-worked.ensures.ok in
    others-stay (length c.args.parts.now.items) c.args.meters.now.items c.work_row-worked.new.meters.items done.meters_count done.others

pub returns-then-all_advanced-clause-sweep : goal.returns-then-all_advanced-clause-sweep
returns-then-all_advanced-clause-sweep g c =
    let was : c.args.sweep.now ≡ Some c.in-Some.last = search rules in
    let done = on-ok c.work_row-worked.result.0 _ c.in-Ok.is c.work_row-worked.ensures.ok in
    let each = each-work c.args.parts.now.items c.args.meters.now.items c.in-Some.last c.work_row-worked.new.items.items c.work_row-worked.new.meters.items c.work_row-worked.result.1 _ c.requires.meters done in
    sweep-left (λ s. s.collector) c.args.sweep.now c.in-Some.last c.work_row-worked.result.1 c.args.worker.now.run false was
    (sweep-well (horizon_of c.in-Some.last.collector.keep c.args.worker.now.run) c.in-Some.last.collector c.work_row-worked.result.1.collector c.work_row-worked.result.1.failed (search rules) each.1.1)

pub returns-clause-worked : goal.returns-clause-worked
returns-clause-worked g c =
    let done = on-ok c.work_row-worked.result.0 _ c.in-Ok.is c.work_row-worked.ensures.ok in
    let each = each-work c.args.parts.now.items c.args.meters.now.items c.in-Some.last c.work_row-worked.new.items.items c.work_row-worked.new.meters.items c.work_row-worked.result.1 _ c.requires.meters done in
    parts-unwell g.T.Tree.view g.T.Tree.pins (bound_of g.T.Tree.view g.T.Tree.bound) g.T.Tree.tight g.T.Tree.shaped c.args.worker.now.shift.now g.J.Meter.Meter.counts c.args.parts.now.items c.work_row-worked.new.items.items c.args.meters.now.items c.work_row-worked.new.meters.items done.count (λ k d f e h lt. (each.0 k d f e h lt).1)

pub returns-clause-others : goal.returns-clause-others
returns-clause-others g c =
    let done = on-ok c.work_row-worked.result.0 _ c.in-Ok.is c.work_row-worked.ensures.ok in
    others-stay (length c.args.parts.now.items) c.args.meters.now.items c.work_row-worked.new.meters.items done.meters_count done.others

pub returns-clause-sweep : goal.returns-clause-sweep
returns-clause-sweep g c =
    let was : c.args.sweep.now ≡ Some c.in-Some.last = search rules in
    let done = on-ok c.work_row-worked.result.0 _ c.in-Ok.is c.work_row-worked.ensures.ok in
    let each = each-work c.args.parts.now.items c.args.meters.now.items c.in-Some.last c.work_row-worked.new.items.items c.work_row-worked.new.meters.items c.work_row-worked.result.1 _ c.requires.meters done in
    sweep-left (λ s. s.collector) c.args.sweep.now c.in-Some.last c.work_row-worked.result.1 c.args.worker.now.run true was
    (sweep-failed (horizon_of c.in-Some.last.collector.keep c.args.worker.now.run) c.in-Some.last.collector c.work_row-worked.result.1.collector c.work_row-worked.result.1.failed each.1.1)

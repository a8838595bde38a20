use Rattle.std.proofs.Common.{true≢false, sym, subst, ◌∙◌, arith}
use Rattle.pin_table.specs.Views.{CallerView}
use Rattle.pin_table.specs.Covers.{IsLater}
use Rattle.run_engine.proofs.lane_worker.work_lane.Goals as goal

pub leave_each-requires : goal.leave_each-requires
leave_each-requires g c = λ t.
    let u = c.in-Ok.ensures.used t in
    let w = c.in-Ok.ensures.went t in
    let may = c.requires.leaves t in
    omega (arith, u, w, may)

pub returns-in-Ok : goal.returns-in-Ok
returns-in-Ok g c =
    let b = c.in-Ok.ensures in
    let l = c.leave_each.ensures in
    record {
      later = subst (λ (v : CallerView). IsLater c.args.seat.now.lane.caller v) (sym l.caller) b.later;
      mapped = l.mapped c.args.worker.now.parts (g.J.Job.setting c.args.worker.now.job.now) b.mapped;
      used = λ t. l.used t ∙ b.used t;
      came = λ _ t. l.came t ∙ b.came t;
      went = λ _ t. let p = l.went t in let q = b.went t in omega (arith, p, q);
      counted = b.counted;
    }

pub returns-in-Err : goal.returns-in-Err
returns-in-Err g c =
    let b = c.in-Err.ensures in
    record {
      later = b.later;
      mapped = b.mapped;
      used = b.used;
      came = λ is. absurd (true≢false is);
      went = λ is. absurd (true≢false is);
      counted = b.counted;
    }

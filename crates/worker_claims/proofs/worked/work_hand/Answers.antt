use Rattle.std.proofs.Common.{sym, ap, ◌∙◌, subst, ◌∷◌, [], ◌++◌}
use Rattle.worker_claims.specs.Hands.{HoldsNone, gated}
use Rattle.worker_claims.proofs.Steps.{one_more}
use Rattle.worker_claims.proofs.worked.work_hand.Goals as goal

pub claims-preserved : goal.claims-preserved
claims-preserved g c = let i = c.claims.invariant in let e = c.give.ensures in let at = c.in-Some-claim.ensures.task.2 in record {
  of = e.of;
  idle = subst HoldsNone (sym e.free) tt;
  worked = one_more (gated (g.G.Gate.passed c.args.gate.now) (g.W.Worker.works c.args.worker.now)) c.args.board.now.tasks c.claims.hand.given c.give.new.hand.given c.in-Some-claim.number c.in-Some-claim.task c.work.new.task (e.given ∙ ap (λ l. l ++ (c.in-Some-claim.number, c.work.new.task) ∷ []) c.in-Some-claim.ensures.given) i.worked at (c.pass.ensures, c.work.ensures);
}

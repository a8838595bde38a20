use Rattle.worker_claims.specs.Hands.{IsHandOf, HoldsNone, AllWorked, gated}
use Rattle.worker_claims.proofs.worked.work_hand.Given as goal

abbrev pub invariant-claims : goal.invariant-claims
invariant-claims g l = record {
  of : IsHandOf l.board l.hand;
  idle : HoldsNone l.hand.doing;
  worked : AllWorked (gated (g.G.Gate.passed l.gate) (g.W.Worker.works l.worker)) l.board.tasks l.hand.given;
}

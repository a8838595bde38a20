use Rattle.std.proofs.Common.{◌≡◌, ℕ, ◌++◌, ◌+◌, Some, map, take, drop}
use Rattle.std.specs.Prelude.{All}
use Rattle.tree_laws.specs.Pairs.{pair_digest}
use Rattle.tree_laws.specs.Trees.{IsLeaf}
use Rattle.rotating_tree.specs.Nodes.{AllSome, IsEven, taken, places, size}
use Rattle.rotating_tree.specs.Circles.{IsStagedBy, slots}
use Rattle.rotating_tree.proofs.circle.stage_fresh.Given as goal

abbrev pub invariant-fresh : goal.invariant-fresh
invariant-fresh g l = record {
  even : IsEven l.node;
  width : l.width ≡ size l.node;
  step : IsStagedBy (pair_digest g.J.Job.encoded) l.n l.i l.initial.node l.node;
  slots : slots l.n l.start (places (taken l.node)) ≡ take l.kept (slots l.n l.start (places (taken l.initial.node))) ++ map Some (take l.i l.fresh) ++ drop (l.kept + l.i) (slots l.n l.start (places (taken l.initial.node)));
  leaves : (setting : ℕ) → All (λ s. s.setting ≡ setting) l.fresh → AllSome (IsLeaf g.J.Job.good setting) (places (taken l.initial.node)) → AllSome (IsLeaf g.J.Job.good setting) (places (taken l.node));
}

use Rattle.std.proofs.Common.{◌≡◌, ℕ, Some, map, drop}
use Rattle.std.specs.Prelude.{All}
use Rattle.record_text.specs.Shifts.{put_at}
use Rattle.tree_laws.specs.Pairs.{pair_digest}
use Rattle.tree_laws.specs.Trees.{IsLeaf}
use Rattle.rotating_tree.specs.Nodes.{AllSome, IsEven, taken, places, size}
use Rattle.rotating_tree.specs.Circles.{IsStagedBy, slots}
use Rattle.rotating_tree.proofs.circle.stage_places.Given as goal

abbrev pub invariant-places : goal.invariant-places
invariant-places g l = record {
  even : IsEven l.node;
  width : l.width ≡ size l.node;
  step : IsStagedBy (pair_digest g.J.Job.encoded) l.n l.i l.initial.node l.node;
  slots : put_at (drop l.i l.changed) (map Some (drop l.i l.news)) (slots l.n l.start (places (taken l.node))) ≡ put_at l.changed (map Some l.news) (slots l.n l.start (places (taken l.initial.node)));
  leaves : (setting : ℕ) → All (λ s. s.setting ≡ setting) l.news → AllSome (IsLeaf g.J.Job.good setting) (places (taken l.initial.node)) → AllSome (IsLeaf g.J.Job.good setting) (places (taken l.node));
}

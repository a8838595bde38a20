use Rattle.std.proofs.Common.{◌≡◌, ◌++◌, take, vec_len}
use Rattle.std.specs.List.{All}
use Rattle.tree_laws.specs.Trees.{IsLeaf}
use Rattle.coalescing_tree.proofs.sharing.share_all.Given as goal

abbrev pub invariant-fresh : goal.invariant-fresh
invariant-fresh g l = record {
  items : l.leaves.items ≡ l.initial.leaves.items ++ take l.i l.fresh;
  sound : All (λ s. IsLeaf g.J.Job.good s.setting s) (take l.i l.fresh);
  count : l.count ≡ vec_len l.initial.leaves;
}

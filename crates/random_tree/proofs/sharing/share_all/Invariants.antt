use Rattle.std.proofs.Common.{take}
use Rattle.std.specs.List.{All}
use Rattle.tree_laws.specs.Trees.{IsLeaf}
use Rattle.random_tree.specs.Steps.{AreLeaves}
use Rattle.random_tree.proofs.sharing.share_all.Given as goal

abbrev pub invariant-sheets : goal.invariant-sheets
invariant-sheets g l = record {
  leaves : AreLeaves (take l.i l.sheets) l.leaves.items;
  sound : All (λ s. IsLeaf g.J.Job.good s.setting s) (take l.i l.sheets);
}

use Rattle.std.proofs.Common.{◌≡◌, length, map, take}
use Rattle.std.specs.List.{All}
use Rattle.std.specs.VecDeque.{deque_capacity, deque_len}
use Rattle.tree_laws.specs.Trees.{IsLeaf}
use Rattle.folding_tree.specs.declared.part.Part.TheVariants.{Shared}
use Rattle.folding_tree.proofs.beginning.share_all.Given as goal

abbrev pub invariant-sheets : goal.invariant-sheets
invariant-sheets g l = record {
  room : deque_capacity l.parts ≡ length l.sheets;
  count : deque_len l.parts ≡ l.i;
  parts : l.parts.items ≡ map Shared (take l.i l.sheets);
  leaves : All (λ s. IsLeaf g.J.Job.good s.setting s) (take l.i l.sheets);
}

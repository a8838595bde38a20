use Rattle.folding_tree.specs.Folding.{row_of, ahead_of}
use Rattle.folding_tree.proofs.ParentLaws.{SoFar}
use Rattle.folding_tree.proofs.parents.parents_of.Given as goal

abbrev pub invariant-places : goal.invariant-places
invariant-places g l = SoFar (row_of l.below) (ahead_of l.draft) l.mid l.i l.above.items

use Rattle.std.proofs.Common.{◌≡◌, ◌++◌, length}
use Rattle.marker_chunker.specs.Cuts.{joined}
use Rattle.plain_program.proofs.records.joined_leaves.Given as goal

abbrev pub invariant-leaves : goal.invariant-leaves
invariant-leaves l = l.records ++ joined l.rest ≡ joined l.leaves

abbrev pub decreases-leaves : goal.decreases-leaves
decreases-leaves l = length l.rest

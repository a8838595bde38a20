use Rattle.std.proofs.Common.{◌≡◌, ◌++◌, length}
use Rattle.plain_program.proofs.records.append_leaves.Given as goal

abbrev pub invariant-leaves : goal.invariant-leaves
invariant-leaves l = l.into.items ++ l.rest ≡ l.initial.into.items ++ l.leaves

abbrev pub decreases-leaves : goal.decreases-leaves
decreases-leaves l = length l.rest

use Rattle.std.proofs.Common.{◌≤◌}
use Rattle.tree_tests.proofs.leaves.leaves.Given as goal

abbrev pub invariant-bytes : goal.invariant-bytes
invariant-bytes g l = l.from ≤ l.i

use Rattle.std.proofs.Common.{ℕ, ◌<◌, get_or}
use Rattle.tree_tests.proofs.window.all_below.Given as goal

abbrev pub invariant-places : goal.invariant-places
invariant-places l = (k d : ℕ) → k < l.i → get_or l.places k d < l.n

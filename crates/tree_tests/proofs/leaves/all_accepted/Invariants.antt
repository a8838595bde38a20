use Rattle.std.proofs.Common.{◌≡◌, ℕ, ◌<◌, [], get_or, true}
use Rattle.tree_tests.proofs.leaves.all_accepted.Given as goal

abbrev pub invariant-records : goal.invariant-records
invariant-records g l = (k : ℕ) → k < l.i → g.J.Job.accepts (g.J.Job.setting l.job) (get_or l.records k []) ≡ true

use Rattle.std.proofs.Common.{◌≡◌, ℕ, ◌<◌, [], get_or, true}
use Rattle.engine_tests.proofs.desk.accepts_leaf.Given as goal

abbrev pub invariant-records : goal.invariant-records
invariant-records g l = (k : ℕ) → k < l.i → g.J.Job.accepts (g.J.Job.setting l.job) (get_or l.leaf k []) ≡ true

use Rattle.std.proofs.Common.{◌≡◌, ℕ, ◌<◌, [], get_or, true}
use Rattle.program_tests.proofs.sheet_tests.all_accepted.Given as goal

abbrev pub invariant-loop-i : goal.invariant-loop-i
invariant-loop-i g l = (k : ℕ) → k < l.i → g.J.Job.accepts (g.J.Job.setting l.job) (get_or l.records k []) ≡ true

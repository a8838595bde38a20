use Rattle.std.proofs.Common.{ℕ, ◌<◌, [], get_or}
use Rattle.job_laws.specs.Meanings.{AllAccepted, meaning_of}
use Rattle.engine_tests.proofs.desk.accepts_window.Given as goal

abbrev pub invariant-leaves : goal.invariant-leaves
invariant-leaves g l = (k : ℕ) → k < l.i → AllAccepted (meaning_of g.J.Job l.job) (get_or l.window.window.leaves k [])

use Rattle.job_laws.specs.Meanings.{AllAccepted, meaning_of}
use Rattle.engine_tests.proofs.desk.gathered.Given as goal

abbrev pub invariant-leaves : goal.invariant-leaves
invariant-leaves g l = AllAccepted (meaning_of g.J.Job l.job) l.all

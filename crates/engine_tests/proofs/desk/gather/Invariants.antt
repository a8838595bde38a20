use Rattle.job_laws.specs.Meanings.{AllAccepted, meaning_of}
use Rattle.engine_tests.proofs.desk.gather.Given as goal

abbrev pub invariant-records : goal.invariant-records
invariant-records g l = AllAccepted (meaning_of g.J.Job l.job) l.all

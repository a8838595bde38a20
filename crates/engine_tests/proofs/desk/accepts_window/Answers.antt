use Rattle.std.proofs.Common.{arith, []}
use Rattle.std.proofs.lemmas.List.Elements.{All-from_get_or}
use Rattle.job_laws.specs.Meanings.{AllAccepted, meaning_of}
use Rattle.engine_tests.proofs.desk.accepts_window.Goals as goal

pub returns : goal.returns
returns g c = λ holds. All-from_get_or (AllAccepted (meaning_of g.J.Job c.args.job.now)) c.args.window.now.window.leaves [] (λ k below. c.leaves.invariant k (omega arith))

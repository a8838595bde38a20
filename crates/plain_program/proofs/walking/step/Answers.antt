use Rattle.std.proofs.Common.{sym, subst}
use Rattle.std.specs.Prelude.{IfOk}
use Rattle.record_text.specs.declared.command.Command.{Command}
use Rattle.job_laws.specs.Meanings.{meaning_of}
use Rattle.plain_program.specs.Walk.{Walks}
use Rattle.plain_program.proofs.walking.step.Goals as goal

pub returns-in-Run-clause-walks : goal.returns-in-Run-clause-walks
returns-in-Run-clause-walks g c =
    let j = meaning_of g.J.Job c.args.job.now in
    subst (λ (command : Command). IfOk c.answer.result (λ fault. Walks j c.args.walk.now c.answer.new.walk command c.args.line fault)) (sym c.in-Run.is) (c.answer.ensures.walks c.args.line)

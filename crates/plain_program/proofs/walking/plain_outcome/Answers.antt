use Rattle.std.proofs.Common.{ap, ◌∙◌}
use Rattle.record_text.specs.Script.{Done, Ending, commands}
use Rattle.window_manager.specs.Windows.{empty_window}
use Rattle.job_laws.specs.Meanings.{meaning_of}
use Rattle.definitions.specs.Limits.{most_script}
use Rattle.plain_program.specs.Plain.{ending_of_rest}
use Rattle.plain_program.proofs.ScriptSteps.{first_fault, whole_walk}
use Rattle.plain_program.proofs.walking.plain_outcome.Goals as goal

pub returns : goal.returns
returns g c =
    let j = meaning_of g.J.Job c.args.job.now in
    let fault = c.in_ok-script.script.fault in
    let rest = ending_of_rest fault Done in
    let ending = ap (λ f. ending_of_rest f Done) c.or.ensures ∙ first_fault c.in_ok-refused.refused fault Done in
    ap (λ (e : Ending). (c.walk_commands.new.walk.written.items, e)) ending
    ∙ c.in_ok-refused.ensures rest
    ∙ whole_walk j (empty_window c.args.kind c.args.places) c.new-walk.result c.deref.result.now rest (commands most_script c.args.script.items) c.new-walk.ensures.run c.new-walk.ensures.window c.new-walk.ensures.written
    ((λ i. (c.deref.ensures.value i, rest)) ∙ c.in_ok-script.ensures.commands)

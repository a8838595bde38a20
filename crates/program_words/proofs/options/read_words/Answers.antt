use Rattle.std.proofs.Common.{◌∙◌, sym, map, string_bytes}
use Rattle.program_words.specs.Plans.{values_as_text}
use Rattle.program_words.proofs.PlanLaws.{plan_of-none, plan_of-some}
use Rattle.program_words.proofs.options.read_words.Goals as goal

pub returns-in-Ok-false-clause-refused : goal.returns-in-Ok-false-clause-refused
returns-in-Ok-false-clause-refused c = plan_of-none (map string_bytes c.args.words.now) (sym c.in-Ok-false.ensures ∙ c.in-Ok-false.field-0-test)

pub returns-in-Ok-plan_by-clause-accepted : goal.returns-in-Ok-plan_by-clause-accepted
returns-in-Ok-plan_by-clause-accepted c =
    plan_of-some (map string_bytes c.args.words.now) (values_as_text c.in-Ok.values) (sym c.in-Ok-true.ensures ∙ c.in-Ok-true.field-0-test) c.in-Ok.ensures
    ∙ sym c.plan_by.ensures.plan ∙ c.in-Ok-plan_by.is

pub returns-in-Err-plan_by-clause-refused : goal.returns-in-Err-plan_by-clause-refused
returns-in-Err-plan_by-clause-refused c =
    plan_of-some (map string_bytes c.args.words.now) (values_as_text c.in-Ok.values) (sym c.in-Ok-true.ensures ∙ c.in-Ok-true.field-0-test) c.in-Ok.ensures
    ∙ sym c.plan_by.ensures.plan ∙ c.in-Err-plan_by.is

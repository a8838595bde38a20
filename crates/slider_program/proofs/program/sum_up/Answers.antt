use Rattle.std.proofs.Common.{◌∙◌, List, ℕ, subst}
use Rattle.slider_session.specs.Devices.{sink_view}
use Rattle.slider_program.specs.Program.{SumsUp}
use Rattle.slider_program.proofs.program.sum_up.Goals as goal

pub returns-in-Ok-clause-summed : goal.returns-in-Ok-clause-summed
returns-in-Ok-clause-summed g c =
    subst (λ (l : List ℕ). SumsUp l (sink_view g.K.Sink c.args.out.now) (sink_view g.K.Sink c.status_of_summary.new.out) c.status_of_summary.result)
    (c.as_bytes.ensures.value ∙ c.in-Ok.ensures.summary) c.status_of_summary.ensures

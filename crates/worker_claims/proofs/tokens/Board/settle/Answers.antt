use Rattle.std.proofs.Common.{ap, ◌∙◌, []}
use Rattle.worker_claims.specs.Rule.{has_given}
use Rattle.worker_claims.proofs.tokens.Board.settle.Goals as goal

pub bring_home-requires-clause-task : goal.bring_home-requires-clause-task
bring_home-requires-clause-task g c = (c.args.number, c.args.task, ap (λ m. m.0.doing) c.put.ensures.1 ∙ c.requires.holds.0, ap (λ m. m.1) c.put.ensures.1)

pub returns : goal.returns
returns g c = (
  c.bring_home.ensures.0 ∙ c.put.ensures.0,
  c.bring_home.ensures.1 c.args.number c.args.task (ap (λ m. m.0.doing) c.put.ensures.1 ∙ c.requires.holds.0) (ap (λ m. m.1) c.put.ensures.1)
      ∙ ap (λ m. (has_given c.args.number c.args.task m.0, [])) c.put.ensures.1,
)

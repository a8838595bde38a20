use Rattle.std.proofs.Common.{sym, subst, ◌∙◌}
use Rattle.job_laws.specs.Meanings.{meaning_of}
use Rattle.slider_session.specs.Accepted.{HoldsAccepted}
use Rattle.slider_session.proofs.Accepted.{keeps_accepted}
use Rattle.plain_program.proofs.walking.change.Goals as goal

pub returns-in-None-clause-accepted : goal.returns-in-None-clause-accepted
returns-in-None-clause-accepted g c = λ e.
    let j = meaning_of g.J.Job c.args.job.now in
    let taken = sym c.in_ok-plain_apply.ensures.refusal ∙ c.in-None.is in
    subst (HoldsAccepted j) (sym (c.in_ok-plain_apply.ensures.after c.in-None.is)) (keeps_accepted j c.args.walk.now.window c.args.c.now taken c.requires.accepted)

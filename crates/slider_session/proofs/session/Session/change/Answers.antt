use Rattle.std.proofs.Common.{subst}
use Rattle.job_laws.specs.Meanings.{meaning_of}
use Rattle.window_manager.specs.Windows.{refusal_of}
use Rattle.window_manager.specs.Views.{Done}
use Rattle.slider_session.proofs.Sessions.{done-session}
use Rattle.slider_session.proofs.session.Session.change.Goals as goal

pub invariant_of-self : goal.invariant_of-self
invariant_of-self g c =
    let s = c.self.inside in
    let done = subst (λ (job : g.row.J.Denot). Done (refusal_of (g.J.Job.accepts (g.J.Job.setting job)) s.window.window c.args.c) s.window c.apply.new.self c.args.c c.apply.result) c.job.ensures c.apply.ensures in
    (done-session g.T.Tree.KIND (meaning_of g.J.Job s.engine.job) s.engine s.window c.apply.new.self c.args.c c.self.invariant.0 c.apply.result done, c.self.invariant.1)

use Rattle.std.proofs.Common.{sym, ap, ◌∙◌, subst}
use Rattle.window_manager.specs.Windows.{refusal_of}
use Rattle.window_manager.specs.Buckets.{BucketView, IsOfBuckets}
use Rattle.window_manager.proofs.BucketLaws.{is_other, other_refused}
use Rattle.window_manager.proofs.buckets.BucketWindow.refusal.Goals as goal

pub returns-in-Drop : goal.returns-in-Drop
returns-in-Drop g c =
    let accepts = g.J.Job.accepts (g.J.Job.setting c.args.job.now) in
    c.drop_refusal.ensures accepts ∙ ap (refusal_of accepts c.args.self.now.window) (sym c.in-Drop.is)

pub returns-in_default : goal.returns-in_default
returns-in_default g c =
    other_refused (g.J.Job.accepts (g.J.Job.setting c.args.job.now)) c.args.self.now.window c.args.c.now
    (subst (λ (v : BucketView). IsOfBuckets v.window) c.self.view_is c.self.invariant.window)
    (is_other c.args.c.now c.in_default.not-Bucket c.in_default.not-Drop c.in_default.not-Late)

use Rattle.std.proofs.Common.{sym, ◌∙◌}
use Rattle.window_manager.proofs.BucketLaws.{bucket_refused}
use Rattle.window_manager.proofs.buckets.BucketWindow.bucket_refusal.Goals as goal

pub returns : goal.returns
returns g c =
    c.records_refusal.ensures
    ∙ bucket_refused c.args.self.now.window c.kept-kept.ensures.window c.args.records.now (g.J.Job.accepts (g.J.Job.setting c.args.job.now)) c.kept-kept.result c.kept-kept.ensures.kept (sym c.is_full.ensures ∙ c.if-is_full.false)

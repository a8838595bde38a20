use Rattle.std.proofs.Common.{rules, ◌≡◌, ◌<◌, true, [], length, ap, ◌∙◌}
use Rattle.record_text.specs.declared.command.Command.TheVariants.{Late}
use Rattle.window_manager.specs.Windows.{WindowState, refusal_of}
use Rattle.window_manager.specs.Buckets.{BucketView}
use Rattle.window_manager.proofs.BucketLaws.{late_refused}
use Rattle.window_manager.proofs.buckets.BucketWindow.late_refusal.Goals as goal

pub returns : goal.returns
returns g c =
    let b = c.self.inside in let more = c.args.more.now in let accepts = g.J.Job.accepts (g.J.Job.setting c.args.job.now) in
    let w : WindowState = record { kind = b.kind; places = b.places; leaves = b.leaves.items; files = []; current = [] } in
    let takes : c.takes_late.result ≡ true = search rules in
    let within : c.args.place < length b.leaves.items = search rules in
    c.records_refusal.ensures
    ∙ late_refused w c.args.place more accepts b.size (c.takes_late.ensures c.args.place more ∙ takes) within c.self.invariant.sized
    ∙ ap (λ (v : BucketView). refusal_of accepts v.window (Late c.args.place more)) c.self.view_is

use Rattle.std.proofs.Common.{rules, ◌≡◌, true, [], length, ◌∙◌, subst, arith}
use Rattle.std.specs.declared.option.Option.TheVariants.{None}
use Rattle.record_text.specs.declared.command.Command.TheVariants.{Drop}
use Rattle.window_manager.specs.Windows.{WindowState, refusal_of}
use Rattle.window_manager.specs.Buckets.{BucketView}
use Rattle.window_manager.proofs.BucketLaws.{drop_none}
use Rattle.window_manager.proofs.buckets.BucketWindow.drop_refusal.Goals as goal

pub returns : goal.returns
returns c =
    let b = c.self.inside in
    let w : WindowState = record { kind = b.kind; places = b.places; leaves = b.leaves.items; files = []; current = [] } in
    let count : c.len.result ≡ length b.leaves.items = search rules in
    let takes : c.takes_drop.result ≡ true = search rules in
    λ accepts. subst (λ (v : BucketView). None ≡ refusal_of accepts v.window (Drop c.args.n)) c.self.view_is (drop_none w c.args.n c.self.invariant.window (c.takes_drop.ensures c.args.n ∙ takes) (omega (arith, c.if-n-len.false, count)) accepts)

use Rattle.std.proofs.Common.{rules, sym, subst}
use Rattle.record_text.specs.declared.kind.Kind.{Kind}
use Rattle.run_settings.specs.Settings.{AreWithin}
use Rattle.window_manager.specs.Views.{WindowView, no_leaves}
use Rattle.engine_tests.specs.Desks.{IsDesk}
use Rattle.engine_tests.proofs.DeskLaws.{desk-new}
use Rattle.engine_tests.proofs.desk.Desk.new.Goals as goal

pub invariant_of-result : goal.invariant_of-result
invariant_of-result g c =
    let within : AreWithin c.args.settings = search rules in
    let engine = c.in_ok-engine.engine in
    let parts = c.args.settings.parts in
    subst (λ (w : WindowView). IsDesk g.T.Tree.KIND parts 0 engine w) (sym c.new.ensures)
    (subst (λ (k : Kind). IsDesk g.T.Tree.KIND parts 0 engine (no_leaves k c.args.settings.places)) (sym c.KIND.ensures)
    (desk-new g.J.Job g.T.Tree.view g.T.Tree.pins c.args.start c.args.jobs.engine c.args.settings g.T.Tree.KIND engine within c.in_ok-engine.ensures))

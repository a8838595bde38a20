use Rattle.std.proofs.Common.{sym, subst}
use Rattle.window_manager.specs.Views.{WindowView}
use Rattle.engine_tests.specs.Desks.{IsDesk}
use Rattle.engine_tests.proofs.DeskLaws.{desk-ran}
use Rattle.engine_tests.proofs.desk.Desk.run.Goals as goal

pub invariant_of-self : goal.invariant_of-self
invariant_of-self g c =
    let e = c.self.inside in
    subst (λ (w : WindowView). IsDesk g.T.Tree.KIND e.parts e.told c.run.new.self w) (sym c.run_done.ensures)
    (desk-ran g.T.Tree.KIND e.parts e.told g.T.Tree.view g.T.Tree.shaped e.engine c.run.new.self e.window c.in-Ok.ensures.ok c.run.ensures.worked.same c.self.invariant)

use Rattle.std.proofs.Common.{subst}
use Rattle.pin_table.specs.Views.{MemoView}
use Rattle.pin_table.specs.Ends.{Closes}
use Rattle.pin_table.proofs.Handed.{closes-memo}
use Rattle.pin_table.proofs.memo.Memo.close.Goals as goal

pub returns-clause-closed : goal.returns-clause-closed
returns-clause-closed g c = subst (λ (m : MemoView). Closes m c.args.callers.items c.close_all.result.items) c.self.view_is (closes-memo c.self.inside.locks.items c.self.inside.start c.self.inside.callers c.args.callers.items c.close_all.result.items c.self.invariant.0 c.close_all.ensures)

use Rattle.std.proofs.Common.{◌-◌, sym, subst, arith}
use Rattle.map_tasks.specs.Table.{TableView, IsTable, Touches}
use Rattle.map_tasks.proofs.Rows.{table-swapped, touches-swapped}
use Rattle.map_tasks.proofs.texts.Texts.touch.Goals as goal

pub invariant_of-self : goal.invariant_of-self
invariant_of-self g c = subst (IsTable (c.self.inside.calm - 1) c.self.inside.next) (sym c.swap_indices.ensures.entries) (table-swapped c.self.inside.calm c.self.inside.next c.self.inside.map.entries c.self.invariant c.args.place (omega arith))

pub returns : goal.returns
returns g c = subst (λ (v : TableView). Touches c.args.place (c.self.inside.calm - 1) v (record { rows = c.swap_indices.new.self.entries; calm = c.self.inside.calm - 1; next = c.self.inside.next })) c.self.view_is (touches-swapped c.self.inside.calm c.self.inside.next c.self.inside.map.entries c.self.invariant c.args.place c.swap_indices.new.self.entries (omega arith) c.swap_indices.ensures.entries)

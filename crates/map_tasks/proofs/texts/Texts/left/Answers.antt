use Rattle.std.proofs.Common.{arith}
use Rattle.map_tasks.specs.Table.{texts_in}
use Rattle.map_tasks.proofs.Totals.{total-absent}
use Rattle.map_tasks.proofs.Rows.{absent-rows}
use Rattle.map_tasks.proofs.texts.Texts.left.Goals as goal

pub returns-in-None : goal.returns-in-None
returns-in-None g c =
    let absent = absent-rows c.args.records.now c.args.self.now.rows (λ k d h. c.in-None.ensures k d h) in
    let used = total-absent c.args.records.now (λ e. e.used) (texts_in c.args.self.now.rows) absent in
    let gone = total-absent c.args.records.now (λ e. e.gone) (texts_in c.args.self.now.rows) absent in
    omega (arith, used, gone)

use Rattle.pin_table.proofs.Covering.{backed-then, backed-order}
use Rattle.pin_table.proofs.covers.backed_pins_stay.Goals as goal

pub returns-clause-follow : goal.returns-clause-follow
returns-clause-follow c = backed-then

pub returns-clause-order : goal.returns-clause-order
returns-clause-order c = backed-order

use Rattle.pin_table.proofs.OwnEvents.{gained-then}
use Rattle.pin_table.proofs.own_gains.gains_add_up.Goals as goal

pub returns : goal.returns
returns c = gained-then

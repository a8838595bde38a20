use Rattle.pin_table.proofs.Holds.{held-live}
use Rattle.pin_table.proofs.laws.held_is_live.Goals as goal

pub returns : goal.returns
returns c = held-live

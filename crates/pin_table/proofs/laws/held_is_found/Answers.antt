use Rattle.pin_table.proofs.Holds.{held-found}
use Rattle.pin_table.proofs.laws.held_is_found.Goals as goal

pub returns : goal.returns
returns c = held-found

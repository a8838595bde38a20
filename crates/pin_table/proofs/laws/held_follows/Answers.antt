use Rattle.pin_table.proofs.Holds.{held-follows}
use Rattle.pin_table.proofs.laws.held_follows.Goals as goal

pub returns : goal.returns
returns c = held-follows

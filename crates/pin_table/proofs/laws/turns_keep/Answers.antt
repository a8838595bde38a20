use Rattle.pin_table.proofs.Holds.{turn-keeps}
use Rattle.pin_table.proofs.laws.turns_keep.Goals as goal

pub returns : goal.returns
returns c = turn-keeps

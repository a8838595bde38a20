use Rattle.pin_table.proofs.Holds.{answers-exact}
use Rattle.pin_table.proofs.laws.answers_are_exact.Goals as goal

pub returns : goal.returns
returns c = answers-exact

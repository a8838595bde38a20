use Rattle.pin_table.proofs.Knowing.{covered-known-at, known-got}
use Rattle.pin_table.proofs.known_inputs.pins_are_known.Goals as goal

pub returns-clause-covered : goal.returns-clause-covered
returns-clause-covered c = λ v os ps p covered. covered-known-at v os p ps covered

pub returns-clause-stay : goal.returns-clause-stay
returns-clause-stay c = known-got

use Rattle.pin_table.proofs.OwnEvents.{met-later, met-before}
use Rattle.pin_table.proofs.own_gains.met_goes_on.Goals as goal

pub returns-clause-later : goal.returns-clause-later
returns-clause-later c = met-later

pub returns-clause-before : goal.returns-clause-before
returns-clause-before c = met-before

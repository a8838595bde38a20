use Rattle.pin_table.proofs.Covering.{balanced-then, balanced-beside, covered-then}
use Rattle.pin_table.proofs.covers.balances_add_up.Goals as goal

pub returns-clause-follow : goal.returns-clause-follow
returns-clause-follow c = balanced-then

pub returns-clause-beside : goal.returns-clause-beside
returns-clause-beside c = balanced-beside

pub returns-clause-keep : goal.returns-clause-keep
returns-clause-keep c = covered-then

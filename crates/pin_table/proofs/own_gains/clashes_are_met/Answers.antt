use Rattle.pin_table.proofs.OwnEvents.{clash-met, keep-clash-met, met-fault}
use Rattle.pin_table.proofs.own_gains.clashes_are_met.Goals as goal

pub returns-clause-look : goal.returns-clause-look
returns-clause-look g c = λ v w run input e h. clash-met g.R.Recipe.fits g.R.Recipe.digest_of run input v w e h

pub returns-clause-keep : goal.returns-clause-keep
returns-clause-keep g c = λ v w run input out e i o h. keep-clash-met g.R.Recipe.fits g.R.Recipe.digest_of run input v w out e i o h

pub returns-clause-fault : goal.returns-clause-fault
returns-clause-fault g c = met-fault

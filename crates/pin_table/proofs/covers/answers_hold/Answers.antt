use Rattle.pin_table.proofs.Covering.{got-then, got-balanced}
use Rattle.pin_table.proofs.Answering.{looks-got, keeps-got, faults-got}
use Rattle.pin_table.proofs.covers.answers_hold.Goals as goal

pub returns-clause-look : goal.returns-clause-look
returns-clause-look g c = λ v w run input looked fits h. looks-got v w fits g.R.Recipe.fits g.R.Recipe.digest_of run input looked h

pub returns-clause-keep : goal.returns-clause-keep
returns-clause-keep g c = λ v w run input out kept fits h. keeps-got v w fits g.R.Recipe.fits g.R.Recipe.digest_of run input out kept h

pub returns-clause-fault : goal.returns-clause-fault
returns-clause-fault g c = faults-got

pub returns-clause-follow : goal.returns-clause-follow
returns-clause-follow g c = got-then

pub returns-clause-beside : goal.returns-clause-beside
returns-clause-beside g c = got-balanced

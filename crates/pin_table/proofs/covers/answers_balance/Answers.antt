use Rattle.pin_table.proofs.Answering.{looks, keeps}
use Rattle.pin_table.proofs.covers.answers_balance.Goals as goal

pub returns-clause-look : goal.returns-clause-look
returns-clause-look g c = λ v w ps run input looked fits covered h. looks v w fits ps covered g.R.Recipe.fits g.R.Recipe.digest_of run input looked h

pub returns-clause-keep : goal.returns-clause-keep
returns-clause-keep g c = λ v w ps run input out kept fits covered h. keeps v w fits ps covered g.R.Recipe.fits g.R.Recipe.digest_of run input out kept h

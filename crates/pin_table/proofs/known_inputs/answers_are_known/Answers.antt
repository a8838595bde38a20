use Rattle.pin_table.proofs.Knowing.{hit-known, stored-known, found-known}
use Rattle.pin_table.proofs.known_inputs.answers_are_known.Goals as goal

pub returns-clause-hit : goal.returns-clause-hit
returns-clause-hit g c = λ v w run input p fits h. hit-known v w fits g.R.Recipe.fits g.R.Recipe.digest_of run input p h

pub returns-clause-stored : goal.returns-clause-stored
returns-clause-stored g c = λ v w run input out p fits h. stored-known v w fits g.R.Recipe.fits g.R.Recipe.digest_of run input out p h

pub returns-clause-found : goal.returns-clause-found
returns-clause-found g c = λ v w run input out p fits h. found-known v w fits g.R.Recipe.fits g.R.Recipe.digest_of run input p h

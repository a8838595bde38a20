use Rattle.pin_table.proofs.Knowing.{known-looked, known-kept}
use Rattle.pin_table.proofs.known_inputs.known_is_found.Goals as goal

pub returns-clause-look : goal.returns-clause-look
returns-clause-look g c = λ v w run input looked fits known h. known-looked v w fits g.R.Recipe.fits g.R.Recipe.digest_of run input looked known h

pub returns-clause-keep : goal.returns-clause-keep
returns-clause-keep g c = λ v w run input out kept fits known h. known-kept v w fits g.R.Recipe.fits g.R.Recipe.digest_of run input out kept known h

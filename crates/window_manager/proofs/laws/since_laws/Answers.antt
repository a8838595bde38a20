use Rattle.window_manager.proofs.SinceSteps.{since_anew, since_new, since_on}
use Rattle.window_manager.proofs.laws.since_laws.Goals as goal

pub returns-clause-new : goal.returns-clause-new
returns-clause-new c = since_new

pub returns-clause-anew : goal.returns-clause-anew
returns-clause-anew c = since_anew

pub returns-clause-on : goal.returns-clause-on
returns-clause-on c = since_on

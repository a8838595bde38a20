use Rattle.window_manager.proofs.JoinLaws.{splices_join}
use Rattle.window_manager.proofs.laws.splices_join.Goals as goal

pub returns : goal.returns
returns c = splices_join

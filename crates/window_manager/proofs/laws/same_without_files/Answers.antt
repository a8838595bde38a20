use Rattle.window_manager.proofs.OneFile.{same}
use Rattle.window_manager.proofs.laws.same_without_files.Goals as goal

pub returns : goal.returns
returns c = same

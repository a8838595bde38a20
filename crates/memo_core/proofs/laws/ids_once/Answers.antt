use Rattle.memo_core.proofs.HistoryLaws.{ids_once as law}
use Rattle.memo_core.proofs.laws.ids_once.Goals as goal

pub returns : goal.returns
returns c = law

use Rattle.memo_core.proofs.HistoryLaws.{absent_exact as law}
use Rattle.memo_core.proofs.laws.absent_exact.Goals as goal

pub returns : goal.returns
returns c = law

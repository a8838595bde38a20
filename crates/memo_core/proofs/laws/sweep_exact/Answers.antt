use Rattle.memo_core.proofs.HistoryLaws.{sweep_exact as law}
use Rattle.memo_core.proofs.laws.sweep_exact.Goals as goal

pub returns : goal.returns
returns c = law

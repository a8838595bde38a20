use Rattle.memo_core.proofs.HistoryLaws.{given_before_released as law}
use Rattle.memo_core.proofs.laws.given_before_released.Goals as goal

pub returns : goal.returns
returns c = law

use Rattle.memo_core.proofs.HistoryLaws.{pinned_is_live as law}
use Rattle.memo_core.proofs.laws.pinned_is_live.Goals as goal

pub returns : goal.returns
returns c = law

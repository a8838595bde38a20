use Rattle.memo_core.proofs.SaidDigests.{live-digest}
use Rattle.memo_core.proofs.laws.live_digest.Goals as goal

pub returns : goal.returns
returns c = live-digest

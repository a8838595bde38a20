use Rattle.pin_table.proofs.Knowing.{one-digest}
use Rattle.pin_table.proofs.known_inputs.ids_have_one_digest.Goals as goal

pub returns : goal.returns
returns c = one-digest

use Rattle.chunk_store.proofs.Cutting.{begins}
use Rattle.chunk_store.proofs.cutter.Cutter.new.Goals as goal

pub invariant_of-result : goal.invariant_of-result
invariant_of-result c = rw (c.new.ensures.items, c.new-2.ensures) begins

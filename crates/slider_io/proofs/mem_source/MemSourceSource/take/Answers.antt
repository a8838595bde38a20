use Rattle.std.proofs.Common.{arith, rules}
use Rattle.slider_io.proofs.Bytes.{took}
use Rattle.slider_io.proofs.mem_source.MemSourceSource.take.Goals as goal

pub returns-clause-bytes : goal.returns-clause-bytes
returns-clause-bytes c = rw (← c.self.view_is) (took _ c.min-room.result _ _ _ _ c.give-n.new.into (search rules) (search rules) (search rules) (search rules) (λ s. omega (arith, c.self.invariant)))

use Rattle.std.proofs.Common.{arith, refl}
use Rattle.marker_chunker.specs.Markers.{window_hash}
use Rattle.marker_chunker.proofs.roll.Roll.new.Goals as goal

pub invariant_of-result : goal.invariant_of-result
unfolding window_hash
invariant_of-result c = (omega arith, omega arith, (λ h. refl), refl)

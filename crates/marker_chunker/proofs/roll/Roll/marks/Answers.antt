use Rattle.std.proofs.Common.{ap, nat_eq, ◌%◌, ℕ}
use Rattle.marker_chunker.specs.Markers.{marks}
use Rattle.marker_chunker.proofs.roll.Roll.marks.Goals as goal

pub returns : goal.returns
unfolding marks
returns c = ap (λ (h : ℕ). nat_eq (h % 4096) 4095) c.hash.ensures

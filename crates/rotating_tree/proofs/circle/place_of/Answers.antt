use Rattle.std.proofs.Common.{arith, refl, inl, inr}
use Rattle.rotating_tree.proofs.circle.place_of.Goals as goal

pub returns-then-at-n : goal.returns-then-at-n
returns-then-at-n c = (omega arith, inl refl)

pub returns-else-at-n : goal.returns-else-at-n
returns-else-at-n c = (omega arith, inr (omega arith))

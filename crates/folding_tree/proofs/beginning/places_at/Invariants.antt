use Rattle.std.proofs.Common.{◌≡◌, ◌+◌, map, take}
use Rattle.folding_tree.proofs.beginning.places_at.Given as goal

abbrev pub invariant-changed : goal.invariant-changed
invariant-changed l = l.places.items ≡ map (λ p. l.low + p) (take l.i l.changed)

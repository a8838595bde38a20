use Rattle.std.proofs.Common.{◌≡◌, ◌-◌}
use Rattle.folding_tree.specs.Levels.{places_from}
use Rattle.folding_tree.proofs.parents.places_between.Given as goal

abbrev pub invariant-places : goal.invariant-places
invariant-places l = l.places.items ≡ places_from l.low (l.place - l.low)

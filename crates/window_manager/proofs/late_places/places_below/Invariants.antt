use Rattle.std.proofs.Common.{◌≡◌, ◌<◌, All, length, take}
use Rattle.std.specs.Prelude.{slice_index, nat_lt}
use Rattle.std.specs.List.{filter}
use Rattle.window_manager.proofs.late_places.places_below.Given as goal

abbrev pub invariant-places : goal.invariant-places
invariant-places l = record {
  value : l.below ≡ filter (λ p. nat_lt p l.place) (take l.i l.places);
  next : l.i < length l.places → All (λ p. p < slice_index l.places l.i) l.below;
  all : All (λ p. p < l.place) l.below;
}

use Rattle.std.proofs.Common.{◌≡◌, ◌+◌, ◌<◌, All, length, take}
use Rattle.std.specs.Prelude.{slice_index}
use Rattle.window_manager.specs.Slides.{lowered}
use Rattle.window_manager.proofs.late_places.lower.Given as goal

abbrev pub invariant-places : goal.invariant-places
invariant-places l = record {
  value : l.left ≡ lowered l.by (take l.i l.places);
  below : l.i < length l.places → All (λ p. p + l.by < slice_index l.places l.i) l.left;
}

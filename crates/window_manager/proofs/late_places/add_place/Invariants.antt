use Rattle.std.proofs.Common.{◌≡◌, ◌<◌, ◌++◌, ◌∷◌, ℕ, All, take}
use Rattle.std.specs.Prelude.{nat_lt}
use Rattle.std.specs.List.{filter}
use Rattle.window_manager.proofs.late_places.add_place.Given as goal

abbrev pub invariant-places : goal.invariant-places
invariant-places l = record {
  value : l.more ≡ filter (λ p. nat_lt p l.place) l.places ++ l.place ∷ filter (λ p. nat_lt l.place p) (take l.i l.places);
  below : (q : ℕ) → l.place < q → All (λ x. x < q) (take l.i l.places) → All (λ x. x < q) l.more;
}

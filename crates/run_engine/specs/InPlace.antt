-- Lists whose items are each compared with the one that was at its place.
use Rattle.std.specs.Prelude.{◌≡◌, ℕ, ◌<◌, List, length, slice_index_or}

-- The property holds of each item and its place.
abbrev pub EachAt : {A : Type 0} → (ℕ → A → Type 0) → List A → Type 0
EachAt {A} P xs = (k : ℕ) (d : A) → k < length xs → P k (slice_index_or xs k d)

-- There are as many items as before, and the property holds of each place, its old item and its new one.
pub record EachPair {A : Type 0} (P : ℕ → A → A → Type 0) (old new : List A) : Type 0 where
  pub count : length new ≡ length old
  pub each : (k : ℕ) (d e : A) → k < length old → P k (slice_index_or old k d) (slice_index_or new k e)

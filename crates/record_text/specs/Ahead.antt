-- Bytes that were taken from a source and are not used yet.
use Rattle.std.specs.Prelude.{◌≢◌, ℕ, ◌<◌, ◌≤◌, List, length, drop, slice_index}

-- The most bytes that are taken from a source at once.
abbrev pub most_piece : ℕ
most_piece = 65536

-- None of the first `seen` bytes is LF.
abbrev pub NoneBefore : ℕ → List ℕ → Type 0
NoneBefore seen bytes = (k : ℕ) → k < seen → slice_index bytes k ≢ 10

-- The bytes ahead are those of `held` from place `at` on, and none of the first `seen` of them is LF.
pub record IsHeld (held : List ℕ) (at seen : ℕ) : Type 0 where
  pub within : at ≤ length held
  pub searched : seen ≤ length (drop at held)
  pub none : NoneBefore seen (drop at held)

-- Which records are markers.
use Rattle.std.specs.Prelude.{◌≡◌, ◌<◌, ◌≤◌, ◌⊎◌, ℕ, ◌+◌, ◌*◌, ◌-◌, ◌%◌, ◌^◌, Bool, true, false, ◌&&◌, ◌||◌, ◌==◌, nat_lt, cond, List, [], ◌∷◌, ◌++◌, length, take, drop}

-- The polynomial of a window's bytes at `m`, the last byte its lowest coefficient.
abbrev pub polynomial : ℕ → List ℕ → ℕ
polynomial m [] = 0
polynomial m (b ∷ bs) = b * m ^ length bs + polynomial m bs

-- The hash of a window: its polynomial at 16777619, modulo 2^32.
unfoldable pub window_hash : List ℕ → ℕ
window_hash bytes = polynomial 16777619 bytes % 2 ^ 32

-- Whether a window marks: the lower 12 bits of its hash are all 1.
unfoldable pub marks : List ℕ → Bool
marks window = window_hash window % 4096 == 4095

-- The last 16 of some bytes.
abbrev pub last_bytes : List ℕ → List ℕ
last_bytes bytes = drop (length bytes - 16) bytes

-- Whether some window of 16 successive bytes marks that ends after `before`.
unfoldable pub some_marks : List ℕ → List ℕ → Bool
some_marks before [] = false
some_marks before (b ∷ bs) = (nat_lt 15 (length (before ++ b ∷ [])) && marks (last_bytes (before ++ b ∷ []))) || some_marks (before ++ b ∷ []) bs

-- Whether the record is a marker: its text is its bytes and an LF.
unfoldable pub is_marker : List ℕ → Bool
is_marker r = cond (nat_lt (length r) 15) (marks (r ++ 10 ∷ [])) (some_marks [] (r ++ 10 ∷ []))

-- Some 16 successive bytes of these mark.
pub record HasWindow (bytes : List ℕ) : Type 0 where
  pub place : ℕ
  pub within : place + 16 ≤ length bytes
  pub marked : marks (take 16 (drop place bytes)) ≡ true

-- The text of a marker, window by window: if it has fewer than 16 bytes, it is the only window.
abbrev pub IsMarkerText : List ℕ → Type 0
IsMarkerText text = ((length text < 16) × (marks text ≡ true)) ⊎ HasWindow text

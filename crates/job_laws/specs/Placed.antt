-- Pairs whose keys' bytes are in one text.
use Rattle.std.specs.Prelude.{ℕ, ◌-◌, ◌≤◌, List, length, map, take, drop, All}
use Rattle.definitions.specs.Tables.{IsKey}
use Rattle.job_laws.specs.declared.emit.Placed.{Placed}

-- The pair of a place.
abbrev pub placed_pair : {V : Type 0} → List ℕ → Placed V → List ℕ × V
placed_pair bytes p = (take (p.to - p.from) (drop p.from bytes), p.val)

-- The pairs of the places.
abbrev pub placed_pairs : {V : Type 0} → List ℕ → List (Placed V) → List (List ℕ × V)
placed_pairs bytes ps = map (placed_pair bytes) ps

-- A place is within a text of this many bytes.
abbrev pub LiesIn : {V : Type 0} → ℕ → Placed V → Type 0
LiesIn size p = (p.from ≤ p.to) × (p.to ≤ size)

-- Each place is within the text, and its bytes are a key.
pub record ArePlaced {V : Type 0} (bytes : List ℕ) (ps : List (Placed V)) : Type 0 where
  pub inside : All (LiesIn (length bytes)) ps
  pub keys : All (λ p. IsKey (placed_pair bytes p).0) ps

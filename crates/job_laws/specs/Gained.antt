-- What a list of pairs gained.
use Rattle.std.specs.Prelude.{◌≡◌, ℕ, List, ◌++◌}

-- Pairs were added at the end, and those added are a prefix of all.
abbrev pub GainsPairs : {V : Type 0} → List (List ℕ × V) → List (List ℕ × V) → List (List ℕ × V) → Type 0
GainsPairs {V} all old new = (gain : List (List ℕ × V)) × (rest : List (List ℕ × V)) × (all ≡ gain ++ rest) × (new ≡ old ++ gain)

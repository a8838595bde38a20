-- The lines of a script.
use Rattle.std.specs.Prelude.{◌≡◌, ℕ, ◌==◌, if◌then◌else◌, List, [], ◌∷◌}
use Rattle.definitions.specs.Records.{text_of}

-- One byte more at the start of the first line, or of the rest if no line ends.
abbrev pub with_byte : ℕ → List (List ℕ) × List ℕ → List (List ℕ) × List ℕ
with_byte b ([], rest) = ([], b ∷ rest)
with_byte b (l ∷ ls, rest) = ((b ∷ l) ∷ ls, rest)

-- The pieces that an LF ends, and the rest after the last LF.
abbrev pub pieces : List ℕ → List (List ℕ) × List ℕ
pieces [] = ([], [])
pieces (b ∷ bs) = if b == 10 then ([] ∷ (pieces bs).0, (pieces bs).1) else with_byte b (pieces bs)

-- Nothing comes after the last LF of these bytes.
abbrev pub EndsLine : List ℕ → Type 0
EndsLine bytes = (pieces bytes).1 ≡ []

-- These bytes have no LF.
abbrev pub HasNoLine : List ℕ → Type 0
HasNoLine bytes = pieces bytes ≡ ([], bytes)

-- The bytes up to their last LF.
unfoldable pub whole_lines : List ℕ → List ℕ
whole_lines bytes = text_of (pieces bytes).0

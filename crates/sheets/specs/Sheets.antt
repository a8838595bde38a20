-- The model of a sheet, and how many keys tie when two tables are merged.
use Rattle.std.specs.Prelude.{ℕ, ◌+◌, List, [], ◌∷◌}
use Rattle.std.specs.FinMap.Entries.{by_order}
use Rattle.definitions.specs.Tables.{key_cmp}

-- A sheet is modelled by the number that its job is set to, and a table.
pub record SheetOf (V : Type 0) : Type 0 where
  pub setting : ℕ
  pub entries : List (List ℕ × V)

-- How many keys tie when lists are merged from the head: the entry e and the rest after it, with the entries of u.
abbrev pub ties_into : {V : Type 0} → List ℕ × V → (List (List ℕ × V) → ℕ) → List (List ℕ × V) → ℕ
ties_into e rest [] = rest []
ties_into e rest (f ∷ u) = by_order (key_cmp e.0 f.0) (rest (f ∷ u)) (rest u + 1) (ties_into e rest u)

-- How many keys tie when two lists are merged from the head.
abbrev pub ties : {V : Type 0} → List (List ℕ × V) → List (List ℕ × V) → ℕ
ties [] u = 0
ties (e ∷ t) u = ties_into e (ties t) u

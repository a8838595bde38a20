-- Sums over the views of a table's seats, and the views after a seat is divided or two are joined.
use Rattle.std.specs.Prelude.{ℕ, ◌+◌, List, [], ◌∷◌, ◌++◌, slice_set}

-- A sum over a list.
abbrev pub total : {A : Type 0} → (A → ℕ) → List A → ℕ
total f [] = 0
total f (x ∷ xs) = f x + total f xs

module _ {V : Type 0} where
  -- The seat at this place has the left view, and a new last seat the right one.
  abbrev pub divided : List V → ℕ → V → V → List V
  divided vs id left right = slice_set vs id left ++ right ∷ []

  -- The first seat has the joined view, and the other a spent one.
  abbrev pub joined : List V → ℕ → ℕ → V → V → List V
  joined vs id other both spent = slice_set (slice_set vs id both) other spent

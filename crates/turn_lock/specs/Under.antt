-- The entries of a history that are under a number.
use Rattle.std.specs.Prelude.{ℕ, Bool, false, eqb, List, Option, Some, None}
use Rattle.std.specs.List.{filter}

-- Whether it is under this number.
abbrev pub is_of : ℕ → Option ℕ → Bool
is_of n None = false
is_of n (Some k) = eqb k n

-- The entries under a number, in order.
abbrev pub under : {E : Type 0} → (E → Option ℕ) → ℕ → List E → List E
under whose n es = filter (λ e. is_of n (whose e)) es

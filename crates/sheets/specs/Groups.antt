-- Entries whose keys are borrowed.
use Rattle.std.specs.Prelude.{◌≡◌, ℕ, List, map, Some}
use Rattle.std.specs.Borrow.{Bor}
use Rattle.definitions.specs.Tables.{IsKey, value_at, reduced}

-- The entries, each with the bytes of its key.
abbrev pub shown : {V : Type 0} → List (Bor (List ℕ) × V) → List (List ℕ × V)
shown es = map (λ e. (e.0.now, e.1)) es

-- The entries have at each key what the pairs reduce to.
abbrev pub IsGroupOf : {V : Type 0} → (V → V → V) → List (List ℕ × V) → List (Bor (List ℕ) × V) → Type 0
IsGroupOf join pairs es = (q : List ℕ) → value_at (shown es) q ≡ reduced join pairs q

-- Each key that has a value is a key.
abbrev pub FoundAreKeys : {V : Type 0} → List (Bor (List ℕ) × V) → Type 0
FoundAreKeys {V} es = (q : List ℕ) (v : V) → value_at (shown es) q ≡ Some v → IsKey q

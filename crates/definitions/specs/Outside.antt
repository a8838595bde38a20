-- What contracts know of devices: counts of faults that increase, and bytes that are observable or not.
use Rattle.std.specs.Prelude.{◌≡◌, ◌≤◌, ℕ, ◌+◌, ◌-◌, ◌^◌, min, List, ◌++◌, Option}
use Rattle.std.specs.declared.option.Option.TheVariants.{Some, None}

-- A count increased, or is at the end of its type, 2^64 - 1.
abbrev pub Rose : ℕ → ℕ → Type 0
Rose before now = min (before + 1) (2 ^ 64 - 1) ≤ now

-- Observable bytes stay observable, and `P` relates those before and after; others stay unobservable.
abbrev pub Told : Option (List ℕ) → Option (List ℕ) → (List ℕ → List ℕ → Type 0) → Type 0
Told None None P = Unit {0}
Told None (Some new) P = ⊥
Told (Some old) None P = ⊥
Told (Some old) (Some new) P = P old new

-- These bytes are the first of all, possibly all of them.
abbrev pub IsPrefix : List ℕ → List ℕ → Type 0
IsPrefix prefix all = (rest : List ℕ) × (all ≡ prefix ++ rest)

-- Bytes were added at the end, and what was added is a prefix of all.
abbrev pub GainsPrefix : List ℕ → List ℕ → List ℕ → Type 0
GainsPrefix all old new = (gain : List ℕ) × IsPrefix gain all × (new ≡ old ++ gain)

-- The one slot has an empty row with enough room.
use Rattle.std.specs.Prelude.{◌≡◌, ℕ, ◌≤◌, [], ◌∷◌, vec_capacity}
use Rattle.std.specs.declared.vec.Vec.{Vec}
use mathlib.Core.Option.{some}
use Rattle.atomic_table.specs.Table.{State}

abbrev pub KeepsRow : {T A : Type 0} → ℕ → State (Vec T A) (Unit {0}) → Type 0
KeepsRow {T} {A} room s = (row : Vec T A) × (s.homes ≡ some row ∷ []) × (row.items ≡ []) × (room ≤ vec_capacity row)

-- The places of a folding tree, and what a shift makes of them.
use Rattle.std.specs.Prelude.{ℕ, zero, suc, ◌+◌, ◌-◌, ◌*◌, ◌^◌, ◌==◌, nat_lt, nat_le, cond, length}
use Rattle.record_text.specs.declared.shift.Shift.{Shift}
use Rattle.record_text.specs.declared.shift.Shift.TheVariants.{Slide, Splice}
use Rattle.tree_laws.specs.Trees.{Shape, no_shape}

-- While one half of the places is wholly void, the other half becomes the tree. If the left half went, places are
-- counted from the right half's start.
abbrev pub folded : ℕ → ℕ → ℕ → Shape
folded zero low high = record { height = 0; low = low; high = high }
folded (suc h) low high = cond (nat_le high (2 ^ h)) (folded h low high) (cond (nat_le (2 ^ h) low) (folded h (low - 2 ^ h) (high - 2 ^ h)) (record { height = suc h; low = low; high = high }))

-- The oldest leaves are voided, and the tree is folded; without a live place everything is 0.
abbrev pub without : ℕ → Shape → Shape
without gone s = cond (nat_lt (s.low + gone) s.high) (folded s.height (s.low + gone) s.high) no_shape

-- A fresh leaf is put at the place `high`; if all places before it are taken, the tree is doubled first.
abbrev pub with_one : Shape → Shape
with_one s = record { height = cond (s.high == 2 ^ s.height) (s.height + 1) s.height; low = s.low; high = s.high + 1 }

-- A number of fresh leaves are put, one after the other.
abbrev pub with_fresh : ℕ → Shape → Shape
with_fresh zero s = s
with_fresh (suc n) s = with_fresh n (with_one s)

-- The shape after a shift. Places whose leaf changed leave it as it is.
abbrev pub shaped : Shape → Shift → Shape
shaped s (Slide first gone places fresh) = with_fresh fresh (without gone s)
shaped s (Splice first gone fresh) = s

-- The most merges of a shift: one for each fresh leaf, and on each level over the leaves two and one for each changed
-- place.
abbrev pub merges_of : Shape → Shift → ℕ
merges_of s (Slide first gone places fresh) = fresh + (2 + length places) * (shaped s (Slide first gone places fresh)).height
merges_of s (Splice first gone fresh) = 0

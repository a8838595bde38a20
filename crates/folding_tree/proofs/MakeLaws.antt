-- The node over two halves of a row, and what it becomes.
use Rattle.std.proofs.Common.{◌≡◌, ◌⊎◌, inl, inr, ℕ, ◌+◌, ◌*◌, arith, sym, ◌∙◌, refl, subst, Option, Some, None}
use Rattle.std.specs.Prelude.{IfSome, IsSome}
use Rattle.std.specs.Option.{option_map}
use Rattle.std.proofs.lemmas.Bool.{cases_lt}
use Rattle.sheets.specs.Sheets.{SheetOf}
use Rattle.job_laws.specs.declared.meter.Counts.{Counts}
use Rattle.job_laws.specs.Counted.{RoseBy}
use Rattle.folding_tree.specs.declared.part.Part.{Part}
use Rattle.folding_tree.specs.Levels.{Row, Ahead, part_at, sheet_at, part_sheet, row_after, IsFit, HasHalf, IsMade, EachSheet, merges_by}
use Rattle.folding_tree.proofs.RowLaws.{after-length}
use Rattle.folding_tree.proofs.AlignLaws.{at-there, same-made}

if-some : {X : Type 0} (P : X → Type 0) (o : Option X) → ((x : X) → o ≡ Some x → P x) → IfSome o P
if-some P None h = tt
if-some P (Some x) h = h x refl

some-map : {X Y : Type 0} (f : X → Y) (o : Option X) → (o ≡ None → ⊥) → IsSome (option_map f o)
some-map f None h = absurd (h refl)
some-map f (Some x) h = refl

module _ {V : Type 0} where
  -- What the merge of two halves costs that were read.
  pub half-counted : (a b left right : Option (SheetOf V)) (k : ℕ) (x y : Counts) → a ≡ left → b ≡ right → RoseBy 0 (merges_by a b) (merges_by a b * k) x y → RoseBy 0 (merges_by left right) (merges_by left right * k) x y
  half-counted a b left right k x y p q rose =
      subst (λ (s : Option (SheetOf V)). RoseBy 0 (merges_by s right) (merges_by s right * k) x y) p
      (subst (λ (s : Option (SheetOf V)). RoseBy 0 (merges_by a s) (merges_by a s * k) x y) q rose)

module _ {J V M : Type 0} (row : Row J V M) (place : ℕ) (a : Option (SheetOf V)) (is : a ≡ sheet_at row place) where
  -- A half that was read.
  pub half-is : (P : SheetOf V → Type 0) → EachSheet P row → IfSome a P
  half-is P each = if-some P a (λ s e. each place s (sym is ∙ e))

module _ {J V M : Type 0} (row : Row J V M) (ahead : Ahead J V M) (fit : IsFit row ahead) (place : ℕ) (a b : Option (SheetOf V)) (left : a ≡ sheet_at (row_after row ahead) (2 * place)) (right : b ≡ sheet_at (row_after row ahead) (2 * place + 1)) where
  pub half-there : HasHalf ahead place → IsSome a ⊎ IsSome b
  half-there half =
      let low = half.0 in
      let high = half.1 in
      let some = half.2 in
      let end = after-length row ahead fit in
      elim (cases_lt (2 * place) ahead.low) [
        | inl lt ↦ inr (subst IsSome (sym right) (some-map part_sheet (part_at (row_after row ahead) (2 * place + 1)) (at-there (row_after row ahead) (2 * place + 1) low (omega (arith, end, lt, low, some)))))
        | inr le ↦ inl (subst IsSome (sym left) (some-map part_sheet (part_at (row_after row ahead) (2 * place)) (at-there (row_after row ahead) (2 * place) le (omega (arith, end, high)))))
      ]

  pub half-made : (joined : ℕ → V → V → V) (part : Part J V M) → IsMade joined a b (Some part) → IsMade joined (sheet_at (row_after row ahead) (2 * place)) (sheet_at (row_after row ahead) (2 * place + 1)) (Some part)
  half-made joined part made = same-made joined (sheet_at (row_after row ahead) (2 * place)) a (sheet_at (row_after row ahead) (2 * place + 1)) b (Some part) (Some part) (sym left) (sym right) refl made

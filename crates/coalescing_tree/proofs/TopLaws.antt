-- The top over leaves, as leaves come.
use Rattle.std.proofs.Common.{◌≡◌, ℕ, ◌-◌, ◌≤◌, List, [], ◌∷◌, ◌++◌, length, drop, Option, Some, None, refl, sym, ap, subst, ◌∙◌, arith, length-append}
use Rattle.std.specs.List.{All, slice_get}
use Rattle.std.proofs.lemmas.List.Elements.{All-head}
use Rattle.record_text.specs.declared.kind.Kind.TheVariants.{Growing}
use Rattle.record_text.specs.declared.shift.Shift.{Shift}
use Rattle.record_text.specs.declared.shift.Shift.TheVariants.{Slide, Splice}
use Rattle.record_text.specs.Shifts.{FitsShift, shifted, first_after, put_at}
use Rattle.definitions.specs.Tables.{IsGoodJoin}
use Rattle.sheets.specs.Sheets.{SheetOf}
use Rattle.sheets.specs.United.{tables_of}
use Rattle.tree_laws.specs.Pairs.{merge_of, pair_of}
use Rattle.tree_laws.specs.Holds.{sheet_of}
use Rattle.tree_laws.specs.Trees.{IsLeaf, IsMergeOver}
use Rattle.tree_laws.specs.declared.hold.Hold.{Hold}
use Rattle.tree_laws.proofs.LeafLaws.{leaf-over, both-over, over-some, over-none}
use Rattle.coalescing_tree.specs.Growing.{last_of, IsTop, fresh_of}

module _ {J V M : Type 0} where
  at-end : (hs : List (Hold J V M)) (h : Hold J V M) → slice_get (hs ++ h ∷ []) (length hs) ≡ Some h
  at-end [] h = refl
  at-end (g ∷ hs) h = at-end hs h

  -- The last one of a list that was pushed to.
  pub last-push : (hs : List (Hold J V M)) (h : Hold J V M) → last_of (hs ++ h ∷ []) ≡ Some h
  last-push hs h = ap (slice_get (hs ++ h ∷ [])) (let n = length-append hs (h ∷ []) in let one : length (hs ++ h ∷ []) - 1 ≡ length hs = omega (arith, n) in one) ∙ at-end hs h

module _ {V : Type 0} (good : ℕ → V → Type 0) (joined : ℕ → V → V → V) (setting : ℕ) where
  -- The first of at most one leaf is the merge over it.
  pub first-over : (sheets : List (SheetOf V)) → All (IsLeaf good setting) sheets → length sheets ≤ 1 → IsMergeOver joined setting (tables_of sheets) (slice_get sheets 0)
  first-over [] all few = refl
  first-over (s ∷ []) all few = leaf-over good joined setting s (All-head (IsLeaf good setting) s [] all)
  first-over (s ∷ t ∷ sheets) all few = absurd (omega arith)

  -- Some leaves have a merge over them.
  pub over-not_none : (us : List (SheetOf V)) → 1 ≤ length us → IsMergeOver joined setting (tables_of us) None → ⊥
  over-not_none us some over = let n = ap length (over-none good joined setting us over) in absurd (omega (arith, n, some))

module _ {J V M : Type 0} (good : ℕ → V → Type 0) (joined : ℕ → V → V → V) (setting : ℕ) where
  -- A merge over two lists of leaves is their top.
  pub top-push : (us vs all : List (SheetOf V)) (a b : SheetOf V) (hs new : List (Hold J V M)) (h : Hold J V M) → IsGoodJoin (good setting) (joined setting) → All (IsLeaf good setting) us → All (IsLeaf good setting) vs
      → IsMergeOver joined setting (tables_of us) (Some a) → IsMergeOver joined setting (tables_of vs) (Some b) → sheet_of h ≡ merge_of joined (pair_of a b) → us ++ vs ≡ all → new ≡ hs ++ h ∷ [] → IsTop joined setting all (last_of new)
  top-push us vs all a b hs new h laws x y over under is whole pushed =
      subst (λ (o : Option (Hold J V M)). IsTop joined setting all o) (sym (ap last_of pushed ∙ last-push hs h))
      (subst (λ (ss : List (SheetOf V)). IsTop joined setting ss (Some h)) whole (
        (let m = over-some good joined setting us a over in let n = over-some good joined setting vs b under in let l = length-append us vs in omega (arith, m, n, l)),
        both-over good joined setting us vs a b (sheet_of h) laws x y over under is,
      ))

  -- The top, as it is read from a list of holds.
  pub top-read : (ss : List (SheetOf V)) (xs hs : List (Hold J V M)) (o : Option (Hold J V M)) → o ≡ last_of xs → xs ≡ hs → IsTop joined setting ss (last_of hs) → IsTop joined setting ss o
  top-read ss xs hs o is same top = subst (λ (p : Option (Hold J V M)). IsTop joined setting ss p) (sym (is ∙ ap last_of same)) top

  -- A top is the same over the same leaves.
  pub top-same : (us all : List (SheetOf V)) (o : Option (Hold J V M)) → us ≡ all → IsTop joined setting us o → IsTop joined setting all o
  top-same us all o is top = subst (λ (ss : List (SheetOf V)). IsTop joined setting ss o) is top

-- What a shift of a growing window is.
pub growing-fits : {X : Type 0} (most old count news : ℕ) (shift : Shift) (ns os : List X) → FitsShift Growing most old count news shift → (news ≡ fresh_of shift) × (first_after shift old ≡ old) × (shifted shift ns os ≡ os ++ ns)
growing-fits most old count news (Slide first gone places fresh) ns os fits =
    let slide = fits.0 in
    let none = fits.1 in
    let still = fits.2 in
    let same = fits.3 in (
      (let n = slide.news_are in let l = ap length still in let zero_is : news ≡ fresh = omega (arith, n, l) in zero_is),
      same,
      ap (λ (ps : List ℕ). put_at ps ns (drop gone os) ++ drop (length ps) ns) still ∙ ap (λ (n : ℕ). drop n os ++ ns) none,
    )
growing-fits most old count news (Splice first gone fresh) ns os fits = absurd fits

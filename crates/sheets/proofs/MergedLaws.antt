-- Merging the tables of two sheets from the head.
use Rattle.std.proofs.Common.{◌≡◌, ℕ, List, sym, subst, ◌∙◌}
use Rattle.definitions.specs.Tables.{IsRising, HasGoodValues, IsGoodJoin, merged, merge_in_order, common_keys}
use Rattle.definitions.proofs.TableLaws.{IsRising-merged, good-merged}
use Rattle.definitions.proofs.MergeLaws.{merge-merged}
use Rattle.sheets.specs.Sheets.{ties}
use Rattle.sheets.proofs.TieLaws.{ties-common}

module _ {V : Type 0} where
  pub tied_at : (s t x y : List (List ℕ × V)) → s ≡ x → t ≡ y → IsRising x → IsRising y → ties s t ≡ common_keys x y
  tied_at s t x y a b r q = (λ i. ties (a i) (b i)) ∙ ties-common x y r q

  pub merged_at : (join : V → V → V) (s t x y : List (List ℕ × V)) → s ≡ x → t ≡ y → IsRising x → IsRising y → merge_in_order join s t ≡ merged join x y
  merged_at join s t x y a b r q = (λ i. merge_in_order join (a i) (b i)) ∙ merge-merged join x y r q

  pub rising_merged : (join : V → V → V) (x y out : List (List ℕ × V)) → out ≡ merged join x y → IsRising out
  rising_merged join x y out is = subst IsRising (sym is) (IsRising-merged join x y)

  pub good_merged : (good : ℕ → V → Type 0) (join : V → V → V) (s n m k : ℕ) (x y out : List (List ℕ × V)) → IsGoodJoin (good s) join → k ≡ s → n ≡ s → m ≡ s → HasGoodValues (good n) x → HasGoodValues (good m) y → out ≡ merged join x y → HasGoodValues (good k) out
  good_merged good join s n m k x y out laws ks ns ms gx gy is =
      subst (λ j. HasGoodValues (good j) out) (sym ks)
      (subst (HasGoodValues (good s)) (sym is)
      (good-merged laws x y (subst (λ j. HasGoodValues (good j) x) ns gx) (subst (λ j. HasGoodValues (good j) y) ms gy)))

-- The merge of tables from left to right, as the merge of merges.
use Rattle.std.proofs.Common.{◌≡◌, ℕ, List, [], ◌∷◌, ◌++◌, fold, Option, Some, None, refl, sym, ap, subst, ◌∙◌}
use Rattle.definitions.specs.Tables.{IsRising, HasGoodValues, IsGoodJoin, merged}
use Rattle.definitions.proofs.TableLaws.{IsRising-merged, merged_assoc, good-merged}
use Rattle.tree_laws.specs.Trees.{merged_all}

module _ {V : Type 0} (join : V → V → V) where
  fold-append : (t : List (List ℕ × V)) (ts us : List (List (List ℕ × V))) → fold (merged join) t (ts ++ us) ≡ fold (merged join) (fold (merged join) t ts) us
  fold-append t [] us = refl
  fold-append t (s ∷ ts) us = fold-append (merged join t s) ts us

  -- One table more.
  pub merged_all-push : (ts : List (List (List ℕ × V))) (t a : List (List ℕ × V)) → merged_all join ts ≡ Some a → merged_all join (ts ++ t ∷ []) ≡ Some (merged join a t)
  merged_all-push [] t a is = absurd (let no : None ≡ Some a = is in cc)
  merged_all-push (s ∷ ts) t a is =
      let first : fold (merged join) s ts ≡ a = (let some : Some (fold (merged join) s ts) ≡ Some a = is in cc) in
      ap (λ (x : List (List ℕ × V)). Some x) (fold-append s ts (t ∷ []) ∙ ap (λ (x : List (List ℕ × V)). merged join x t) first)

  module _ (good : V → Type 0) (laws : IsGoodJoin good join) where
    -- Each table has good values.
    abbrev pub AllGoodTables : List (List (List ℕ × V)) → Type 0
    AllGoodTables [] = Unit {0}
    AllGoodTables (t ∷ ts) = HasGoodValues good t × AllGoodTables ts

    pub good-fold : (t : List (List ℕ × V)) (ts : List (List (List ℕ × V))) → HasGoodValues good t → AllGoodTables ts → HasGoodValues good (fold (merged join) t ts)
    good-fold t [] a all = a
    good-fold t (s ∷ ts) a all = good-fold (merged join t s) ts (good-merged laws t s a all.0) all.1

    fold-from : (a t : List (List ℕ × V)) (ts : List (List (List ℕ × V))) → HasGoodValues good a → HasGoodValues good t → AllGoodTables ts → fold (merged join) (merged join a t) ts ≡ merged join a (fold (merged join) t ts)
    fold-from a t [] x y all = refl
    fold-from a t (s ∷ ts) x y all = ap (λ (u : List (List ℕ × V)). fold (merged join) u ts) (merged_assoc laws a t s x y all.0) ∙ fold-from a (merged join t s) ts x (good-merged laws t s y all.0) all.1

    -- The merge of two lists is the merge of their merges.
    pub merged_all-append : (ts us : List (List (List ℕ × V))) (a b : List (List ℕ × V)) → AllGoodTables ts → AllGoodTables us → merged_all join ts ≡ Some a → merged_all join us ≡ Some b → merged_all join (ts ++ us) ≡ Some (merged join a b)
    merged_all-append [] us a b x y is then = absurd (let no : None ≡ Some a = is in cc)
    merged_all-append (t ∷ ts) [] a b x y is then = absurd (let no : None ≡ Some b = then in cc)
    merged_all-append (t ∷ ts) (u ∷ us) a b x y is then =
        let first : fold (merged join) t ts ≡ a = (let some : Some (fold (merged join) t ts) ≡ Some a = is in cc) in
        let second : fold (merged join) u us ≡ b = (let some : Some (fold (merged join) u us) ≡ Some b = then in cc) in
        ap (λ (z : List (List ℕ × V)). Some z)
        (fold-append t ts (u ∷ us)
        ∙ (fold-from (fold (merged join) t ts) u us (good-fold t ts x.0 x.1) y.0 y.1
        ∙ (ap (λ (z : List (List ℕ × V)). merged join z (fold (merged join) u us)) first ∙ ap (merged join a) second)))

-- What a merge of all tables keeps.
module _ {V : Type 0} (join : V → V → V) where
  rising-fold : (t : List (List ℕ × V)) (ts : List (List (List ℕ × V))) → IsRising t → IsRising (fold (merged join) t ts)
  rising-fold t [] r = r
  rising-fold t (s ∷ ts) r = rising-fold (merged join t s) ts (IsRising-merged join t s)

  pub rising-merged_all : (t : List (List ℕ × V)) (ts : List (List (List ℕ × V))) (a : List (List ℕ × V)) → IsRising t → merged_all join (t ∷ ts) ≡ Some a → IsRising a
  rising-merged_all t ts a r is =
      let same : fold (merged join) t ts ≡ a = (let some : Some (fold (merged join) t ts) ≡ Some a = is in cc) in
      subst IsRising same (rising-fold t ts r)

-- The keys that tie when rising lists are merged are those that both have.
use Rattle.std.proofs.Common.{◌≡◌, ℕ, ◌+◌, true, false, cond, List, [], ◌∷◌, Option, Some, None, refl, sym, ap, ◌∙◌, subst}
use Rattle.std.specs.Ordering.{eq_by_cmp, is_eq, is_lt}
use Rattle.std.specs.FinMap.Entries.{is_sorted, below_all, by_order}
use Rattle.std.specs.declared.cmp.Ordering.{Ordering}
use Rattle.std.specs.declared.cmp.Ordering.TheVariants.{Less, Equal, Greater}
use lib.Dec.{T}
use Rattle.definitions.specs.Tables.{key_cmp, IsRising, value_at, common_keys}
use Rattle.definitions.proofs.TableLaws.{tied_keys, turned, is_less, below_chain, first, second, both, passes}
use Rattle.sheets.specs.Sheets.{ties_into, ties}

module _ {V : Type 0} where
  -- a key below all is not there
  absent : (k : List ℕ) (es : List (List ℕ × V)) → T (below_all key_cmp k es) → value_at es k ≡ None
  absent k [] below = refl
  absent k (e ∷ es) below = rw (ap is_eq (is_less (key_cmp k e.0) (first _ _ below))) (absent k es (second _ _ below))

  -- how many a found value adds
  abbrev with_found : Option V → ℕ → ℕ
  with_found None n = n
  with_found (Some v) n = n + 1

  common_step : (e : List ℕ × V) (t u : List (List ℕ × V)) → common_keys (e ∷ t) u ≡ with_found (value_at u e.0) (common_keys t u)
  common_step e t u = elim (value_at u e.0) as (λ o. elim o [ None ↦ common_keys t u | Some w ↦ common_keys t u + 1 ] ≡ with_found o (common_keys t u)) [ None ↦ refl | Some w ↦ refl ]

  -- an entry below all of t has no key of t
  common_past : (f : List ℕ × V) (u t : List (List ℕ × V)) → T (below_all key_cmp f.0 t) → common_keys t (f ∷ u) ≡ common_keys t u
  common_past f u [] below = refl
  common_past f u (e ∷ t) below =
      let other : eq_by_cmp key_cmp e.0 f.0 ≡ false = ap is_eq (turned f.0 e.0 Less (is_less _ (first _ _ below))) in
      common_step e t (f ∷ u) ∙ (λ i. with_found (cond (other i) (Some f.1) (value_at u e.0)) (common_past f u t (second _ _ below) i)) ∙ sym (common_step e t u)

  common_into : (e : List ℕ × V) (t : List (List ℕ × V)) → T (below_all key_cmp e.0 t) → ((w : List (List ℕ × V)) → T (is_sorted key_cmp w) → ties t w ≡ common_keys t w) → (u : List (List ℕ × V)) → T (is_sorted key_cmp u) → ties_into e (ties t) u ≡ common_keys (e ∷ t) u
  common_into e t below ih [] b = ih [] tt
  common_into e t below ih (f ∷ u) b = by_case (key_cmp e.0 f.0) refl (common_into e t below ih u (second _ _ b))
    where
      by_case : (o : Ordering) → key_cmp e.0 f.0 ≡ o → ties_into e (ties t) u ≡ common_keys (e ∷ t) u → by_order o (ties t (f ∷ u)) (ties t u + 1) (ties_into e (ties t) u) ≡ common_keys (e ∷ t) (f ∷ u)
      by_case Less is rest =
          let none : value_at (f ∷ u) e.0 ≡ None = absent e.0 (f ∷ u) (both _ _ (subst (λ o. T (is_lt o)) (sym is) tt) (below_chain e.0 f.0 u is (first _ _ b))) in
          ih (f ∷ u) b ∙ sym (common_step e t (f ∷ u) ∙ ap (λ o. with_found o (common_keys t (f ∷ u))) none)
      by_case Equal is rest =
          let tied : eq_by_cmp key_cmp e.0 f.0 ≡ true = ap is_eq is in
          let past : common_keys t (f ∷ u) ≡ common_keys t u = common_past f u t (subst (λ k. T (below_all key_cmp k t)) (tied_keys e.0 f.0 tied) below) in
          ap (λ n. n + 1) (ih u (second _ _ b)) ∙ sym (common_step e t (f ∷ u) ∙ (λ i. with_found (cond (tied i) (Some f.1) (value_at u e.0)) (past i)))
      by_case Greater is rest =
          let less : key_cmp f.0 e.0 ≡ Less = turned e.0 f.0 Greater is in
          rest ∙ sym (common_past f u (e ∷ t) (both _ _ (subst (λ o. T (is_lt o)) (sym less) tt) (below_chain f.0 e.0 t less below)))

  ties_are : (t : List (List ℕ × V)) → T (is_sorted key_cmp t) → (u : List (List ℕ × V)) → T (is_sorted key_cmp u) → ties t u ≡ common_keys t u
  ties_are [] a u b = refl
  ties_are (e ∷ t) a u b = common_into e t (first _ _ a) (ties_are t (second _ _ a)) u b

  -- rising lists tie at their common keys
  pub ties-common : (t u : List (List ℕ × V)) → IsRising t → IsRising u → ties t u ≡ common_keys t u
  ties-common t u a b = ties_are t (passes _ a) u (passes _ b)

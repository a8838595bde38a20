-- The place of an id among rising ids.
use Rattle.std.proofs.Common.{◌≡◌, ℕ, zero, suc, ◌<◌, ◌≤◌, ◌⊎◌, inl, inr, Bool, true, false, cond, ◌==◌, nat_lt, List, [], ◌∷◌, length, get_or, Some, None, slice_get, refl, sym, ap, subst, ◌∙◌, arith}
use Rattle.std.specs.Ordering.{nat_cmp, ordering_index}
use Rattle.std.specs.declared.cmp.Ordering.TheVariants.{Less, Equal, Greater}
use Rattle.std.specs.List.Sorted.{IsNonDecreasingBy, IsPartitionPoint}
use Rattle.std.proofs.lemmas.Bool.{eqb-true}
use Rattle.std.proofs.lemmas.Bool.Decides.{nat_tests}
use Rattle.std.proofs.lemmas.Option.{slice_get-get_or, get_or_from_slice_get, slice_get_cases}
use Rattle.memo_server.specs.Views.{LiveView, HasRisingIds}

equal_id : (a b : ℕ) → nat_cmp a b ≡ Equal → a ≡ b
equal_id a b is = less_case (nat_lt a b) is
  where
    equal_case : (y : Bool) → (a == b) ≡ y → cond y Equal Greater ≡ Equal → a ≡ b
    equal_case true test is = eqb-true a b test
    equal_case false test is = cc

    less_case : (x : Bool) → cond x Less (cond (a == b) Equal Greater) ≡ Equal → a ≡ b
    less_case true is = cc
    less_case false is = equal_case (a == b) refl is

not_less : (a : ℕ) → nat_cmp a a ≡ Less → ⊥
not_less a is = let test : nat_lt a a ≡ false = grind (arith, nat_tests) in let same : (a == a) ≡ true = grind (arith, nat_tests) in let here : nat_cmp a a ≡ Equal = rw (test, same) refl in let both : Equal ≡ Less = sym here ∙ is in cc

not_greater : (a : ℕ) → nat_cmp a a ≡ Greater → ⊥
not_greater a is = let test : nat_lt a a ≡ false = grind (arith, nat_tests) in let same : (a == a) ≡ true = grind (arith, nat_tests) in let here : nat_cmp a a ≡ Equal = rw (test, same) refl in let both : Equal ≡ Greater = sym here ∙ is in cc

rises : (a b id : ℕ) → a ≤ b → ordering_index (nat_cmp a id) ≤ ordering_index (nat_cmp b id)
rises a b id le = grind (arith, nat_tests)

module _ {I O : Type 0} where
  -- A place that the search finds has the id.
  pub place-found : (es : List (List ℕ × LiveView I O)) (i id : ℕ) → i < length es → ((d : List ℕ × LiveView I O) → nat_cmp (get_or es i d).1.id id ≡ Equal) → (k : List ℕ) × (l : LiveView I O) × (slice_get es i ≡ Some (k, l)) × (l.id ≡ id)
  place-found [] i id lt h = absurd (omega (arith, lt))
  place-found (e ∷ es) zero id lt h = (e.0, e.1, refl, equal_id e.1.id id (h e))
  place-found (e ∷ es) (suc i) id lt h = place-found es i id (omega (arith, lt)) h

  nondecreasing : (es : List (List ℕ × LiveView I O)) (id : ℕ) → HasRisingIds es → IsNonDecreasingBy (λ y. ordering_index (nat_cmp y.1.id id)) es
  nondecreasing es id rising i j d le lt = rises (get_or es i d).1.id (get_or es j d).1.id id (place_case (nat_lt i j) refl)
    where
      place_case : (b : Bool) → nat_lt i j ≡ b → (get_or es i d).1.id ≤ (get_or es j d).1.id
      place_case true test =
          let below : i < j = grind (arith, nat_tests, test) in
          let up : (get_or es i d).1.id < (get_or es j d).1.id = rising i j (get_or es i d).0 (get_or es j d).0 (get_or es i d).1 (get_or es j d).1 (slice_get-get_or es i d (omega arith)) (slice_get-get_or es j d lt) below in
          omega (arith, up)
      place_case false test = let same : i ≡ j = grind (arith, nat_tests, test) in subst (λ (k : ℕ). (get_or es i d).1.id ≤ (get_or es k d).1.id) same (omega arith)

  -- An id that is live is found.
  pub none-missing : (es : List (List ℕ × LiveView I O)) (i id j : ℕ) (k : List ℕ) (l : LiveView I O) → HasRisingIds es
      → (IsNonDecreasingBy (λ y. ordering_index (nat_cmp y.1.id id)) es → IsPartitionPoint (λ y. nat_cmp y.1.id id ≡ Less) (λ y. nat_cmp y.1.id id ≡ Greater) es i)
      → slice_get es j ≡ Some (k, l) → l.id ≡ id → ⊥
  none-missing es i id j k l rising parts at same =
      let part = parts (nondecreasing es id rising) in
      let here : get_or es j (k, l) ≡ (k, l) = get_or_from_slice_get es j (k, l) (k, l) at in
      let inside : j < length es = within (slice_get_cases es j).1 in
      let where_id : (get_or es j (k, l)).1.id ≡ id = ap (λ (p : List ℕ × LiveView I O). p.1.id) here ∙ same in
      place_case (nat_lt j i) refl part inside where_id
    where
      within : ((x : List ℕ × LiveView I O) × (j < length es) × (slice_get es j ≡ Some x) × (get_or es j x ≡ x)) ⊎ ((length es ≤ j) × (slice_get es j ≡ None)) → j < length es
      within (inl h) = h.1
      within (inr h) = absurd (let both : None ≡ Some (k, l) = sym h.1 ∙ at in cc)

      place_case : (b : Bool) → nat_lt j i ≡ b → IsPartitionPoint (λ y. nat_cmp y.1.id id ≡ Less) (λ y. nat_cmp y.1.id id ≡ Greater) es i → j < length es → (get_or es j (k, l)).1.id ≡ id → ⊥
      place_case true test part inside is = not_less id (subst (λ (n : ℕ). nat_cmp n id ≡ Less) is (part.0 j (k, l) (omega arith) (let below : j < i = grind (arith, nat_tests, test) in below)))
      place_case false test part inside is = not_greater id (subst (λ (n : ℕ). nat_cmp n id ≡ Greater) is (part.1 j (k, l) (let above : i ≤ j = grind (arith, nat_tests, test) in above) inside))

-- The union of tables that share no key begins with the least of their first entries.
use Rattle.std.proofs.Common.{◌≡◌, ◌≢◌, ℕ, zero, suc, ◌<◌, ◌==◌, Bool, true, false, cond, List, [], ◌∷◌, ◌++◌, length, All, Option, Some, None, refl, sym, ap, subst, ◌∙◌, is_some, get_or-set_same, get_or-set_other, length-set, arith}
use Rattle.std.specs.Prelude.{slice_index_or, slice_set}
use Rattle.std.specs.declared.cmp.Ordering.{Ordering}
use Rattle.std.specs.declared.cmp.Ordering.TheVariants.{Less, Equal, Greater}
use Rattle.std.specs.Ordering.{eq_by_cmp, is_eq, is_lt}
use Rattle.std.specs.FinMap.Entries.{below_all}
use Rattle.std.proofs.lemmas.Cmp.{nat_list_cmp_total}
use Rattle.std.proofs.lemmas.List.Elements.{All-get_or}
use Rattle.std.proofs.lemmas.Bool.Decides.{nat_tests}
use lib.Dec.{T}
use Rattle.definitions.specs.Tables.{key_cmp, IsRising, value_at}
use Rattle.definitions.proofs.TableLaws.{tied_keys, eq_itself, is_less, is_true, passes, both, first, second, either, value_at-append, same_tables, value_at-over_keys, IsRising-over_keys}
use Rattle.sheets.specs.United.{end_to_end, first_value, united, Apart, IsNotAfter}

lower : (o : Ordering) → o ≡ Less → T (is_lt o)
lower Less e = tt
lower Equal e = cc
lower Greater e = cc

module _ {V : Type 0} where
  -- the value of the union at a key
  pub value_at-united : (ts : List (List (List ℕ × V))) (q : List ℕ) → value_at (united ts) q ≡ value_at (end_to_end ts) q
  unfolding united
  value_at-united ts q = value_at-over_keys (first_value ts) (end_to_end ts) (λ k h. h) q

  -- the union rises
  pub IsRising-united : (ts : List (List (List ℕ × V))) → IsRising (united ts)
  unfolding united
  IsRising-united ts = IsRising-over_keys (first_value ts) (end_to_end ts)

  -- a key below all others
  below_values : (x : List ℕ) (t : List (List ℕ × V)) → ((q : List ℕ) → is_some (value_at t q) ≡ true → key_cmp x q ≡ Less) → T (below_all key_cmp x t)
  below_values x [] h = tt
  below_values x (f ∷ t) h = both _ _ (lower _ (h f.0 (ap (λ (b : Bool). is_some (cond b (Some f.1) (value_at t f.0))) (eq_itself f.0)))) (below_values x t (λ q s. h q (later q s)))
    where
      later : (q : List ℕ) → is_some (value_at t q) ≡ true → is_some (value_at (f ∷ t) q) ≡ true
      later q s = elim (eq_by_cmp key_cmp q f.0) as (λ b. is_some (cond b (Some f.1) (value_at t q)) ≡ true) [ true ↦ refl | false ↦ s ]

  values_below : (x : List ℕ) (t : List (List ℕ × V)) (q : List ℕ) → T (below_all key_cmp x t) → is_some (value_at t q) ≡ true → key_cmp x q ≡ Less
  values_below x [] q h s = cc
  values_below x (f ∷ t) q h s =
      elim (eq_by_cmp key_cmp q f.0) as (λ b. eq_by_cmp key_cmp q f.0 ≡ b → is_some (cond b (Some f.1) (value_at t q)) ≡ true → key_cmp x q ≡ Less) [
        | true ↦ λ tied s. ap (key_cmp x) (tied_keys q f.0 tied) ∙ is_less _ (first _ _ h)
        | false ↦ λ tied s. values_below x t q (second _ _ h) s
      ] refl s

  below_append : (x : List ℕ) (t u : List (List ℕ × V)) → T (below_all key_cmp x t) → T (below_all key_cmp x u) → T (below_all key_cmp x (t ++ u))
  below_append x [] u h k = k
  below_append x (f ∷ t) u h k = both _ _ (first _ _ h) (below_append x t u (second _ _ h) k)

  below_end : (x : List ℕ) (ts : List (List (List ℕ × V))) → ((j : ℕ) → j < length ts → T (below_all key_cmp x (slice_index_or ts j []))) → T (below_all key_cmp x (end_to_end ts))
  below_end x [] h = tt
  below_end x (t ∷ ts) h = below_append x t (end_to_end ts) (h 0 (omega arith)) (below_end x ts (λ j s. h (suc j) (omega (arith, s))))

  swap : (b : Bool) (o y : Option V) (v : V) → (b ≡ true → o ≡ None) → either o (cond b (Some v) y) ≡ cond b (Some v) (either o y)
  swap true o y v none = ap (λ p. either p (Some v)) (none refl)
  swap false o y v none = refl

  none_is : (o : Option V) → is_some o ≡ false → o ≡ None
  none_is None h = refl
  none_is (Some v) h = cc

  -- the value at a key after the first entry of one table is put before all
  takes : (ts : List (List (List ℕ × V))) (i : ℕ) (e : List ℕ × V) (t : List (List ℕ × V)) → i < length ts → slice_index_or ts i [] ≡ e ∷ t → ((j : ℕ) → j < i → is_some (value_at (slice_index_or ts j []) e.0) ≡ false) → (q : List ℕ) → value_at (end_to_end ts) q ≡ cond (eq_by_cmp key_cmp q e.0) (Some e.1) (value_at (end_to_end (slice_set ts i t)) q)
  takes [] i e t h is none q = absurd (omega arith)
  takes (u ∷ ts) zero e t h is none q = ap (λ l. value_at (l ++ end_to_end ts) q) is
  takes (u ∷ ts) (suc i) e t h is none q =
      let rest = takes ts i e t (omega arith) is (λ j s. none (suc j) (omega (arith, s))) q in
      let absent : eq_by_cmp key_cmp q e.0 ≡ true → value_at u q ≡ None = λ tied. ap (value_at u) (tied_keys q e.0 tied) ∙ none_is (value_at u e.0) (none 0 (omega arith)) in
      value_at-append u (end_to_end ts) q ∙ ap (either (value_at u q)) rest
      ∙ swap (eq_by_cmp key_cmp q e.0) (value_at u q) (value_at (end_to_end (slice_set ts i t)) q) e.1 absent
      ∙ ap (cond (eq_by_cmp key_cmp q e.0) (Some e.1)) (sym (value_at-append u (end_to_end (slice_set ts i t)) q))

  -- the first key of a rising table that is not before x, and is not x, has x below
  below_table : (x : List ℕ) (t : List (List ℕ × V)) → IsRising t → IsNotAfter x t → (is_some (value_at t x) ≡ true → ⊥) → T (below_all key_cmp x t)
  below_table x [] r n other = tt
  below_table x (f ∷ t) r n other =
      let is : key_cmp x f.0 ≡ Less = by_order' (key_cmp x f.0) refl in
      both _ _ (lower _ is) (below_values x t (λ q s. nat_list_cmp_total.trans x f.0 q is (values_below f.0 t q (first _ _ (passes _ r)) s)))
    where
      by_order' : (o : Ordering) → key_cmp x f.0 ≡ o → o ≡ Less
      by_order' Less e = refl
      by_order' Equal e = absurd (other (ap (λ (b : Bool). is_some (cond b (Some f.1) (value_at t x))) (ap is_eq e)))
      by_order' Greater e = absurd (n e)

  rest_below : (e : List ℕ × V) (t : List (List ℕ × V)) → IsRising (e ∷ t) → T (below_all key_cmp e.0 t)
  rest_below e t r = first _ _ (passes _ r)

  -- the least of the first entries is the first of the union, and the union of what is left comes after it
  pub united-least : (ts : List (List (List ℕ × V))) (i : ℕ) (e : List ℕ × V) (t : List (List ℕ × V)) → All IsRising ts → Apart ts → i < length ts → slice_index_or ts i [] ≡ e ∷ t → ((j : ℕ) → j < length ts → IsNotAfter e.0 (slice_index_or ts j [])) → united ts ≡ e ∷ united (slice_set ts i t)
  united-least ts i e t rising apart within is least =
      same_tables (united ts) (e ∷ united left) (IsRising-united ts) (is_true _ (both _ _ (below_values e.0 (united left) (λ q s. values_below e.0 (end_to_end left) q all_below (ap is_some (sym (value_at-united left q)) ∙ s))) (passes _ (IsRising-united left))))
      (λ q. value_at-united ts q ∙ takes ts i e t within is (λ j h. absent j (omega (arith, h, within)) (omega (arith, h))) q ∙ ap (cond (eq_by_cmp key_cmp q e.0) (Some e.1)) (sym (value_at-united left q)))
    where
      left : List (List (List ℕ × V))
      left = slice_set ts i t

      here : is_some (value_at (slice_index_or ts i []) e.0) ≡ true
      here = ap (λ l. is_some (value_at l e.0)) is ∙ ap (λ (b : Bool). is_some (cond b (Some e.1) (value_at t e.0))) (eq_itself e.0)

      not_there : (j : ℕ) → j < length ts → j ≢ i → is_some (value_at (slice_index_or ts j []) e.0) ≡ true → ⊥
      not_there j h other s = other (apart j i e.0 h within s here)

      absent : (j : ℕ) → j < length ts → j ≢ i → is_some (value_at (slice_index_or ts j []) e.0) ≡ false
      absent j h other = not_true (is_some (value_at (slice_index_or ts j []) e.0)) (not_there j h other)
        where
          not_true : (b : Bool) → (b ≡ true → ⊥) → b ≡ false
          not_true true n = absurd (n refl)
          not_true false n = refl

      each_below : (j : ℕ) → j < length left → T (below_all key_cmp e.0 (slice_index_or left j []))
      each_below j h =
          let inside : j < length ts = subst (λ n. j < n) (length-set ts i t) h in
          elim (j == i) as (λ b. j == i ≡ b → T (below_all key_cmp e.0 (slice_index_or left j []))) [
            | true ↦ λ same.
                let at : j ≡ i = grind (arith, nat_tests) in
                subst (λ (l : List (List ℕ × V)). T (below_all key_cmp e.0 l)) (sym (ap (λ k. slice_index_or left k []) at ∙ get_or-set_same ts i t [] within)) (rest_below e t (subst IsRising is (All-get_or IsRising ts i [] within rising)))
            | false ↦ λ apart'.
                let other : j ≢ i = grind (arith, nat_tests) in
                subst (λ (l : List (List ℕ × V)). T (below_all key_cmp e.0 l)) (sym (get_or-set_other ts i j t [] other)) (below_table e.0 (slice_index_or ts j []) (All-get_or IsRising ts j [] inside rising) (least j inside) (not_there j inside other))
          ] refl

      all_below : T (below_all key_cmp e.0 (end_to_end left))
      all_below = below_end e.0 left each_below

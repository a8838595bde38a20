-- Merging from the head is merging by keys.
use Rattle.std.proofs.Common.{◌≡◌, ℕ, Bool, true, false, cond, List, [], ◌∷◌, Some, None, refl, sym, ap, subst, ◌∙◌}
use Rattle.std.specs.declared.cmp.Ordering.{Ordering}
use Rattle.std.specs.declared.cmp.Ordering.TheVariants.{Less, Equal, Greater}
use Rattle.std.specs.Ordering.{eq_by_cmp, is_eq, is_lt}
use Rattle.std.specs.FinMap.Entries.{is_sorted, below_all, by_order}
use lib.Dec.{T}
use Rattle.definitions.specs.Tables.{key_cmp, IsRising, value_at, joined_found, merged, merge_into, merge_in_order}
use Rattle.definitions.proofs.TableLaws.{tied_keys, turned, below_chain, both, first, second, is_true, passes, same_tables, value_at-merged, IsRising-merged}

module _ {V : Type 0} (join : V → V → V) where
  -- what is below both lists is below their merge
  below-merge_into : (x : List ℕ) (e : List ℕ × V) (rest : List (List ℕ × V) → List (List ℕ × V)) → T (is_lt (key_cmp x e.0)) → ((u : List (List ℕ × V)) → T (below_all key_cmp x u) → T (below_all key_cmp x (rest u))) → (u : List (List ℕ × V)) → T (below_all key_cmp x u) → T (below_all key_cmp x (merge_into join e rest u))
  below-merge_into x e rest lt ih [] below = both _ _ lt (ih [] below)
  below-merge_into x e rest lt ih (f ∷ u) below =
      elim (key_cmp e.0 f.0) as (λ o. T (below_all key_cmp x (by_order o (e ∷ rest (f ∷ u)) ((e.0, join e.1 f.1) ∷ rest u) (f ∷ merge_into join e rest u)))) [
        | Less ↦ both _ _ lt (ih (f ∷ u) below)
        | Equal ↦ both _ _ lt (ih u (second _ _ below))
        | Greater ↦ both _ _ (first _ _ below) (below-merge_into x e rest lt ih u (second _ _ below))
      ]

  below-merge : (x : List ℕ) (t : List (List ℕ × V)) → T (below_all key_cmp x t) → (u : List (List ℕ × V)) → T (below_all key_cmp x u) → T (below_all key_cmp x (merge_in_order join t u))
  below-merge x [] a u b = b
  below-merge x (e ∷ t) a u b = below-merge_into x e (merge_in_order join t) (first _ _ a) (below-merge x t (second _ _ a)) u b

  below_greater : (e f : List ℕ × V) (t : List (List ℕ × V)) → key_cmp e.0 f.0 ≡ Greater → T (below_all key_cmp e.0 t) → T (below_all key_cmp f.0 (e ∷ t))
  below_greater e f t is below =
      let less : key_cmp f.0 e.0 ≡ Less = turned e.0 f.0 Greater is in
      both _ _ (subst (λ o. T (is_lt o)) (sym less) tt) (below_chain f.0 e.0 t less below)

  -- a key below all is not among them
  absent-below : (q k : List ℕ) (es : List (List ℕ × V)) → q ≡ k → T (below_all key_cmp k es) → value_at es q ≡ None
  absent-below q k [] same below = refl
  absent-below q k (e ∷ es) same below = rw (subst (λ x. eq_by_cmp key_cmp x e.0 ≡ false) (sym same) (not_eq (key_cmp k e.0) (first _ _ below))) (absent-below q k es same (second _ _ below))
    where
      not_eq : (o : Ordering) → T (is_lt o) → is_eq o ≡ false
      not_eq Less h = refl
      not_eq Equal h = absurd h
      not_eq Greater h = absurd h

  -- the merge of rising lists rises
  rising-merge : (t : List (List ℕ × V)) → T (is_sorted key_cmp t) → (u : List (List ℕ × V)) → T (is_sorted key_cmp u) → T (is_sorted key_cmp (merge_in_order join t u))
  rising-merge [] a u b = b
  rising-merge (e ∷ t) a [] b = both _ _ (below-merge e.0 t (first _ _ a) [] tt) (rising-merge t (second _ _ a) [] tt)
  rising-merge (e ∷ t) a (f ∷ u) b = order_case (key_cmp e.0 f.0) refl (λ u b. rising-merge t (second _ _ a) u b) (rising-merge (e ∷ t) a u (second _ _ b))
    where
      order_case : (o : Ordering) → key_cmp e.0 f.0 ≡ o → ((w : List (List ℕ × V)) → T (is_sorted key_cmp w) → T (is_sorted key_cmp (merge_in_order join t w))) → T (is_sorted key_cmp (merge_in_order join (e ∷ t) u)) → T (is_sorted key_cmp (by_order o (e ∷ merge_in_order join t (f ∷ u)) ((e.0, join e.1 f.1) ∷ merge_in_order join t u) (f ∷ merge_into join e (merge_in_order join t) u)))
      order_case Less is ih ih2 = both _ _ (below-merge e.0 t (first _ _ a) (f ∷ u) (both _ _ (subst (λ o. T (is_lt o)) (sym is) tt) (below_chain e.0 f.0 u is (first _ _ b)))) (ih (f ∷ u) b)
      order_case Equal is ih ih2 = both _ _ (below-merge e.0 t (first _ _ a) u (subst (λ k. T (below_all key_cmp k u)) (sym (tied_keys e.0 f.0 (ap is_eq is))) (first _ _ b))) (ih u (second _ _ b))
      order_case Greater is ih ih2 = both _ _ (below-merge f.0 (e ∷ t) (below_greater e f t is (first _ _ a)) u (first _ _ b)) ih2

  -- and has the joined values
  value_at-merge : (t : List (List ℕ × V)) → T (is_sorted key_cmp t) → (u : List (List ℕ × V)) → T (is_sorted key_cmp u) → (q : List ℕ) → value_at (merge_in_order join t u) q ≡ joined_found join (value_at t q) (value_at u q)
  value_at-merge [] a u b q = refl
  value_at-merge (e ∷ t) a [] b q = elim (eq_by_cmp key_cmp q e.0) as (λ c. cond c (Some e.1) (value_at (merge_in_order join t []) q) ≡ joined_found join (cond c (Some e.1) (value_at t q)) None) [ true ↦ refl | false ↦ value_at-merge t (second _ _ a) [] tt q ]
  value_at-merge (e ∷ t) a (f ∷ u) b q = order_case (key_cmp e.0 f.0) refl (eq_by_cmp key_cmp q e.0) refl (eq_by_cmp key_cmp q f.0) refl (λ w c. value_at-merge t (second _ _ a) w c q) (value_at-merge (e ∷ t) a u (second _ _ b) q)
    where
      order_case : (o : Ordering) → key_cmp e.0 f.0 ≡ o → (x : Bool) → eq_by_cmp key_cmp q e.0 ≡ x → (y : Bool) → eq_by_cmp key_cmp q f.0 ≡ y
          → ((w : List (List ℕ × V)) → T (is_sorted key_cmp w) → value_at (merge_in_order join t w) q ≡ joined_found join (value_at t q) (value_at w q))
          → value_at (merge_in_order join (e ∷ t) u) q ≡ joined_found join (value_at (e ∷ t) q) (value_at u q)
          → value_at (by_order o (e ∷ merge_in_order join t (f ∷ u)) ((e.0, join e.1 f.1) ∷ merge_in_order join t u) (f ∷ merge_into join e (merge_in_order join t) u)) q ≡ joined_found join (cond x (Some e.1) (value_at t q)) (cond y (Some f.1) (value_at u q))
      order_case Less is true xs y ys ih ih2 =
          let none : value_at (f ∷ u) q ≡ None = absent-below q e.0 (f ∷ u) (tied_keys q e.0 xs) (both _ _ (subst (λ o. T (is_lt o)) (sym is) tt) (below_chain e.0 f.0 u is (first _ _ b))) in
          rw xs (sym (ap (joined_found join (Some e.1)) (ap (λ z. cond z (Some f.1) (value_at u q)) (sym ys) ∙ none)))
      order_case Less is false xs y ys ih ih2 = rw xs (ih (f ∷ u) b ∙ ap (λ z. joined_found join (value_at t q) (cond z (Some f.1) (value_at u q))) ys)
      order_case Equal is x xs y ys ih ih2 =
          let same : x ≡ y = sym xs ∙ (ap (λ k. eq_by_cmp key_cmp q k) (tied_keys e.0 f.0 (ap is_eq is)) ∙ ys) in
          rw xs (rw (← same) (elim x as (λ z. cond z (Some (join e.1 f.1)) (value_at (merge_in_order join t u) q) ≡ joined_found join (cond z (Some e.1) (value_at t q)) (cond z (Some f.1) (value_at u q))) [ true ↦ refl | false ↦ ih u (second _ _ b) ]))
      order_case Greater is x xs true ys ih ih2 =
          let none : value_at (e ∷ t) q ≡ None = absent-below q f.0 (e ∷ t) (tied_keys q f.0 ys) (below_greater e f t is (first _ _ a)) in
          rw ys (sym (ap (λ o. joined_found join o (Some f.1)) (ap (λ z. cond z (Some e.1) (value_at t q)) (sym xs) ∙ none)))
      order_case Greater is x xs false ys ih ih2 = rw ys (ih2 ∙ ap (λ z. joined_found join (cond z (Some e.1) (value_at t q)) (value_at u q)) xs)

  -- merging from the head is merging by keys
  pub merge-merged : (t u : List (List ℕ × V)) → IsRising t → IsRising u → merge_in_order join t u ≡ merged join t u
  merge-merged t u a b = same_tables _ _ (is_true _ (rising-merge t (passes _ a) u (passes _ b))) (IsRising-merged join t u) (λ q. value_at-merge t (passes _ a) u (passes _ b) q ∙ sym (value_at-merged join t u q))

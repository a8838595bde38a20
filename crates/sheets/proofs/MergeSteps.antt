-- The steps of a merge from the head, by which of two keys is the lower.
use Rattle.std.proofs.Common.{◌≡◌, ℕ, ◌+◌, ◌-◌, ◌≤◌, List, [], ◌∷◌, ◌++◌, length, get_or, take, drop, refl, sym, ap, ◌∙◌, subst, arith, append_assoc}
use Rattle.std.proofs.lemmas.Grind.{common_steps}
use Rattle.std.specs.declared.cmp.Ordering.TheVariants.{Equal, Greater}
use Rattle.definitions.specs.Tables.{key_cmp, HasGoodValues, merge_in_order}
use Rattle.sheets.specs.Sheets.{ties}

-- all but the first
abbrev pub rest_of : {X : Type 0} → List X → List X
rest_of xs = take (length xs - 1) (drop 1 xs)

pub rest_is : {X : Type 0} (xs : List X) → rest_of xs ≡ drop 1 xs
rest_is xs = grind (arith, common_steps)

module _ {V : Type 0} where
  pub good_rest : (good : V → Type 0) (es : List (List ℕ × V)) → HasGoodValues good es → HasGoodValues good (rest_of es)
  good_rest good es g = subst (HasGoodValues good) (sym (rest_is es)) (dropped es g)
    where
      dropped : (es : List (List ℕ × V)) → HasGoodValues good es → HasGoodValues good (drop 1 es)
      dropped [] g = tt
      dropped (e ∷ es) g = g.1

  pub joins_step : (join : V → V → V) (out t u : List (List ℕ × V)) (e f : List ℕ × V) → 1 ≤ length t → 1 ≤ length u → e ≡ get_or t 0 e → f ≡ get_or u 0 f → Equal ≡ key_cmp e.0 f.0
      → (out ++ (e.0, join e.1 f.1) ∷ []) ++ merge_in_order join (rest_of t) (rest_of u) ≡ out ++ merge_in_order join t u
  joins_step join out [] u e f lt lu ist isu order = absurd (omega arith)
  joins_step join out (x ∷ t) [] e f lt lu ist isu order = absurd (omega arith)
  joins_step join out (x ∷ t) (y ∷ u) e f lt lu ist isu order =
      let tied : key_cmp x.0 y.0 ≡ Equal = sym (order ∙ (λ i. key_cmp (ist i).0 (isu i).0)) in
      append_assoc out ((e.0, join e.1 f.1) ∷ []) (merge_in_order join (rest_of (x ∷ t)) (rest_of (y ∷ u)))
      ∙ ap (λ es. out ++ es) ((λ i. ((ist i).0, join (ist i).1 (isu i).1) ∷ merge_in_order join (rest_is (x ∷ t) i) (rest_is (y ∷ u) i)) ∙ rw tied refl)

  pub takes_right_step : (join : V → V → V) (out t u : List (List ℕ × V)) (e f : List ℕ × V) → 1 ≤ length t → 1 ≤ length u → e ≡ get_or t 0 e → f ≡ get_or u 0 f → Greater ≡ key_cmp e.0 f.0
      → (out ++ f ∷ []) ++ merge_in_order join t (rest_of u) ≡ out ++ merge_in_order join t u
  takes_right_step join out [] u e f lt lu ist isu order = absurd (omega arith)
  takes_right_step join out (x ∷ t) [] e f lt lu ist isu order = absurd (omega arith)
  takes_right_step join out (x ∷ t) (y ∷ u) e f lt lu ist isu order =
      let above : key_cmp x.0 y.0 ≡ Greater = sym (order ∙ (λ i. key_cmp (ist i).0 (isu i).0)) in
      append_assoc out (f ∷ []) (merge_in_order join (x ∷ t) (rest_of (y ∷ u)))
      ∙ ap (λ es. out ++ es) ((λ i. isu i ∷ merge_in_order join (x ∷ t) (rest_is (y ∷ u) i)) ∙ rw above refl)

  pub ties-joins : (t u : List (List ℕ × V)) (e f : List ℕ × V) → 1 ≤ length t → 1 ≤ length u → e ≡ get_or t 0 e → f ≡ get_or u 0 f → Equal ≡ key_cmp e.0 f.0
      → ties (rest_of t) (rest_of u) + 1 ≡ ties t u
  ties-joins [] u e f lt lu ist isu order = absurd (omega arith)
  ties-joins (x ∷ t) [] e f lt lu ist isu order = absurd (omega arith)
  ties-joins (x ∷ t) (y ∷ u) e f lt lu ist isu order =
      let tied : key_cmp x.0 y.0 ≡ Equal = sym (order ∙ (λ i. key_cmp (ist i).0 (isu i).0)) in
      (λ i. ties (rest_is (x ∷ t) i) (rest_is (y ∷ u) i) + 1) ∙ rw tied refl

  pub ties-takes_right : (t u : List (List ℕ × V)) (e f : List ℕ × V) → 1 ≤ length t → 1 ≤ length u → e ≡ get_or t 0 e → f ≡ get_or u 0 f → Greater ≡ key_cmp e.0 f.0
      → ties t (rest_of u) ≡ ties t u
  ties-takes_right [] u e f lt lu ist isu order = absurd (omega arith)
  ties-takes_right (x ∷ t) [] e f lt lu ist isu order = absurd (omega arith)
  ties-takes_right (x ∷ t) (y ∷ u) e f lt lu ist isu order =
      let above : key_cmp x.0 y.0 ≡ Greater = sym (order ∙ (λ i. key_cmp (ist i).0 (isu i).0)) in
      (λ i. ties (x ∷ t) (rest_is (y ∷ u) i)) ∙ rw above refl

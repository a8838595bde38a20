-- The search for the table whose first entry comes first.
use Rattle.std.proofs.Common.{◌≡◌, ◌≢◌, ℕ, ◌<◌, ◌+◌, ◌==◌, true, false, List, [], ◌∷◌, length, refl, sym, ap, subst, ◌∙◌, arith}
use Rattle.std.specs.Prelude.{slice_index_or, drop, Option}
use Rattle.std.specs.declared.option.Option.TheVariants.{Some, None}
use Rattle.std.specs.declared.cmp.Ordering.{Ordering}
use Rattle.std.specs.declared.cmp.Ordering.TheVariants.{Less, Equal, Greater}
use Rattle.std.specs.Ordering.{ordering_reverse}
use Rattle.std.specs.FinMap as finite
use Rattle.std.proofs.lemmas.Cmp.{nat_list_cmp_total, tied_itself}
use Rattle.std.proofs.lemmas.Bool.Decides.{nat_tests}
use Rattle.definitions.specs.Tables.{key_cmp}
use Rattle.sheets.specs.United.{IsNotAfter, BestIs, IsLeast}

same_key : (a b : List ℕ) → key_cmp a b ≡ Equal → a ≡ b
same_key a b e = finite.slice_cmp-IsAntisymmetric finite.nat_cmp-IsAntisymmetric a b e

less_not_greater : (o : Ordering) → o ≡ Less → o ≢ Greater
less_not_greater Less e = λ h. cc
less_not_greater Equal e = cc
less_not_greater Greater e = cc

equal_not_greater : (o : Ordering) → o ≡ Equal → o ≢ Greater
equal_not_greater Less e = cc
equal_not_greater Equal e = λ h. cc
equal_not_greater Greater e = cc

module _ {V : Type 0} (ts : List (List (List ℕ × V))) (i : ℕ) where
  -- what holds of the tables before and of this one
  up_to : (P : ℕ → Type 0) → ((j : ℕ) → j < i → P j) → P i → (j : ℕ) → j < i + 1 → P j
  up_to P before here j h =
      elim (j == i) as (λ b. j == i ≡ b → P j) [
        | true ↦ λ same. let at : j ≡ i = grind (arith, nat_tests) in subst P (sym at) here
        | false ↦ λ other. let less : j < i = grind (arith, nat_tests) in before j less
      ] refl

  -- a table without entries is skipped
  none-skipped : slice_index_or ts i [] ≡ [] → BestIs ts i None → BestIs ts (i + 1) None
  none-skipped empty best = up_to (λ j. slice_index_or ts j [] ≡ []) best empty

  some-skipped : (b : ℕ × List ℕ) → slice_index_or ts i [] ≡ [] → BestIs ts i (Some b) → BestIs ts (i + 1) (Some b)
  some-skipped b empty best =
      let before = best.0 in
      (omega (arith, before), best.1, up_to (λ j. IsNotAfter b.1 (slice_index_or ts j [])) best.2 (subst (IsNotAfter b.1) (sym empty) tt))

  pub skipped : (best : Option (ℕ × List ℕ)) → slice_index_or ts i [] ≡ [] → BestIs ts i best → BestIs ts (i + 1) best
  skipped None empty best = none-skipped empty best
  skipped (Some b) empty best = some-skipped b empty best

  itself_first : (e : List ℕ × V) (t : List (List ℕ × V)) → slice_index_or ts i [] ≡ e ∷ t → IsNotAfter e.0 (slice_index_or ts i [])
  itself_first e t is = subst (IsNotAfter e.0) (sym is) (equal_not_greater (key_cmp e.0 e.0) (tied_itself nat_list_cmp_total e.0))

  -- the first entry that was found
  pub first-taken : (e : List ℕ × V) → slice_index_or ts i [] ≡ e ∷ drop 1 (slice_index_or ts i []) → BestIs ts i None → BestIs ts (i + 1) (Some (i, e.0))
  first-taken e is best = (
    omega arith,
    (e, refl, is),
    up_to (λ j. IsNotAfter e.0 (slice_index_or ts j [])) (λ j h. subst (IsNotAfter e.0) (sym (best j h)) tt) (itself_first e (drop 1 (slice_index_or ts i [])) is),
  )

  -- a lower key is not after what the key was not after
  lower_too : (a b : List ℕ) (t : List (List ℕ × V)) → key_cmp a b ≡ Less → IsNotAfter b t → IsNotAfter a t
  lower_too a b [] lt n = tt
  lower_too a b (f ∷ t) lt n = by_order' (key_cmp b f.0) refl n
    where
      by_order' : (o : Ordering) → key_cmp b f.0 ≡ o → key_cmp b f.0 ≢ Greater → key_cmp a f.0 ≢ Greater
      by_order' Less e n = less_not_greater (key_cmp a f.0) (nat_list_cmp_total.trans a b f.0 lt e)
      by_order' Equal e n = less_not_greater (key_cmp a f.0) (ap (key_cmp a) (sym (same_key b f.0 e)) ∙ lt)
      by_order' Greater e n = absurd (n e)

  -- an entry that comes before the best one
  pub lower-taken : (b : ℕ × List ℕ) (e : List ℕ × V) → slice_index_or ts i [] ≡ e ∷ drop 1 (slice_index_or ts i []) → key_cmp e.0 b.1 ≡ Less → BestIs ts i (Some b) → BestIs ts (i + 1) (Some (i, e.0))
  lower-taken b e is lt best = (
    omega arith,
    (e, refl, is),
    up_to (λ j. IsNotAfter e.0 (slice_index_or ts j [])) (λ j h. lower_too e.0 b.1 (slice_index_or ts j []) lt (best.2 j h)) (itself_first e (drop 1 (slice_index_or ts i [])) is),
  )

  not_after_back : (a b : List ℕ) → key_cmp a b ≢ Less → key_cmp b a ≢ Greater
  not_after_back a b n h = n (nat_list_cmp_total.antisymm a b ∙ ap ordering_reverse h)

  -- an entry that does not
  pub best-kept : (b : ℕ × List ℕ) (e : List ℕ × V) → slice_index_or ts i [] ≡ e ∷ drop 1 (slice_index_or ts i []) → key_cmp e.0 b.1 ≢ Less → BestIs ts i (Some b) → BestIs ts (i + 1) (Some b)
  best-kept b e is n best =
      let before = best.0 in
      (omega (arith, before), best.1, up_to (λ j. IsNotAfter b.1 (slice_index_or ts j [])) best.2 (subst (IsNotAfter b.1) (sym is) (not_after_back e.0 b.1 n)))

module _ {V : Type 0} (ts : List (List (List ℕ × V))) where
  -- the best of all is the least
  pub best-least : (b : ℕ × List ℕ) → BestIs ts (length ts) (Some b) → IsLeast ts b.0
  best-least b best = record {
    within = best.0;
    first = best.1.0;
    is = best.1.2;
    least = λ j h. subst (λ (k : List ℕ). IsNotAfter k (slice_index_or ts j [])) (sym best.1.1) (best.2 j h);
  }

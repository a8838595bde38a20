-- Walks over entries and pins, step by step.
use Rattle.std.proofs.Common.{◌≡◌, ℕ, zero, suc, ◌+◌, ◌<◌, ◌≤◌, ◌==◌, Bool, true, false, cond, not, nat_lt, List, [], ◌∷◌, ◌++◌, length, take, drop, set, get_or, remove, position, Some, None, refl, sym, ap, subst, ◌∙◌, arith, add-one}
use Rattle.std.specs.List.{position_or_len}
use Rattle.std.proofs.lemmas.Bool.{ltb-true}
use Rattle.std.proofs.lemmas.Bool.Decides.{nat_tests}
use Rattle.memo_core.specs.declared.entries.CoreEntry.{CoreEntry}
use Rattle.memo_core.specs.Machine.{at_id}
use Rattle.memo_core.specs.Pinned.{without_first}

-- The list with f at the id in its first i entries.
abbrev pub edited : ℕ → (CoreEntry → CoreEntry) → ℕ → List CoreEntry → List CoreEntry
edited id f i es = at_id id f (take i es) ++ drop i es

module _ (id : ℕ) (f : CoreEntry → CoreEntry) where
  set_next : (es : List CoreEntry) (i : ℕ) (x new : CoreEntry) → i < length es → x ≡ get_or (edited id f i es) i x → new ≡ cond (x.id == id) (f x) x → set (edited id f i es) i new ≡ edited id f (suc i) es
  set_next [] i x new lt at is = absurd (omega (arith, lt))
  set_next (e ∷ es) zero x new lt at is = ap (λ (y : CoreEntry). y ∷ es) (is ∙ ap (λ (y : CoreEntry). cond (y.id == id) (f y) y) at)
  set_next (e ∷ es) (suc i) x new lt at is = ap (λ (ys : List CoreEntry). cond (e.id == id) (f e) e ∷ ys) (set_next es i x new (omega (arith, lt)) at is)

  -- One more entry was edited.
  pub edited-set : (es now next : List CoreEntry) (i : ℕ) (x new : CoreEntry) → i < length es → now ≡ edited id f i es → x ≡ get_or now i x → x.id ≡ id → new ≡ f x → next ≡ set now i new → next ≡ edited id f (i + 1) es
  edited-set es now next i x new lt was at same is set_is =
      rw add-one (set_is ∙ ap (λ (l : List CoreEntry). set l i new) was ∙ set_next es i x new lt (at ∙ ap (λ (l : List CoreEntry). get_or l i x) was) (is ∙ (let yes : (x.id == id) ≡ true = grind (arith, nat_tests) in rw yes refl)))

  -- One more entry was passed by.
  pub edited-same : (es now next : List CoreEntry) (i : ℕ) (x : CoreEntry) → i < length es → now ≡ edited id f i es → x ≡ get_or now i x → (x.id ≡ id → ⊥) → next ≡ set now i (get_or now i x) → next ≡ edited id f (i + 1) es
  edited-same es now next i x lt was at apart set_is =
      rw add-one (set_is ∙ ap (λ (l : List CoreEntry). set l i (get_or now i x)) was ∙ set_next es i x (get_or now i x) lt (at ∙ ap (λ (l : List CoreEntry). get_or l i x) was) (sym at ∙ (let other : (x.id == id) ≡ false = grind (arith, nat_tests, apart) in rw other refl)))

place_is : (k n i : ℕ) → cond (nat_lt k n) (Some k) None ≡ Some i → (k ≡ i) × (k < n)
place_is k n i is = place_case (nat_lt k n) refl is
  where
    place_case : (b : Bool) → nat_lt k n ≡ b → cond b (Some k) None ≡ Some i → (k ≡ i) × (k < n)
    place_case true lt is = (let same : k ≡ i = cc in same, ltb-true k n lt)
    place_case false lt is = cc

no_place : (k n : ℕ) → cond (nat_lt k n) (Some k) None ≡ None → n ≤ k
no_place k n is = place_case (nat_lt k n) refl is
  where
    place_case : (b : Bool) → nat_lt k n ≡ b → cond b (Some k) None ≡ None → n ≤ k
    place_case true lt is = cc
    place_case false lt is = grind (arith, nat_tests, lt)

is_place : (k n : ℕ) → k < n → cond (nat_lt k n) (Some k) None ≡ Some k
is_place k n lt = grind (arith, nat_tests)

is_none : (k n : ℕ) → n ≤ k → cond (nat_lt k n) (Some k) None ≡ None
is_none k n le = grind (arith, nat_tests)

-- The first pin of the caller is where the search found it.
pub removed-first : (x : ℕ) (xs : List ℕ) (i : ℕ) → position (λ c. c == x) xs ≡ Some i → (i < length xs) × (remove xs i ≡ without_first x xs)
removed-first x [] i is = cc
removed-first x (y ∷ ys) i is =
    let at = place_is (position_or_len (λ c. c == x) (y ∷ ys)) (length (y ∷ ys)) i is in
    (omega (arith, at.0, at.1), first_case (y == x) at.0 at.1 (removed-first x ys))
  where
    first_case : (b : Bool) → cond (not b) (1 + position_or_len (λ c. c == x) ys) 0 ≡ i → cond (not b) (1 + position_or_len (λ c. c == x) ys) 0 < length (y ∷ ys)
        → ((j : ℕ) → position (λ c. c == x) ys ≡ Some j → (j < length ys) × (remove ys j ≡ without_first x ys)) → remove (y ∷ ys) i ≡ cond b ys (y ∷ without_first x ys)
    first_case true is lt ih = subst (λ (j : ℕ). remove (y ∷ ys) j ≡ ys) is refl
    first_case false is lt ih =
        let k : ℕ = position_or_len (λ c. c == x) ys in
        let next : suc k ≡ i = omega (arith, is) in
        let below : k < length ys = omega (arith, lt) in
        subst (λ (j : ℕ). remove (y ∷ ys) j ≡ y ∷ without_first x ys) next (ap (λ (zs : List ℕ). y ∷ zs) (ih k (is_place k (length ys) below)).1)

-- A caller without a pin.
pub without-none : (x : ℕ) (xs : List ℕ) → position (λ c. c == x) xs ≡ None → xs ≡ without_first x xs
without-none x [] is = refl
without-none x (y ∷ ys) is = none_case (y == x) (no_place (position_or_len (λ c. c == x) (y ∷ ys)) (length (y ∷ ys)) is) (without-none x ys)
  where
    none_case : (b : Bool) → length (y ∷ ys) ≤ cond (not b) (1 + position_or_len (λ c. c == x) ys) 0 → (position (λ c. c == x) ys ≡ None → ys ≡ without_first x ys) → (y ∷ ys) ≡ cond b ys (y ∷ without_first x ys)
    none_case true le ih = absurd (omega (arith, le))
    none_case false le ih = ap (λ (zs : List ℕ). y ∷ zs) (ih (is_none (position_or_len (λ c. c == x) ys) (length ys) (omega (arith, le))))

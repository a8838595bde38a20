-- What is at a place of a list that is made of others.
use Rattle.std.proofs.Common.{◌≡◌, ◌⊎◌, inl, inr, ℕ, suc, zero, ◌+◌, ◌-◌, ◌<◌, ◌≤◌, arith, sym, ap, ◌∙◌, refl, subst, List, [], ◌∷◌, ◌++◌, length, take, drop, set, get_or, map, Some}
use Rattle.std.specs.List.{slice_get, All}
use Rattle.std.specs.List.Sorted.{IsStrictlyIncreasing}
use Rattle.std.proofs.lemmas.Bool.{cases_eq, cases_lt}
use Rattle.std.proofs.lemmas.List.{length-set, drop_all}
use Rattle.record_text.specs.Shifts.{put_at}

module _ {X : Type 0} where
  pub get-append_left : (xs ys : List X) (i : ℕ) → i < length xs → slice_get (xs ++ ys) i ≡ slice_get xs i
  get-append_left [] ys i lt = absurd (omega (arith, lt))
  get-append_left (x ∷ xs) ys zero lt = refl
  get-append_left (x ∷ xs) ys (suc i) lt = get-append_left xs ys i (omega (arith, lt))

  pub get-append_right : (xs ys : List X) (i : ℕ) → slice_get (xs ++ ys) (length xs + i) ≡ slice_get ys i
  get-append_right [] ys i = ap (slice_get ys) (omega arith)
  get-append_right (x ∷ xs) ys i =
      let e : suc (length xs) + i ≡ suc (length xs + i) = omega arith in
      ap (slice_get (x ∷ (xs ++ ys))) e ∙ get-append_right xs ys i

  pub get-last : (xs : List X) (y : X) (k : ℕ) → k ≡ length xs → slice_get (xs ++ y ∷ []) k ≡ Some y
  get-last [] y k e = ap (slice_get (y ∷ [])) e
  get-last (x ∷ xs) y zero e = absurd (omega (arith, e))
  get-last (x ∷ xs) y (suc k) e = get-last xs y k (omega (arith, e))

  pub get-drop : (n : ℕ) (xs : List X) (i : ℕ) → slice_get (drop n xs) i ≡ slice_get xs (n + i)
  get-drop zero xs i = ap (slice_get xs) (omega arith)
  get-drop (suc n) [] i = refl
  get-drop (suc n) (x ∷ xs) i =
      let e : suc (n + i) ≡ suc n + i = omega arith in
      get-drop n xs i ∙ ap (slice_get (x ∷ xs)) e

  pub get-take : (n : ℕ) (xs : List X) (i : ℕ) → i < n → slice_get (take n xs) i ≡ slice_get xs i
  get-take zero xs i lt = absurd (omega (arith, lt))
  get-take (suc n) [] i lt = refl
  get-take (suc n) (x ∷ xs) zero lt = refl
  get-take (suc n) (x ∷ xs) (suc i) lt = get-take n xs i (omega (arith, lt))

  pub get-set_other : (xs : List X) (i j : ℕ) (a : X) → (j ≡ i → ⊥) → slice_get (set xs i a) j ≡ slice_get xs j
  get-set_other [] i j a off = refl
  get-set_other (x ∷ xs) zero zero a off = absurd (off refl)
  get-set_other (x ∷ xs) zero (suc j) a off = refl
  get-set_other (x ∷ xs) (suc i) zero a off = refl
  get-set_other (x ∷ xs) (suc i) (suc j) a off = get-set_other xs i j a (λ e. off (ap suc e))

  pub get-set_same : (xs : List X) (i : ℕ) (a : X) → i < length xs → slice_get (set xs i a) i ≡ Some a
  get-set_same [] i a lt = absurd (omega (arith, lt))
  get-set_same (x ∷ xs) zero a lt = refl
  get-set_same (x ∷ xs) (suc i) a lt = get-set_same xs i a (omega (arith, lt))

  pub length-put : (ps : List ℕ) (news xs : List X) → length (put_at ps news xs) ≡ length xs
  length-put [] news xs = refl
  length-put (p ∷ ps) [] xs = refl
  length-put (p ∷ ps) (y ∷ news) xs = length-put ps news (set xs p y) ∙ length-set xs p y

  -- A place at which nothing is put.
  pub get-put_other : (ps : List ℕ) (news xs : List X) (i : ℕ) → ((k : ℕ) → k < length ps → get_or ps k 0 ≡ i → ⊥) → slice_get (put_at ps news xs) i ≡ slice_get xs i
  get-put_other [] news xs i off = refl
  get-put_other (p ∷ ps) [] xs i off = refl
  get-put_other (p ∷ ps) (y ∷ news) xs i off =
      get-put_other ps news (set xs p y) i (λ k lt e. off (suc k) (omega (arith, lt)) e)
      ∙ get-set_other xs p i y (λ e. off 0 (omega arith) (sym e))

pub rising-tail : (p : ℕ) (ps : List ℕ) → IsStrictlyIncreasing (p ∷ ps) → IsStrictlyIncreasing ps
rising-tail p ps r k lt =
    let e : suc k + 1 ≡ suc (k + 1) = omega arith in
    subst (λ (j : ℕ). get_or ps k 0 < get_or (p ∷ ps) j 0) e (r (suc k) (omega (arith, lt)))

rising-next : (p q : ℕ) (ps : List ℕ) → IsStrictlyIncreasing (p ∷ (q ∷ ps)) → p < q
rising-next p q ps r =
    let e : zero + 1 ≡ suc zero = omega arith in
    subst (λ (j : ℕ). p < get_or (p ∷ (q ∷ ps)) j 0) e (r 0 (omega arith))

-- The first one is below all others.
pub rising-above : (p : ℕ) (ps : List ℕ) → IsStrictlyIncreasing (p ∷ ps) → (k : ℕ) → k < length ps → p < get_or ps k 0
rising-above p [] r k lt = absurd (omega (arith, lt))
rising-above p (q ∷ ps) r zero lt = rising-next p q ps r
rising-above p (q ∷ ps) r (suc k) lt =
    let near = rising-next p q ps r in
    let far = rising-above q ps (rising-tail p (q ∷ ps) r) k (omega (arith, lt)) in
    omega (arith, near, far)

pub rising-le : (ps : List ℕ) → IsStrictlyIncreasing ps → (i j : ℕ) → i ≤ j → j < length ps → get_or ps i 0 ≤ get_or ps j 0
rising-le [] r i j le lt = absurd (omega (arith, lt))
rising-le (p ∷ ps) r zero zero le lt = omega arith
rising-le (p ∷ ps) r zero (suc j) le lt = let above = rising-above p ps r j (omega (arith, lt)) in omega (arith, above)
rising-le (p ∷ ps) r (suc i) zero le lt = absurd (omega (arith, le))
rising-le (p ∷ ps) r (suc i) (suc j) le lt = rising-le ps (rising-tail p ps r) i j (omega (arith, le)) (omega (arith, lt))

module _ {X : Type 0} where
  -- A place at which an item is put.
  pub get-put_same : (ps : List ℕ) (news xs : List X) (k : ℕ) → IsStrictlyIncreasing ps → k < length ps → k < length news → get_or ps k 0 < length xs → slice_get (put_at ps news xs) (get_or ps k 0) ≡ slice_get news k
  get-put_same [] news xs k r lt in_news within = absurd (omega (arith, lt))
  get-put_same (p ∷ ps) [] xs k r lt in_news within = absurd (omega (arith, in_news))
  get-put_same (p ∷ ps) (y ∷ news) xs zero r lt in_news within =
      get-put_other ps news (set xs p y) p (λ k l e. let above = rising-above p ps r k l in omega (arith, above, e))
      ∙ get-set_same xs p y within
  get-put_same (p ∷ ps) (y ∷ news) xs (suc k) r lt in_news within =
      get-put_same ps news (set xs p y) k (rising-tail p ps r) (omega (arith, lt)) (omega (arith, in_news)) (let e = length-set xs p y in omega (arith, e, within))

-- Whether a number is in a list, and at which place.
pub found_or_not : (ps : List ℕ) (i : ℕ) → ((k : ℕ) × (k < length ps) × (get_or ps k 0 ≡ i)) ⊎ ((k : ℕ) → k < length ps → get_or ps k 0 ≡ i → ⊥)
found_or_not [] i = inr (λ k lt e. omega (arith, lt))
found_or_not (p ∷ ps) i = elim (cases_eq p i) [
  | inl e ↦ inl (0, omega arith, e)
  | inr off ↦ elim (found_or_not ps i) [
    | inl f ↦ inl (suc f.0, (let lt = f.1 in omega (arith, lt)), f.2)
    | inr none ↦ inr (not_first p ps i off none)
  ]
]
  where
    not_first : (p : ℕ) (ps : List ℕ) (i : ℕ) → (p ≡ i → ⊥) → ((k : ℕ) → k < length ps → get_or ps k 0 ≡ i → ⊥) → (k : ℕ) → k < length (p ∷ ps) → get_or (p ∷ ps) k 0 ≡ i → ⊥
    not_first p ps i off none zero lt e = off e
    not_first p ps i off none (suc k) lt e = none k (omega (arith, lt)) e

-- A list of places, counted from another one.
pub get-less : (low : ℕ) (ps : List ℕ) (k : ℕ) → k < length ps → get_or (map (λ (p : ℕ). p - low) ps) k 0 ≡ get_or ps k 0 - low
get-less low [] k lt = absurd (omega (arith, lt))
get-less low (p ∷ ps) zero lt = refl
get-less low (p ∷ ps) (suc k) lt = get-less low ps k (omega (arith, lt))

pub length-less : (low : ℕ) (ps : List ℕ) → length (map (λ (p : ℕ). p - low) ps) ≡ length ps
length-less low [] = refl
length-less low (p ∷ ps) = ap suc (length-less low ps)

pub rising-less : (low : ℕ) (ps : List ℕ) → All (λ (p : ℕ). low ≤ p) ps → IsStrictlyIncreasing ps → IsStrictlyIncreasing (map (λ (p : ℕ). p - low) ps)
rising-less low ps within r k lt =
    let e = length-less low ps in
    let here = get-less low ps k (omega (arith, lt, e)) in
    let next = get-less low ps (k + 1) (omega (arith, lt, e)) in
    let rise = r k (omega (arith, lt, e)) in
    let above = within k 0 (omega (arith, lt, e)) in
    omega (arith, here, next, rise, above)

-- How many are left if some leave; none if more would leave than there are.
pub drop-clamped : {X : Type 0} (xs : List X) (n : ℕ) → drop (length xs - (length xs - n)) xs ≡ drop n xs
drop-clamped xs n = elim (cases_lt (length xs) n) [
  | inl lt ↦ ap (λ (k : ℕ). drop k xs) (omega (arith, lt)) ∙ drop_all (length xs) xs (omega arith) ∙ sym (drop_all n xs (omega (arith, lt)))
  | inr le ↦ ap (λ (k : ℕ). drop k xs) (omega (arith, le))
]

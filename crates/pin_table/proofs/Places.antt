-- Lists by their places.
use Rattle.std.proofs.Common.{◌≡◌, ℕ, zero, suc, ◌<◌, List, [], ◌∷◌, ◌++◌, length, get_or, set, map, take, drop, Some, slice_get, All, refl, sym, ap, subst, ◌∙◌, arith, ◌⊎◌, inl, inr, ⊎_elim}

module _ {A : Type 0} where
  pub same_some : (a b : A) → Some a ≡ Some b → a ≡ b
  same_some a b h = cc

  -- what is at a place
  pub at-get : (xs : List A) (i : ℕ) (d : A) → i < length xs → slice_get xs i ≡ Some (get_or xs i d)
  at-get [] i d lt = absurd (omega (arith, lt))
  at-get (x ∷ xs) zero d lt = refl
  at-get (x ∷ xs) (suc i) d lt = at-get xs i d (omega (arith, lt))

  pub get-at : (xs : List A) (i : ℕ) (d a : A) → slice_get xs i ≡ Some a → get_or xs i d ≡ a
  get-at [] i d a at = cc
  get-at (x ∷ xs) zero d a at = same_some x a at
  get-at (x ∷ xs) (suc i) d a at = get-at xs i d a at

  pub at-inside : (xs : List A) (i : ℕ) (a : A) → slice_get xs i ≡ Some a → i < length xs
  at-inside [] i a at = cc
  at-inside (x ∷ xs) zero a at = omega arith
  at-inside (x ∷ xs) (suc i) a at = omega (arith, at-inside xs i a at)

  -- what does not depend on the default
  pub get-same : (xs : List A) (i : ℕ) (d e : A) → i < length xs → get_or xs i d ≡ get_or xs i e
  get-same xs i d e lt = get-at xs i d (get_or xs i e) (at-get xs i e lt)

  -- the last one is new
  pub at-last : (xs : List A) (x c : A) (i : ℕ) → slice_get (xs ++ x ∷ []) i ≡ Some c → (slice_get xs i ≡ Some c) ⊎ ((i ≡ length xs) × (x ≡ c))
  at-last [] x c zero at = inr (refl, same_some x c at)
  at-last [] x c (suc i) at = cc
  at-last (y ∷ xs) x c zero at = inl at
  at-last (y ∷ xs) x c (suc i) at = ⊎_elim (λ h. inl h) (λ h. inr (ap suc h.0, h.1)) (at-last xs x c i at)

  -- the one after those at the head
  pub at-taken : (xs ys : List A) (n : ℕ) (d : A) → n < length xs → get_or (take (suc n) xs ++ ys) n d ≡ get_or xs n d
  at-taken [] ys n d lt = absurd (omega (arith, lt))
  at-taken (x ∷ xs) ys zero d lt = refl
  at-taken (x ∷ xs) ys (suc n) d lt = at-taken xs ys n d (omega (arith, lt))

  -- one more is changed, from the end on
  pub set-taken : (f : A → A) (xs : List A) (n : ℕ) (d : A) → n < length xs → set (take (suc n) xs ++ map f (drop (suc n) xs)) n (f (get_or xs n d)) ≡ take n xs ++ map f (drop n xs)
  set-taken f [] n d lt = absurd (omega (arith, lt))
  set-taken f (x ∷ xs) zero d lt = refl
  set-taken f (x ∷ xs) (suc n) d lt = ap (λ (l : List A). x ∷ l) (set-taken f xs n d (omega (arith, lt)))

  pub get-drop : (xs : List A) (i : ℕ) (d : A) → get_or (drop i xs) 0 d ≡ get_or xs i d
  get-drop xs zero d = refl
  get-drop [] (suc i) d = refl
  get-drop (x ∷ xs) (suc i) d = get-drop xs i d

  pub take-one : (xs : List A) (i : ℕ) (d : A) → i < length xs → take (suc i) xs ≡ take i xs ++ get_or xs i d ∷ []
  take-one [] i d lt = absurd (omega (arith, lt))
  take-one (x ∷ xs) zero d lt = refl
  take-one (x ∷ xs) (suc i) d lt = ap (λ (l : List A). x ∷ l) (take-one xs i d (omega (arith, lt)))

  pub take-set : (xs : List A) (i : ℕ) (y : A) → i < length xs → take (suc i) (set xs i y) ≡ take i xs ++ y ∷ []
  take-set [] i y lt = absurd (omega (arith, lt))
  take-set (x ∷ xs) zero y lt = refl
  take-set (x ∷ xs) (suc i) y lt = ap (λ (l : List A). x ∷ l) (take-set xs i y (omega (arith, lt)))

  pub drop-set : (xs : List A) (i : ℕ) (y : A) → drop (suc i) (set xs i y) ≡ drop (suc i) xs
  drop-set [] i y = refl
  drop-set (x ∷ xs) zero y = refl
  drop-set (x ∷ xs) (suc i) y = drop-set xs i y

  drop-suc : (xs : List A) (i : ℕ) → drop (suc i) xs ≡ drop 1 (drop i xs)
  drop-suc [] zero = refl
  drop-suc [] (suc i) = refl
  drop-suc (x ∷ xs) zero = refl
  drop-suc (x ∷ xs) (suc i) = drop-suc xs i

  pub drop-same : (xs ys : List A) (i : ℕ) → drop i xs ≡ drop i ys → drop (suc i) xs ≡ drop (suc i) ys
  drop-same xs ys i same = drop-suc xs i ∙ (ap (drop 1) same ∙ sym (drop-suc ys i))

  pub at-length : (xs : List A) (x : A) → slice_get (xs ++ x ∷ []) (length xs) ≡ Some x
  at-length [] x = refl
  at-length (y ∷ xs) x = at-length xs x

  pub some-at : (xs : List A) (i : ℕ) → i < length xs → (a : A) × (slice_get xs i ≡ Some a)
  some-at [] i lt = absurd (omega (arith, lt))
  some-at (x ∷ xs) zero lt = (x, refl)
  some-at (x ∷ xs) (suc i) lt = some-at xs i (omega (arith, lt))

  -- what an index read
  pub read-at : (xs : List A) (i : ℕ) (a : A) → i < length xs → a ≡ get_or xs i a → slice_get xs i ≡ Some a
  read-at xs i a lt is = at-get xs i a lt ∙ ap (λ (x : A). Some x) (sym is)

  module _ (P : A → Type 0) where
    pub all-at : (xs : List A) (i : ℕ) (a : A) → All P xs → slice_get xs i ≡ Some a → P a
    all-at xs i a all at = subst P (get-at xs i a a at) (all i a (at-inside xs i a at))

module _ {A B : Type 0} (f : A → B) where
  pub map-get : (xs : List A) (i : ℕ) (d : A) (e : B) → i < length xs → get_or (map f xs) i e ≡ f (get_or xs i d)
  map-get [] i d e lt = absurd (omega (arith, lt))
  map-get (x ∷ xs) zero d e lt = refl
  map-get (x ∷ xs) (suc i) d e lt = map-get xs i d e (omega (arith, lt))

  pub mapped-at : (xs : List A) (i : ℕ) (b : B) → slice_get (map f xs) i ≡ Some b → (a : A) × (slice_get xs i ≡ Some a) × (f a ≡ b)
  mapped-at [] i b at = cc
  mapped-at (x ∷ xs) zero b at = (x, refl, same_some (f x) b at)
  mapped-at (x ∷ xs) (suc i) b at = mapped-at xs i b at

  pub length-mapped : (xs : List A) → length (map f xs) ≡ length xs
  length-mapped [] = refl
  length-mapped (x ∷ xs) = ap suc (length-mapped xs)

  pub map-push : (xs : List A) (a : A) → map f (xs ++ a ∷ []) ≡ map f xs ++ f a ∷ []
  map-push [] a = refl
  map-push (x ∷ xs) a = ap (λ (l : List B). f x ∷ l) (map-push xs a)

-- two lists with equal models, at one place
pub same-at : {A B C : Type 0} (f : A → C) (g : B → C) (xs : List A) (ys : List B) (i : ℕ) (a : A) (b : B) → map f xs ≡ map g ys → i < length xs → i < length ys → a ≡ get_or xs i a → b ≡ get_or ys i b → f a ≡ g b
same-at {A} {B} {C} f g xs ys i a b same left right is there =
    let x : get_or (map f xs) i (f a) ≡ f (get_or xs i a) = map-get f xs i a (f a) left in
    let y : get_or (map g ys) i (f a) ≡ g (get_or ys i b) = map-get g ys i b (f a) right in
    ap f is ∙ (sym x ∙ (ap (λ (l : List C). get_or l i (f a)) same ∙ (y ∙ ap g (sym there))))

-- a place with an item other than the default
pub at-some : {A : Type 0} (P : A → Type 0) (xs : List A) (i : ℕ) (d : A) → (P d → ⊥) → P (get_or xs i d) → i < length xs
at-some P [] i d off h = absurd (off h)
at-some P (x ∷ xs) zero d off h = omega arith
at-some P (x ∷ xs) (suc i) d off h = omega (arith, at-some P xs i d off h)

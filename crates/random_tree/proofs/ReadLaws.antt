-- Items of lists that are made of others.
use Rattle.std.proofs.Common.{◌≡◌, ℕ, suc, zero, ◌+◌, ◌<◌, List, [], ◌∷◌, ◌++◌, length, map, drop, get_or, Some, None, sym, ap, ◌∙◌, arith}
use Rattle.std.specs.List.{slice_get}

module _ {X : Type 0} where
  pub get-read : (xs : List X) (i : ℕ) (x : X) → i < length xs → x ≡ get_or xs i x → slice_get xs i ≡ Some x
  get-read [] i x lt is = absurd (omega (arith, lt))
  get-read (y ∷ xs) zero x lt is = ap (λ (z : X). Some z) (sym is)
  get-read (y ∷ xs) (suc i) x lt is = get-read xs i x (omega (arith, lt)) is

  pub get-below : (xs : List X) (i : ℕ) (x : X) → slice_get xs i ≡ Some x → i < length xs
  get-below [] i x is = absurd (let no : None ≡ Some x = is in cc)
  get-below (y ∷ xs) zero x is = omega arith
  get-below (y ∷ xs) (suc i) x is = let lt = get-below xs i x is in omega (arith, lt)

  pub get-before : (xs ys : List X) (i : ℕ) (x : X) → slice_get xs i ≡ Some x → slice_get (xs ++ ys) i ≡ Some x
  get-before [] ys i x is = absurd (let no : None ≡ Some x = is in cc)
  get-before (z ∷ xs) ys zero x is = is
  get-before (z ∷ xs) ys (suc i) x is = get-before xs ys i x is

  pub get-after : (xs ys : List X) (i k : ℕ) (x : X) → k ≡ length xs + i → slice_get ys i ≡ Some x → slice_get (xs ++ ys) k ≡ Some x
  get-after [] ys i k x at is = ap (slice_get ys) (let same : k ≡ i = omega (arith, at) in same) ∙ is
  get-after (z ∷ xs) ys i zero x at is = absurd (omega (arith, at))
  get-after (z ∷ xs) ys i (suc k) x at is = get-after xs ys i k x (omega (arith, at)) is

  pub get-behind : (n : ℕ) (xs : List X) (i k : ℕ) (x : X) → k ≡ n + i → slice_get xs k ≡ Some x → slice_get (drop n xs) i ≡ Some x
  get-behind zero xs i k x at is = ap (slice_get xs) (let same : i ≡ k = omega (arith, at) in same) ∙ is
  get-behind (suc n) [] i k x at is = absurd (let no : None ≡ Some x = is in cc)
  get-behind (suc n) (y ∷ xs) i zero x at is = absurd (omega (arith, at))
  get-behind (suc n) (y ∷ xs) i (suc k) x at is = get-behind n xs i k x (omega (arith, at)) is

  pub get-map : {Y : Type 0} (f : X → Y) (xs : List X) (i : ℕ) (x : X) → slice_get xs i ≡ Some x → slice_get (map f xs) i ≡ Some (f x)
  get-map f [] i x is = absurd (let no : None ≡ Some x = is in cc)
  get-map f (y ∷ xs) zero x is = let same : y ≡ x = (let some : Some y ≡ Some x = is in cc) in ap (λ (z : X). Some (f z)) same
  get-map f (y ∷ xs) (suc i) x is = get-map f xs i x is

  pub drop-after : (xs ys : List X) (i k : ℕ) → k ≡ length xs + i → drop k (xs ++ ys) ≡ drop i ys
  drop-after [] ys i k at = ap (λ (n : ℕ). drop n ys) (let same : k ≡ i = omega (arith, at) in same)
  drop-after (z ∷ xs) ys i zero at = absurd (omega (arith, at))
  drop-after (z ∷ xs) ys i (suc k) at = drop-after xs ys i k (omega (arith, at))

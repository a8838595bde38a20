-- Lists read by `get_elem?`, and sums over them.
use Rattle.std.proofs.Common.{All, get_or, subst, ◌≡◌, ◌≢◌, ℕ, zero, suc, ◌+◌, ◌<◌, ◌≤◌, ◌⊎◌, List, [], ◌∷◌, ◌++◌, length, length-append, set, sym, refl, ap, ◌∙◌, inl, inr, ⊎_elim, arith}
use Rattle.std.proofs.Math.Seq.{get_or-append_seam}
use Rattle.std.proofs.lemmas.List.{get_or_append_left}
use mathlib.Core.Option.{some, some-injective, some-ne-none}
use lib.ListN.{get_elem?}
use Rattle.shared_seats.specs.Seats.{total}

-- Places.

module _ {A : Type 0} where
  pub at_length : (l : List A) (i : ℕ) (a : A) → get_elem? l i ≡ some a → i < length l
  at_length [] i a e = absurd (some-ne-none a (sym e))
  at_length (x ∷ xs) zero a e = omega arith
  at_length (x ∷ xs) (suc i) a e = let h = at_length xs i a e in omega arith

  pub there : (l : List A) (i : ℕ) → i < length l → (a : A) × (get_elem? l i ≡ some a)
  there [] i h = absurd (omega arith)
  there (x ∷ xs) zero h = (x, refl)
  there (x ∷ xs) (suc i) h = there xs i (omega arith)

  -- A place has only one item.
  pub same_at : (l : List A) (j k : ℕ) (a b : A) → get_elem? l j ≡ some a → get_elem? l k ≡ some b → j ≡ k → a ≡ b
  same_at l j k a b p q e = some-injective a b (sym p ∙ (ap (get_elem? l) e ∙ q))

  pub one_at : (a b : A) (j : ℕ) → get_elem? (a ∷ []) j ≡ some b → (j ≡ 0) × (a ≡ b)
  one_at a b zero e = (refl, some-injective a b e)
  one_at a b (suc j) e = absurd (some-ne-none b (sym e))

  pub at_end : (l : List A) (a b : A) (j : ℕ) → get_elem? (l ++ a ∷ []) j ≡ some b → (get_elem? l j ≡ some b) ⊎ ((j ≡ length l) × (a ≡ b))
  at_end [] a b zero e = inr (refl, some-injective a b e)
  at_end [] a b (suc j) e = absurd (some-ne-none b (sym e))
  at_end (x ∷ xs) a b zero e = inl e
  at_end (x ∷ xs) a b (suc j) e = ⊎_elim (λ h. inl h) (λ h. inr (let q = h.0 in omega arith, h.1)) (at_end xs a b j e)

  pub at_append : (xs ys : List A) (b : A) (j : ℕ) → get_elem? (xs ++ ys) j ≡ some b → (get_elem? xs j ≡ some b) ⊎ ((i : ℕ) × (get_elem? ys i ≡ some b))
  at_append [] ys b j e = inr (j, e)
  at_append (x ∷ xs) ys b zero e = inl e
  at_append (x ∷ xs) ys b (suc j) e = at_append xs ys b j e

  pub at_second : (xs ys : List A) (b : A) (j : ℕ) → get_elem? ys j ≡ some b → (i : ℕ) × (get_elem? (xs ++ ys) i ≡ some b)
  at_second [] ys b j e = (j, e)
  at_second (x ∷ xs) ys b j e = let h = at_second xs ys b j e in (suc h.0, h.1)

  get_at : (l : List A) (k : ℕ) (a d : A) → get_elem? l k ≡ some a → get_or l k d ≡ a
  get_at [] k a d e = absurd (some-ne-none a (sym e))
  get_at (x ∷ xs) zero a d e = some-injective x a e
  get_at (x ∷ xs) (suc k) a d e = get_at xs k a d e

  pub all_at : (P : A → Type 0) (l : List A) (k : ℕ) (a : A) → All P l → get_elem? l k ≡ some a → P a
  all_at P l k a h e = subst P (get_at l k a a e) (h k a (at_length l k a e))

  pub from_all : (P : A → Type 0) (l : List A) → ((k : ℕ) → k < length l → (a : A) × (get_elem? l k ≡ some a) × P a) → All P l
  from_all P l h k d lt = let q = h k lt in subst P (sym (get_at l k q.0 d q.1)) q.2

  -- What holds of all items holds of all but the last, and of the last.
  pub prefix_all : (P : A → Type 0) (all prefix : List A) (y : A) → all ≡ prefix ++ y ∷ [] → All P all → All P prefix
  prefix_all P all prefix y e h k d lt = subst P (ap (λ (l : List A). get_or l k d) e ∙ get_or_append_left prefix (y ∷ []) d k lt) (h k d (let l : length all ≡ length prefix + 1 = ap length e ∙ length-append prefix (y ∷ []) in omega arith))

  pub last_all : (P : A → Type 0) (all prefix : List A) (y : A) → all ≡ prefix ++ y ∷ [] → All P all → P y
  last_all P all prefix y e h = subst P (ap (λ (l : List A). get_or l (length prefix) y) e ∙ get_or-append_seam prefix y [] y) (h (length prefix) y (let l : length all ≡ length prefix + 1 = ap length e ∙ length-append prefix (y ∷ []) in omega arith))

-- Sums.

module _ {A : Type 0} where
  pub total_set : (f : A → ℕ) (l : List A) (i : ℕ) (a b : A) → get_elem? l i ≡ some a → total f (set l i b) + f a ≡ total f l + f b
  total_set f [] i a b e = absurd (some-ne-none a (sym e))
  total_set f (x ∷ xs) zero a b e = let h : f x ≡ f a = ap f (some-injective x a e) in omega arith
  total_set f (x ∷ xs) (suc i) a b e = let h = total_set f xs i a b e in omega arith

  pub total_le : (f g : A → ℕ) → ((a : A) → f a ≤ g a) → (l : List A) → total f l ≤ total g l
  total_le f g h [] = omega arith
  total_le f g h (x ∷ xs) = let p = total_le f g h xs in let q = h x in omega arith

  pub total_append : (f : A → ℕ) (l m : List A) → total f (l ++ m) ≡ total f l + total f m
  total_append f [] m = omega arith
  total_append f (x ∷ xs) m = let h = total_append f xs m in omega arith

  pub total_snoc : (f : A → ℕ) (l : List A) (a : A) → total f (l ++ a ∷ []) ≡ total f l + f a
  total_snoc f l a = let h = total_append f l (a ∷ []) in omega (arith, h)

  pub one_of : (f : A → ℕ) (l : List A) (i : ℕ) (a : A) → get_elem? l i ≡ some a → f a ≤ total f l
  one_of f [] i a e = absurd (some-ne-none a (sym e))
  one_of f (x ∷ xs) zero a e = let p : f x ≡ f a = ap f (some-injective x a e) in omega arith
  one_of f (x ∷ xs) (suc i) a e = let q = one_of f xs i a e in omega arith

  pub two_of : (f : A → ℕ) (l : List A) (i j : ℕ) (a b : A) → get_elem? l i ≡ some a → get_elem? l j ≡ some b → j ≢ i → f a + f b ≤ total f l
  two_of f [] i j a b e h ne = absurd (some-ne-none a (sym e))
  two_of f (x ∷ xs) zero zero a b e h ne = absurd (ne refl)
  two_of f (x ∷ xs) zero (suc j) a b e h ne = let p : f x ≡ f a = ap f (some-injective x a e) in let q = one_of f xs j b h in omega arith
  two_of f (x ∷ xs) (suc i) zero a b e h ne = let p : f x ≡ f b = ap f (some-injective x b h) in let q = one_of f xs i a e in omega arith
  two_of f (x ∷ xs) (suc i) (suc j) a b e h ne = let q = two_of f xs i j a b e h (λ k. ne (ap suc k)) in omega arith

-- Facts about lists.
use Rattle.std.proofs.Common.{Option, Some, None, map, Bool, false, All, get_or, take, ◌≡◌, ℕ, zero, suc, ◌+◌, ◌<◌, List, [], ◌∷◌, ◌++◌, length, set, sym, refl, ap, ◌∙◌, arith}
use Rattle.std.specs.Option.{IsSome}
use mathlib.Core.Option.{some, some-injective, some-ne-none}
use lib.ListN.{get_elem?}
use Rattle.shared_seats.proofs.Lists.{from_all}

module _ {A : Type 0} where
  take_at : (l : List A) (k : ℕ) (a : A) → get_elem? l k ≡ some a → take (suc k) l ≡ take k l ++ a ∷ []
  take_at [] k a e = absurd (some-ne-none a (sym e))
  take_at (x ∷ xs) zero a e = ap (λ (y : A). y ∷ []) (some-injective x a e)
  take_at (x ∷ xs) (suc k) a e = ap (λ (l : List A). x ∷ l) (take_at xs k a e)

  pub take_next : (l : List A) (k : ℕ) (a : A) → get_elem? l k ≡ some a → take (k + 1) l ≡ take k l ++ a ∷ []
  take_next l k a e = ap (λ (n : ℕ). take n l) (let q : k + 1 ≡ suc k = omega arith in q) ∙ take_at l k a e

pub set_false : (l : List Bool) (k : ℕ) → get_or (set l k false) k false ≡ false
set_false [] k = refl
set_false (x ∷ xs) zero = refl
set_false (x ∷ xs) (suc k) = set_false xs k

module _ {Y : Type 0} where
  some_at : (xs : List Y) (k : ℕ) → k < length (map Some xs) → (o : Option Y) × (get_elem? (map Some xs) k ≡ some o) × IsSome o
  some_at [] k lt = absurd (omega arith)
  some_at (x ∷ xs) zero lt = (Some x, refl, refl)
  some_at (x ∷ xs) (suc k) lt = some_at xs k (omega arith)

  pub all_some : (xs : List Y) → All (λ (o : Option Y). IsSome o) (map Some xs)
  all_some xs = from_all (λ (o : Option Y). IsSome o) (map Some xs) (λ k lt. some_at xs k lt)

  unsome : List (Option Y) → List Y
  unsome [] = []
  unsome (None ∷ os) = unsome os
  unsome (Some x ∷ os) = x ∷ unsome os

  unsome_map : (xs : List Y) → unsome (map Some xs) ≡ xs
  unfolding unsome
  unsome_map [] = refl
  unsome_map (x ∷ xs) = ap (λ (l : List Y). x ∷ l) (unsome_map xs)

  pub same_some : (xs ys : List Y) → map Some xs ≡ map Some ys → xs ≡ ys
  same_some xs ys e = sym (unsome_map xs) ∙ (ap unsome e ∙ unsome_map ys)

pub in_whole : {X : Type 0} (n : ℕ) (xs ys : List X) (j : ℕ) (b : X) → n ≡ length xs → get_elem? (take n (xs ++ ys)) j ≡ some b → get_elem? xs j ≡ some b
in_whole n [] ys j b e at = absurd (some-ne-none b (sym (ap (λ (k : ℕ). get_elem? (take k ys) j) (sym e) ∙ at)))
in_whole zero (x ∷ xs) ys j b e at = absurd (omega arith)
in_whole (suc n) (x ∷ xs) ys zero b e at = at
in_whole (suc n) (x ∷ xs) ys (suc j) b e at = in_whole n xs ys j b (omega arith) at

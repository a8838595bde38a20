-- Passes that are handed out from the last one on.
use Rattle.std.proofs.Common.{◌≡◌, ℕ, suc, ◌+◌, ◌<◌, List, [], ◌∷◌, ◌++◌, length, get_or, set, map, take, drop, Some, slice_get, All, refl, ap, subst, ◌∙◌, arith}
use lib.Seq.{get_or-set_other}
use mathlib.Core.Option.{some}
use lib.ListN.{get_elem?}
use Rattle.atomic_table.specs.Seated.{TableId}
use Rattle.turn_lock.specs.Views.{PassView, unplayed}
use Rattle.atomic_table.proofs.Lists.{at_last, at_longer}
use Rattle.shared_seats.proofs.Lists.{prefix_all, last_all}
use Rattle.memo_server.specs.declared.turn.Turn.{Turn}
use Rattle.pin_table.specs.Views.{CallerView, with_lock}
use Rattle.pin_table.proofs.Places.{set-taken, read-at}

-- The last pass has the number of its place.
pub last-pass : (ps qs : List (PassView Turn)) (p : PassView Turn) (n : ℕ) → ps ≡ qs ++ p ∷ [] → n ≡ length qs → ((i : ℕ) (p : PassView Turn) → get_elem? ps i ≡ some p → p ≡ unplayed p.lock i) → p ≡ unplayed p.lock n
last-pass ps qs p n is at fresh = fresh n p (ap (λ (l : List (PassView Turn)). get_elem? l n) is ∙ (ap (get_elem? (qs ++ p ∷ [])) at ∙ at_last qs p (length qs) refl))

pub fresh-rest : (ps qs : List (PassView Turn)) (p : PassView Turn) → ps ≡ qs ++ p ∷ [] → ((i : ℕ) (p : PassView Turn) → get_elem? ps i ≡ some p → p ≡ unplayed p.lock i) → (i : ℕ) (q : PassView Turn) → get_elem? qs i ≡ some q → q ≡ unplayed q.lock i
fresh-rest ps qs p is fresh i q at = fresh i q (ap (λ (l : List (PassView Turn)). get_elem? l i) is ∙ at_longer qs (p ∷ []) i q at)

module _ (id : TableId) (ps qs : List (PassView Turn)) (p : PassView Turn) (is : ps ≡ qs ++ p ∷ []) (all : All (λ p. p.lock ≡ id) ps) where
  pub locks-rest : All (λ p. p.lock ≡ id) qs
  locks-rest = prefix_all (λ (p : PassView Turn). p.lock ≡ id) ps qs p is all

  pub lock-last : p.lock ≡ id
  lock-last = last_all (λ (p : PassView Turn). p.lock ≡ id) ps qs p is all

module _ (xs now : List CallerView) (n m : ℕ) (x : CallerView) (one : n + 1 ≡ m) (inside : n < length xs) (prefix : (i : ℕ) (d : CallerView) → i < m → get_or now i d ≡ get_or xs i d) (is : x ≡ get_or now n x) where
  pub was : x ≡ get_or xs n x
  was = is ∙ prefix n x (omega (arith, one))

  pub was-at : slice_get xs n ≡ Some x
  was-at = read-at xs n x inside was

  pub prefix-rest : (y : CallerView) (i : ℕ) (d : CallerView) → i < n → get_or (set now n y) i d ≡ get_or xs i d
  prefix-rest y i d lt = get_or-set_other now n i y d (λ (e : i ≡ n). omega (arith, e, lt)) ∙ prefix i d (omega (arith, one, lt))

  pub one-more : (id : TableId) (y : CallerView) → now ≡ take m xs ++ map (with_lock id) (drop m xs) → y ≡ with_lock id x → set now n y ≡ take n xs ++ map (with_lock id) (drop n xs)
  one-more id y before new =
      let suc_is : m ≡ suc n = omega (arith, one) in
      let before_suc : now ≡ take (suc n) xs ++ map (with_lock id) (drop (suc n) xs) = subst (λ (k : ℕ). now ≡ take k xs ++ map (with_lock id) (drop k xs)) suc_is before in
      ap (λ (l : List CallerView). set l n y) before_suc ∙ (ap (λ (z : CallerView). set (take (suc n) xs ++ map (with_lock id) (drop (suc n) xs)) n z) (new ∙ ap (with_lock id) was) ∙ set-taken (with_lock id) xs n x inside)

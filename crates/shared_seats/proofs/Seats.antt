-- Which view is at which place after a seat is divided, or two are joined.
use Rattle.std.proofs.Common.{◌≡◌, ◌≢◌, ℕ, ◌+◌, List, [], ◌∷◌, length, length-append, length-set, set, sym, ap, subst, ◌∙◌, ⊎_elim, arith}
use mathlib.Core.Option.{some}
use lib.ListN.{get_elem?}
use Rattle.atomic_table.proofs.Lists.{at_set, set_here, set_else, at_last, at_longer}
use Rattle.shared_seats.specs.Seats.{total, divided, joined}
use Rattle.shared_seats.proofs.Lists.{at_length, at_end, total_set, total_snoc}

module _ {V : Type 0} (vs : List V) (id : ℕ) (v left right : V) (here : get_elem? vs id ≡ some v) where
  first_long : length (set vs id left) ≡ length vs
  first_long = length-set vs id left

  pub divided_length : length (divided vs id left right) ≡ length vs + 1
  divided_length = length-append (set vs id left) (right ∷ []) ∙ ap (λ (k : ℕ). k + 1) first_long

  pub divided_here : get_elem? (divided vs id left right) id ≡ some left
  divided_here = at_longer (set vs id left) (right ∷ []) id left (set_here vs id left (at_length vs id v here))

  pub divided_new : get_elem? (divided vs id left right) (length vs) ≡ some right
  divided_new = at_last (set vs id left) right (length vs) first_long

  pub divided_else : (k : ℕ) (u : V) → k ≢ id → get_elem? vs k ≡ some u → get_elem? (divided vs id left right) k ≡ some u
  divided_else k u ne at = at_longer (set vs id left) (right ∷ []) k u (set_else vs id k left ne ∙ at)

  -- Which view it is.
  pub divided_which : (P : ℕ → V → Type 0) → P id left → ((k : ℕ) (u : V) → k ≢ id → get_elem? vs k ≡ some u → P k u) → P (length vs) right → (k : ℕ) (u : V) → get_elem? (divided vs id left right) k ≡ some u → P k u
  divided_which P a b c k u at = ⊎_elim
      (λ old. ⊎_elim (λ (e, is). subst (λ (z : ℕ × V). P z.0 z.1) (λ i. (sym e i, is i)) a) (λ (ne, at'). b k u ne at') (at_set vs id k left u old))
      (λ (e, is). subst (λ (z : ℕ × V). P z.0 z.1) (λ i. (sym (e ∙ first_long) i, is i)) c)
      (at_end (set vs id left) right u k at)

  pub divided_total : (f : V → ℕ) → total f (divided vs id left right) + f v ≡ total f vs + (f left + f right)
  divided_total f = let a = total_set f vs id v left here in let b = total_snoc f (set vs id left) right in omega (arith, a, b)

module _ {V : Type 0} (vs : List V) (id other : ℕ) (v w both spent : V) (here : get_elem? vs id ≡ some v) (there : get_elem? vs other ≡ some w) (apart : other ≢ id) where
  pub joined_length : length (joined vs id other both spent) ≡ length vs
  joined_length = length-set (set vs id both) other spent ∙ length-set vs id both

  pub joined_here : get_elem? (joined vs id other both spent) id ≡ some both
  joined_here = set_else (set vs id both) other id spent (λ e. apart (sym e)) ∙ set_here vs id both (at_length vs id v here)

  pub joined_other : get_elem? (joined vs id other both spent) other ≡ some spent
  joined_other = set_here (set vs id both) other spent (let l = length-set vs id both in let q = at_length vs other w there in omega (arith, l, q))

  pub joined_else : (k : ℕ) (u : V) → k ≢ id → k ≢ other → get_elem? vs k ≡ some u → get_elem? (joined vs id other both spent) k ≡ some u
  joined_else k u ni nt at = set_else (set vs id both) other k spent nt ∙ (set_else vs id k both ni ∙ at)

  -- Which view it is.
  pub joined_which : (P : ℕ → V → Type 0) → P id both → ((k : ℕ) (u : V) → k ≢ id → k ≢ other → get_elem? vs k ≡ some u → P k u) → P other spent → (k : ℕ) (u : V) → get_elem? (joined vs id other both spent) k ≡ some u → P k u
  joined_which P a b c k u at = ⊎_elim
      (λ (e, is). subst (λ (z : ℕ × V). P z.0 z.1) (λ i. (sym e i, is i)) c)
      (λ (nt, at'). ⊎_elim (λ (e, is). subst (λ (z : ℕ × V). P z.0 z.1) (λ i. (sym e i, is i)) a) (λ (ni, at''). b k u ni nt at'') (at_set vs id k both u at'))
      (at_set (set vs id both) other k spent u at)

  pub joined_total : (f : V → ℕ) → total f (joined vs id other both spent) + (f v + f w) ≡ total f vs + (f both + f spent)
  joined_total f = let a = total_set f vs id v both here in let b = total_set f (set vs id both) other w spent (set_else vs id other both apart ∙ there) in omega (arith, a, b)

-- Boundaries between groups, one after another.
use Rattle.std.proofs.Common.{◌≡◌, ℕ, suc, zero, ◌+◌, ◌<◌, ◌≤◌, true, List, [], ◌∷◌, length, take, get_or, sym, ap, subst, ◌∙◌, arith, add-one}
use Rattle.std.specs.List.{All}
use Rattle.std.proofs.lemmas.List.Elements.{All-more}
use Rattle.random_tree.specs.declared.boundary.Boundary.{Boundary}
use Rattle.random_tree.specs.declared.group.Group.{Group}
use Rattle.random_tree.specs.Levels.{count_of, span, IsBoundary}

module _ {J V M : Type 0} where
  span-next : (gs : List (Group J V M)) (n : ℕ) (x : Group J V M) → n < length gs → x ≡ get_or gs n x → span (take (suc n) gs) ≡ span (take n gs) + count_of x
  span-next [] n x lt is = absurd (omega (arith, lt))
  span-next (g ∷ gs) zero x lt is = let a = ap (λ (h : Group J V M). count_of h) is in omega (arith, a)
  span-next (g ∷ gs) (suc n) x lt is = let a = span-next gs n x (omega (arith, lt)) is in omega (arith, a)

  -- One group more.
  pub span-more : (gs : List (Group J V M)) (n : ℕ) (x : Group J V M) → n < length gs → x ≡ get_or gs n x → span (take (n + 1) gs) ≡ span (take n gs) + count_of x
  span-more gs n x lt is = ap (λ (m : ℕ). span (take m gs)) (add-one n) ∙ span-next gs n x lt is

  pub span-within : (n : ℕ) (gs : List (Group J V M)) → span (take n gs) ≤ span gs
  span-within zero gs = omega arith
  span-within (suc n) [] = omega arith
  span-within (suc n) (g ∷ gs) = let a = span-within n gs in omega (arith, a)

  -- The boundary after the next group.
  pub boundary-more : (gs : List (Group J V M)) (at new : Boundary) (x : Group J V M) → IsBoundary gs at → at.groups < length gs → x ≡ get_or gs at.groups x → new.groups ≡ at.groups + 1 → new.members ≡ at.members + count_of x → IsBoundary gs new
  boundary-more gs at new x before lt is groups members =
      let a = span-more gs at.groups x lt is in
      let b = before.1 in
      ((omega (arith, lt, groups)), members ∙ ((let c : at.members + count_of x ≡ span (take (at.groups + 1) gs) = omega (arith, a, b) in c) ∙ ap (λ (n : ℕ). span (take n gs)) (sym groups)))

  -- Its numbers are not too large.
  pub boundary-fits : (gs : List (Group J V M)) (at : Boundary) (x : Group J V M) → IsBoundary gs at → at.groups < length gs → x ≡ get_or gs at.groups x → at.members + count_of x ≤ span gs
  boundary-fits gs at x before lt is = let a = span-more gs at.groups x lt is in let b = before.1 in let c = span-within (at.groups + 1) gs in omega (arith, a, b, c)

  pub ended-more : (gs : List (Group J V M)) (n m : ℕ) (x : Group J V M) → m ≡ n + 1 → n < length gs → x ≡ get_or gs n x → All (λ h. h.ended ≡ true) (take n gs) → x.ended ≡ true → All (λ h. h.ended ≡ true) (take m gs)
  ended-more gs n m x is lt at all end =
      subst (λ (k : ℕ). All (λ (h : Group J V M). h.ended ≡ true) (take k gs)) (sym is)
      (All-more (λ (h : Group J V M). h.ended ≡ true) gs n x lt all (subst (λ (h : Group J V M). h.ended ≡ true) at end))

-- Places that are folded, and places that grow.
use Rattle.std.proofs.Common.{◌≡◌, inl, inr, ℕ, suc, zero, ◌+◌, ◌-◌, ◌*◌, ◌^◌, ◌<◌, ◌≤◌, arith, ap, ◌∙◌, cond, leb}
use native.Mathlib.Nat.{pow-suc}
use Rattle.std.proofs.lemmas.Bool.{le-leb, lt-leb, eq-eqb, ne_eqb, cases_eq}
use Rattle.std.proofs.lemmas.Nat.{pow_pos}
use Rattle.tree_laws.specs.Trees.{Shape}
use Rattle.folding_tree.specs.Shapes.{folded, with_one, with_fresh}

abbrev shape : ℕ → ℕ → ℕ → Shape
shape height low high = record { height = height; low = low; high = high }

pub folded-left : (h low high : ℕ) → high ≤ 2 ^ h → folded (suc h) low high ≡ folded h low high
folded-left h low high le = ap (λ b. cond b (folded h low high) (cond (leb (2 ^ h) low) (folded h (low - 2 ^ h) (high - 2 ^ h)) (shape (suc h) low high))) (le-leb high (2 ^ h) le)

pub folded-right : (h low high : ℕ) → 2 ^ h < high → 2 ^ h ≤ low → folded (suc h) low high ≡ folded h (low - 2 ^ h) (high - 2 ^ h)
folded-right h low high lt le =
    ap (λ b. cond b (folded h low high) (cond (leb (2 ^ h) low) (folded h (low - 2 ^ h) (high - 2 ^ h)) (shape (suc h) low high))) (lt-leb high (2 ^ h) lt)
    ∙ ap (λ b. cond b (folded h (low - 2 ^ h) (high - 2 ^ h)) (shape (suc h) low high)) (le-leb (2 ^ h) low le)

pub folded-both : (h low high : ℕ) → 2 ^ h < high → low < 2 ^ h → folded (suc h) low high ≡ shape (suc h) low high
folded-both h low high lt less =
    ap (λ b. cond b (folded h low high) (cond (leb (2 ^ h) low) (folded h (low - 2 ^ h) (high - 2 ^ h)) (shape (suc h) low high))) (lt-leb high (2 ^ h) lt)
    ∙ ap (λ b. cond b (folded h (low - 2 ^ h) (high - 2 ^ h)) (shape (suc h) low high)) (lt-leb (2 ^ h) low less)

pub twice : (h : ℕ) → 2 ^ suc h ≡ 2 ^ h * 2
twice h = pow-suc 2 h

one-doubled : (h low high : ℕ) → high ≡ 2 ^ h → with_one (shape h low high) ≡ shape (h + 1) low (high + 1)
one-doubled h low high e = ap (λ b. shape (cond b (h + 1) h) low (high + 1)) (eq-eqb high (2 ^ h) e)

one-more : (h low high : ℕ) → (high ≡ 2 ^ h → ⊥) → with_one (shape h low high) ≡ shape h low (high + 1)
one-more h low high off = ap (λ b. shape (cond b (h + 1) h) low (high + 1)) (ne_eqb high (2 ^ h) off)

-- Fresh leaves make the least height whose places suffice.
pub fresh-reach : (n h low high g : ℕ) → high ≤ 2 ^ h → h ≤ g → high + n ≤ 2 ^ g → ((i : ℕ) → h ≤ i → i < g → 2 ^ i < high + n) → with_fresh n (shape h low high) ≡ shape g low (high + n)
fresh-reach zero h low high g fits le reach least = elim (cases_eq h g) [
  | inl e ↦ ap (λ (k : ℕ). shape k low high) e ∙ ap (shape g low) (omega arith)
  | inr off ↦ absurd (let x = least h (omega arith) (omega (arith, le, off)) in omega (arith, x, fits))
]
fresh-reach (suc n) h low high g fits le reach least =
    let sum : high + 1 + n ≡ high + suc n = omega arith in
    elim (cases_eq high (2 ^ h)) [
      | inl e ↦
          let t : 2 ^ (h + 1) ≡ 2 ^ h * 2 = ap (λ (k : ℕ). 2 ^ k) (omega arith) ∙ twice h in
          let pos : h ≡ g → ⊥ = λ same. (let w = ap (λ (k : ℕ). 2 ^ k) same in omega (arith, w, e, reach)) in
          let some = pow_pos h in
          ap (with_fresh n) (one-doubled h low high e)
          ∙ fresh-reach n (h + 1) low (high + 1) g (omega (arith, e, t, some)) (omega (arith, le, pos)) (omega (arith, reach)) (λ i a b. let x = least i (omega (arith, a)) b in omega (arith, x))
          ∙ ap (shape g low) sum
      | inr off ↦
          ap (with_fresh n) (one-more h low high off)
          ∙ fresh-reach n h low (high + 1) g (omega (arith, fits, off)) le (omega (arith, reach)) (λ i a b. let x = least i a b in omega (arith, x))
          ∙ ap (shape g low) sum
    ]

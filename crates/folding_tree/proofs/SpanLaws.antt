-- Live places, folded and grown.
use Rattle.std.proofs.Common.{◌≡◌, inl, inr, ℕ, suc, ◌+◌, ◌-◌, ◌*◌, ◌/◌, ◌^◌, ◌<◌, ◌≤◌, arith, sym, ap, ◌∙◌, subst, cond}
use Rattle.std.proofs.lemmas.Bool.{cases_lt, cases_eq, lt-ltb, le-ltb}
use Rattle.std.proofs.lemmas.Nat.{pow_below}
use Rattle.tree_laws.specs.Trees.{Shape, no_shape}
use Rattle.folding_tree.specs.declared.span.Span.{Span}
use Rattle.folding_tree.specs.Shapes.{folded, without, with_fresh}
use Rattle.folding_tree.specs.Folding.{IsHalf, span_shape}
use Rattle.folding_tree.proofs.ShapeLaws.{folded-left, folded-right, folded-both, twice, fresh-reach}

abbrev shape_at : ℕ → ℕ → ℕ → Shape
shape_at height low high = record { height = height; low = low; high = high }

-- A power of two that fits 64 bits.
pub pow-small : (h : ℕ) → 2 ^ h < 2 ^ 64 → h < 64
pow-small h lt = elim (cases_lt h 64) [
  | inl less ↦ less
  | inr le ↦ elim (cases_eq h 64) [
    | inl e ↦ (let same = ap (λ (k : ℕ). 2 ^ k) e in absurd (omega (arith, same, lt)))
    | inr off ↦ (let more = pow_below 64 h (omega (arith, le, off)) in absurd (omega (arith, more, lt)))
  ]
]

module _ (span : Span) (wide : span.width ≡ 2 ^ span.height) (some : span.low < span.high) (fits : span.high ≤ span.width) (high : 0 < span.height) where
  upper : span.height ≡ suc (span.height - 1)
  upper = omega (arith, high)

  pub halved : span.width / 2 ≡ 2 ^ (span.height - 1)
  halved = let e = ap (λ (k : ℕ). 2 ^ k) upper in let t = twice (span.height - 1) in omega (arith, wide, e, t)

  pub half-left : span.high ≤ span.width / 2 → IsHalf span (record { height = span.height - 1; width = span.width / 2; low = span.low; high = span.high })
  half-left le = record {
    lower = omega (arith, high);
    wide = halved;
    some = some;
    fits = le;
    shape = ap (λ (k : ℕ). folded k span.low span.high) upper ∙ folded-left (span.height - 1) span.low span.high (let e = halved in omega (arith, le, e));
    moved = (0, omega arith, omega arith);
  }

  pub half-right : span.width / 2 < span.high → span.width / 2 ≤ span.low → IsHalf span (record { height = span.height - 1; width = span.width / 2; low = span.low - span.width / 2; high = span.high - span.width / 2 })
  half-right lt le =
      let e = halved in
      let w = ap (λ (k : ℕ). 2 ^ k) upper in
      let t = twice (span.height - 1) in
      record {
        lower = omega (arith, high);
        wide = halved;
        some = omega (arith, some, le);
        fits = omega (arith, fits, e, w, t, wide);
        shape =
            ap (λ (k : ℕ). folded k span.low span.high) upper
            ∙ folded-right (span.height - 1) span.low span.high (omega (arith, lt, e)) (omega (arith, le, e))
            ∙ ap (λ (h : ℕ). folded (span.height - 1) (span.low - h) (span.high - h)) (sym e);
        moved = (1, omega (arith, le, e), omega (arith, lt, e));
      }

  pub half-none : span.width / 2 < span.high → span.low < span.width / 2 → folded span.height span.low span.high ≡ span_shape span
  half-none lt less =
      let e = halved in
      ap (λ (k : ℕ). folded k span.low span.high) upper
      ∙ folded-both (span.height - 1) span.low span.high (omega (arith, lt, e)) (omega (arith, less, e))
      ∙ ap (λ (k : ℕ). shape_at k span.low span.high) (sym upper)

-- A move by multiples of a half's places, after a move by multiples of all places.
pub moved-twice : (j t h up low mid : ℕ) → up ≡ h + 1 → mid ≡ low + t * 2 ^ h → (high : ℕ) → high ≡ mid + j * 2 ^ up → high ≡ low + (t + 2 * j) * 2 ^ h
moved-twice j t h up low mid e a high b =
    let s : up ≡ suc h = omega (arith, e) in
    let p : 2 ^ up ≡ 2 ^ h * 2 = ap (λ (k : ℕ). 2 ^ k) s ∙ twice h in
    let q : high ≡ mid + j * (2 ^ h * 2) = b ∙ ap (λ (x : ℕ). mid + j * x) p in
    q ∙ ap (λ (x : ℕ). x + j * (2 ^ h * 2)) a ∙ factor low t j (2 ^ h)
  where
    factor : (low t j x : ℕ) → low + t * x + j * (x * 2) ≡ low + (t + 2 * j) * x
    factor low t j x = grind arith

-- Places that suffice for all leaves.
pub grown-shape : (span : Span) (height width high fresh : ℕ) → span.width ≡ 2 ^ span.height → span.high ≤ span.width → width ≡ 2 ^ height → span.height ≤ height → high ≡ span.high + fresh → high ≤ width → ((i : ℕ) → span.height ≤ i → i < height → 2 ^ i < high) → shape_at height span.low high ≡ with_fresh fresh (span_shape span)
grown-shape span height width high fresh wide fits now le is reach least =
    sym (fresh-reach fresh span.height span.low span.high height (omega (arith, wide, fits)) le (omega (arith, is, reach, now)) (λ i a b. let x = least i a b in omega (arith, x, is))
    ∙ ap (shape_at height span.low) (sym is))

-- The places of leaves of which some leave: there are others, or none.
pub kept-some : (gone : ℕ) (s : Shape) → s.low + gone < s.high → without gone s ≡ folded s.height (s.low + gone) s.high
kept-some gone s lt = ap (λ b. cond b (folded s.height (s.low + gone) s.high) no_shape) (lt-ltb (s.low + gone) s.high lt)

pub kept-none : (gone : ℕ) (s : Shape) → s.high ≤ s.low + gone → without gone s ≡ no_shape
kept-none gone s le = ap (λ b. cond b (folded s.height (s.low + gone) s.high) no_shape) (le-ltb (s.low + gone) s.high le)

-- No height so far suffices.
pub grown-least : (from height high : ℕ) → 2 ^ height < high → ((i : ℕ) → from ≤ i → i < height → 2 ^ i < high) → (i : ℕ) → from ≤ i → i < height + 1 → 2 ^ i < high
grown-least from height high here least i a b = elim (cases_eq i height) [
  | inl e ↦ subst (λ (k : ℕ). 2 ^ k < high) (sym e) here
  | inr off ↦ least i a (omega (arith, b, off))
]

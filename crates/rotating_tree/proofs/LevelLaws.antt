-- A tree that is as low as its places allow has at most their levels.
use Rattle.std.proofs.Common.{◌≡◌, inl, inr, ℕ, suc, zero, ◌*◌, ◌<◌, ◌≤◌, ◌^◌, arith, subst}
use Rattle.std.proofs.lemmas.Bool.{cases_lt}
use Rattle.std.proofs.Math.Nat.{mul-le-mul_right, pow-suc}
use Rattle.std.proofs.Math.Pow.{pow_mono}
use Rattle.job_laws.specs.declared.meter.Counts.{Counts}
use Rattle.job_laws.specs.Counted.{RoseBy}
use Rattle.job_laws.proofs.CountLaws.{rose_more}
use Rattle.rotating_tree.specs.Levels.{powers_below, levels}

-- A number is below its power of two.
below-power : (k : ℕ) → k < 2 ^ k
below-power zero = omega arith
below-power (suc k) = omega (arith, below-power k, pow-suc 2 k)

-- If the first h powers are below n, they are counted.
counted-powers : (m n h : ℕ) → h ≤ m → ((j : ℕ) → j < h → 2 ^ j < n) → h ≤ powers_below m n
counted-powers zero n h le below = le
counted-powers (suc m) n h le below = elim (cases_lt m h) [
  | inl lt ↦
      let here : 2 ^ m < n = below m lt in
      let rest : m ≤ powers_below m n = counted-powers m n m (omega arith) (λ j l. below j (omega (arith, l, lt))) in
      omega (arith, rest, le, here)
  | inr ge ↦
      let rest : h ≤ powers_below m n = counted-powers m n h ge below in
      omega (arith, rest)
]

-- A tree of height h with 2 ^ h < 2 * n.
pub levels-most : (h n : ℕ) → 2 ^ h < 2 * n → h ≤ levels n
levels-most zero n low = omega arith
levels-most (suc h) n low =
    let half : 2 ^ h < n = omega (arith, low, pow-suc 2 h) in
    let few : suc h ≤ n = omega (arith, half, below-power h) in
    counted-powers n n (suc h) few (λ j lt. let less : 2 ^ j ≤ 2 ^ h = pow_mono (omega (arith, lt)) in omega (arith, less, half))

-- The counts of a tree of that height, for a circle of n places.
pub levels-rose : (h n c keys : ℕ) (x y : Counts) → 2 ^ h < 2 * n → RoseBy 0 (h * c) (h * c * keys) x y → RoseBy 0 (c * levels n) (c * levels n * keys) x y
levels-rose h n c keys x y low rose =
    let most : h * c ≤ levels n * c = mul-le-mul_right c (levels-most h n low) in
    let turned : levels n * c ≡ c * levels n = grind arith in
    let merges : h * c ≤ c * levels n = subst (λ (k : ℕ). h * c ≤ k) turned most in
    rose_more 0 (h * c) (h * c * keys) 0 (c * levels n) (c * levels n * keys) x y (omega arith) merges (mul-le-mul_right keys merges) rose

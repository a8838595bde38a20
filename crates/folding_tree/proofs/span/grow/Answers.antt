use Rattle.std.proofs.Common.{◌≡◌, ℕ, suc, ◌+◌, ◌^◌, ◌<◌, ap, subst, arith}
use Rattle.std.proofs.lemmas.Nat.{pow_pos}
use Rattle.folding_tree.proofs.ShapeLaws.{twice}
use Rattle.folding_tree.proofs.SpanLaws.{pow-small, grown-shape, grown-least}
use Rattle.folding_tree.proofs.span.grow.Goals as goal

pub doubles-init : goal.doubles-init
doubles-init c = record {
  wide = c.requires.wide;
  higher = omega arith;
  small = pow-small c.args.span.height (let w = c.requires.wide in omega (arith, w));
  least = λ i a b. absurd (omega (arith, a, b));
}

pub doubles-preserved : goal.doubles-preserved
doubles-preserved c =
    let inv = c.doubles.invariant in
    let w = inv.wide in
    let lt = c.doubles-test.true in
    let twice_is : c.in-Some-checked_mul.twice ≡ 2 ^ (c.doubles.height + 1) =
    (let m = c.in-Some-checked_mul.ensures.1 in let t = twice c.doubles.height in let e : suc c.doubles.height ≡ c.doubles.height + 1 = omega arith in let p = ap (λ (k : ℕ). 2 ^ k) e in omega (arith, m, t, w, p)) in
    record {
      wide = twice_is;
      higher = (let h = inv.higher in omega (arith, h));
      small = pow-small (c.doubles.height + 1) (omega (arith, twice_is));
      least = grown-least c.args.span.height c.doubles.height c.in-Some.high (subst (λ (x : ℕ). x < c.in-Some.high) w lt) inv.least;
    }

pub overflow_add-height : goal.overflow_add-height
overflow_add-height c = let s = c.doubles.invariant.small in omega (arith, s)

pub doubles-smaller : goal.doubles-smaller
doubles-smaller c =
    let w = c.doubles.invariant.wide in
    let some = pow_pos c.doubles.height in
    let m = c.in-Some-checked_mul.ensures.1 in
    let lt = c.doubles-test.true in
    omega (arith, w, some, m, lt)

pub returns-clause-shape : goal.returns-clause-shape
returns-clause-shape c =
    let inv = c.doubles.invariant in
    let high : c.in-Some.high ≡ c.args.span.high + c.args.fresh = c.in-Some.ensures.1 in
    grown-shape c.args.span c.doubles.height c.doubles.width c.in-Some.high c.args.fresh c.requires.wide c.requires.fits inv.wide inv.higher high (let lt = c.doubles-test.false in omega (arith, lt)) inv.least

pub returns-clause-doubled : goal.returns-clause-doubled
returns-clause-doubled c = λ more.
    let at = c.doubles.invariant.least c.args.span.height (omega arith) more in
    let w = c.requires.wide in
    let fits = c.requires.fits in
    omega (arith, at, w, fits)

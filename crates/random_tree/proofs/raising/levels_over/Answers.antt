use Rattle.std.proofs.Common.{ℕ, ◌-◌, ◌*◌, ◌/◌, ◌^◌, ◌≤◌, arith}
use Rattle.std.proofs.Math.Nat.{mul-le-mul_left}
use Rattle.random_tree.proofs.GroupLaws.{double}
use Rattle.random_tree.proofs.raising.levels_over.Goals as goal

-- Half of a number, rounded up, twice.
halved : (n p : ℕ) → n * p ≤ (n - n / 2) * (2 * p)
halved n p = let le : n ≤ (n - n / 2) * 2 = omega arith in let a = mul-le-mul_left p le in omega (arith, a)

pub halves-preserved : goal.halves-preserved
halves-preserved c =
    let e = c.halves.invariant.enough in
    let s = c.halves.invariant.small in
    let t = c.halves-test.true in
    let h = halved c.halves.left (2 ^ c.halves.count) in
    record {
      enough = (let p = double c.halves.count in rw p (omega (arith, e, h)));
      small = omega (arith, s, t);
      below = omega (arith, s, t);
    }

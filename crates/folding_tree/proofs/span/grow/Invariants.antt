use Rattle.std.proofs.Common.{◌≡◌, ℕ, ◌-◌, ◌^◌, ◌<◌, ◌≤◌}
use Rattle.folding_tree.proofs.span.grow.Given as goal

abbrev pub invariant-doubles : goal.invariant-doubles
invariant-doubles l = record {
  wide : l.width ≡ 2 ^ l.height;
  higher : l.span.height ≤ l.height;
  small : l.height < 64;
  least : (i : ℕ) → l.span.height ≤ i → i < l.height → 2 ^ i < l.high;
}

abbrev pub decreases-doubles : goal.decreases-doubles
decreases-doubles l = l.high - l.width

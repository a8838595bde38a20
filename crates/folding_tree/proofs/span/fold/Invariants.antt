use Rattle.std.proofs.Common.{◌≡◌, ℕ, ◌+◌, ◌*◌, ◌^◌, ◌<◌, ◌≤◌}
use Rattle.folding_tree.specs.Shapes.{folded}
use Rattle.folding_tree.proofs.span.fold.Given as goal

abbrev pub invariant-halves : goal.invariant-halves
invariant-halves l = record {
  wide : l.span.width ≡ 2 ^ l.span.height;
  some : l.span.low < l.span.high;
  fits : l.span.high ≤ l.span.width;
  shape : folded l.span.height l.span.low l.span.high ≡ folded l.initial.span.height l.initial.span.low l.initial.span.high;
  lower : l.span.height ≤ l.initial.span.height;
  moved : (j : ℕ) × (l.initial.span.low ≡ l.span.low + j * 2 ^ l.span.height) × (l.initial.span.high ≡ l.span.high + j * 2 ^ l.span.height);
}

abbrev pub decreases-halves : goal.decreases-halves
decreases-halves l = l.span.height

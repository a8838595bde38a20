use Rattle.std.proofs.Common.{◌+◌, ◌-◌, ◌*◌, ◌^◌, ◌≤◌}
use Rattle.random_tree.proofs.raising.levels_over.Given as goal

abbrev pub invariant-halves : goal.invariant-halves
invariant-halves l = record {
  enough : l.leaves ≤ l.left * 2 ^ l.count;
  small : l.count + l.left ≤ l.leaves;
  below : l.count ≤ l.leaves - 1;
}

abbrev pub decreases-halves : goal.decreases-halves
decreases-halves l = l.left

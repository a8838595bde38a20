use Rattle.std.proofs.Common.{◌≡◌, ℕ, ◌+◌, ◌-◌, ◌≤◌, length, vec_len}
use Rattle.tree_laws.specs.Pairs.{pair_digest}
use Rattle.folding_tree.specs.Folding.{rows_of, levels_pins}
use Rattle.folding_tree.proofs.deepening.deepen.Given as goal

abbrev pub invariant-levels : goal.invariant-levels
invariant-levels g l = record {
  more : length l.initial.levels.items ≤ length l.levels.items;
  rows : (k : ℕ) → rows_of l.levels.items k ≡ rows_of l.initial.levels.items k;
  pins : levels_pins (pair_digest g.J.Job.encoded) l.levels.items ≡ levels_pins (pair_digest g.J.Job.encoded) l.initial.levels.items;
}

abbrev pub decreases-levels : goal.decreases-levels
decreases-levels g l = l.height + 1 - vec_len l.levels

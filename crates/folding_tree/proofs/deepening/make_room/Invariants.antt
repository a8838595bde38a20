use Rattle.std.proofs.Common.{◌≡◌, ℕ, ◌-◌, ◌<◌, ◌≤◌, length, Some}
use Rattle.std.specs.List.{slice_get}
use Rattle.std.specs.VecDeque.{deque_capacity}
use Rattle.tree_laws.specs.Pairs.{pair_digest}
use Rattle.folding_tree.specs.Folding.{rows_of, levels_pins}
use Rattle.folding_tree.proofs.deepening.make_room.Given as goal

abbrev pub invariant-levels : goal.invariant-levels
invariant-levels g l = record {
  count : length l.levels.items ≡ length l.initial.levels.items;
  rows : (i : ℕ) → rows_of l.levels.items i ≡ rows_of l.initial.levels.items i;
  pins : levels_pins (pair_digest g.J.Job.encoded) l.levels.items ≡ levels_pins (pair_digest g.J.Job.encoded) l.initial.levels.items;
  room : (i : ℕ) (level : _) (draft : _) → i < l.k → slice_get l.levels.items i ≡ Some level → slice_get l.drafts i ≡ Some draft → draft.high - draft.low ≤ deque_capacity level.nodes;
}

use Rattle.std.proofs.Common.{◌≡◌, ◌-◌, drop, length}
use Rattle.std.specs.VecDeque.{deque_capacity, deque_len}
use Rattle.pin_table.specs.Covers.{Covered}
use Rattle.tree_laws.specs.Pairs.{pair_digest}
use Rattle.folding_tree.specs.Levels.{parts_pins}
use Rattle.tree_laws.specs.Trades.{Trades}
use Rattle.folding_tree.proofs.letting.let_first_go.Given as goal

abbrev pub invariant-first : goal.invariant-first
invariant-first g l = record {
  of : l.caller.locks ≡ l.memo.locks;
  room : deque_capacity l.parts ≡ deque_capacity l.initial.parts;
  covered : Covered l.caller (parts_pins (pair_digest g.J.Job.encoded) l.parts.items);
  rest : drop (length l.parts.items - l.left) l.parts.items ≡ drop (length l.initial.parts.items - l.left) l.initial.parts.items;
  trades : Trades l.initial.caller (parts_pins (pair_digest g.J.Job.encoded) l.initial.parts.items) l.caller (parts_pins (pair_digest g.J.Job.encoded) l.parts.items);
}

abbrev pub decreases-first : goal.decreases-first
decreases-first g l = deque_len l.parts

use Rattle.std.proofs.Common.{◌≡◌, ◌-◌, ◌++◌, drop, map, length}
use Rattle.std.specs.VecDeque.{deque_capacity}
use Rattle.record_text.specs.Shifts.{put_at}
use Rattle.pin_table.specs.Covers.{Covered}
use Rattle.tree_laws.specs.Pairs.{pair_digest}
use Rattle.folding_tree.specs.Levels.{parts_pins}
use Rattle.tree_laws.specs.Trades.{Trades}
use Rattle.folding_tree.proofs.settling.exchange.Given as goal

abbrev pub invariant-places : goal.invariant-places
invariant-places g l = record {
  of : l.caller.locks ≡ l.memo.locks;
  room : deque_capacity l.nodes ≡ deque_capacity l.initial.nodes;
  size : length l.nodes.items ≡ length l.initial.nodes.items;
  rest : length l.changed.items ≡ length l.places - l.i;
  covered : Covered l.caller (parts_pins (pair_digest g.J.Job.encoded) l.nodes.items ++ parts_pins (pair_digest g.J.Job.encoded) l.changed.items);
  nodes : put_at (map (λ place. place - l.low) (drop l.i l.places)) l.changed.items l.nodes.items ≡ put_at (map (λ place. place - l.low) l.places) l.initial.changed.items l.initial.nodes.items;
  trades : Trades l.initial.caller (parts_pins (pair_digest g.J.Job.encoded) l.initial.nodes.items ++ parts_pins (pair_digest g.J.Job.encoded) l.initial.changed.items) l.caller (parts_pins (pair_digest g.J.Job.encoded) l.nodes.items ++ parts_pins (pair_digest g.J.Job.encoded) l.changed.items);
}

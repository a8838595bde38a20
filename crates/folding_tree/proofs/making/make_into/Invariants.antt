use Rattle.std.proofs.Common.{◌≡◌, ℕ, ◌*◌, true, List, length, take}
use Rattle.std.specs.VecDeque.{deque_capacity}
use Rattle.job_laws.specs.Counted.{RoseBy}
use Rattle.pin_table.specs.Covers.{AreGiven, Got}
use Rattle.pin_table.specs.OwnEvents.{Met}
use Rattle.tree_laws.specs.Pairs.{pair_digest}
use Rattle.tree_laws.specs.Trees.{IsWithin, distinct_keys}
use Rattle.folding_tree.specs.Levels.{AreMade, EachSheet, row_after, merges_over, parts_pins, parts_loose}
use Rattle.folding_tree.specs.Folding.{row_of, ahead_of}
use Rattle.folding_tree.proofs.making.make_into.Given as goal

abbrev pub invariant-places : goal.invariant-places
invariant-places g l = record {
  of : l.caller.locks ≡ l.memo.locks;
  room : deque_capacity l.made ≡ deque_capacity l.initial.made;
  count : length l.made.items ≡ l.i;
  made : AreMade g.J.Job.joined (row_after (row_of l.below) (ahead_of l.draft)) (take l.i l.places) l.made.items;
  got : Got l.initial.caller (parts_pins (pair_digest g.J.Job.encoded) l.made.items) l.caller;
  given : AreGiven l.caller (parts_pins (pair_digest g.J.Job.encoded) l.made.items);
  loose : parts_loose l.made.items ≡ true → Met l.initial.caller l.caller;
  counted : (ts : List (List (List ℕ × g.row.J-Val.Denot))) → EachSheet (λ s. IsWithin s.entries ts) (row_after (row_of l.below) (ahead_of l.draft)) → RoseBy 0 (merges_over (row_after (row_of l.below) (ahead_of l.draft)) (take l.i l.places)) (merges_over (row_after (row_of l.below) (ahead_of l.draft)) (take l.i l.places) * distinct_keys ts) (g.J.Meter.Meter.counts l.initial.m) (g.J.Meter.Meter.counts l.m);
}

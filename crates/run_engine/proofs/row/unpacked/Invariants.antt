use Rattle.std.proofs.Common.{◌≡◌, ◌+◌, ◌≤◌, ◌++◌, List, length, drop, vec_len, vec_capacity}
use Rattle.run_engine.specs.Rows.{row_of}
use Rattle.run_engine.proofs.RowSteps.{works_of}
use Rattle.run_engine.proofs.row.unpacked.Given as goal

abbrev pub invariant-tasks : goal.invariant-tasks
invariant-tasks g l = record {
  items : List _;
  meters : List _;
  row : l.row.items ≡ works_of items meters;
  whole : l.fn.row.items ≡ row_of (items ++ l.items.items) (meters ++ l.meters.items) l.last;
  front : length meters ≡ length items;
  count : vec_len l.meters ≡ vec_len l.items + vec_len l.initial.meters;
  others : drop (vec_len l.items) l.meters.items ≡ l.initial.meters.items;
  room : (vec_len l.row + vec_len l.items ≤ vec_capacity l.items) × (vec_len l.row + vec_len l.meters ≤ vec_capacity l.meters);
}

abbrev pub decreases-tasks : goal.decreases-tasks
decreases-tasks g l = vec_len l.row

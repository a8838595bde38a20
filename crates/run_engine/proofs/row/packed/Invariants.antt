use Rattle.std.proofs.Common.{◌≡◌, ◌+◌, ◌<◌, ◌++◌, List, length, drop, vec_len, vec_capacity}
use Rattle.run_engine.specs.Rows.{row_of}
use Rattle.run_engine.proofs.row.packed.Given as goal

abbrev pub invariant-items : goal.invariant-items
invariant-items g l = record {
  items : List _;
  meters : List _;
  front : List _;
  others : List _;
  are : l.initial.items.items ≡ l.items.items ++ items;
  from : l.initial.meters.items ≡ front ++ (meters ++ others);
  now : l.meters.items ≡ front ++ others;
  behind : others ≡ drop (vec_len l.initial.items) l.initial.meters.items;
  count : length front ≡ vec_len l.items;
  as_many : length meters ≡ length items;
  row : l.row.items ≡ row_of items meters l.fn.last;
  room : vec_len l.row + vec_len l.items < vec_capacity l.row + 1;
  same : (vec_capacity l.items ≡ vec_capacity l.initial.items) × (vec_capacity l.meters ≡ vec_capacity l.initial.meters);
}

abbrev pub decreases-items : goal.decreases-items
decreases-items g l = vec_len l.items

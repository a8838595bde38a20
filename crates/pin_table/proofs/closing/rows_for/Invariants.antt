use Rattle.std.proofs.Common.{◌≡◌, ◌≤◌, [], All, vec_len, vec_capacity}
use Rattle.pin_table.proofs.closing.rows_for.Given as goal

abbrev pub invariant-rows : goal.invariant-rows
invariant-rows g l = record {
  count : vec_len l.all ≡ l.counter;
  room : vec_capacity l.all ≡ l.fn.rows;
  each : All (λ row. (row.items ≡ []) × (l.callers ≤ vec_capacity row)) l.all.items;
}

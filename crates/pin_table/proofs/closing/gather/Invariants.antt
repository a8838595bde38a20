use Rattle.std.proofs.Common.{◌≡◌, take, drop, vec_len, vec_capacity}
use Rattle.pin_table.specs.Closing.{Gives}
use Rattle.pin_table.proofs.closing.gather.Given as goal

abbrev pub invariant-places : goal.invariant-places
invariant-places g l = record {
  count : vec_len l.row ≡ l.i;
  room : vec_capacity l.row ≡ vec_capacity l.initial.row;
  length : vec_len l.callers ≡ vec_len l.initial.callers;
  rest : drop l.i l.callers.items ≡ drop l.i l.initial.callers.items;
  given : Gives (take l.i l.initial.callers.items) (take l.i l.callers.items) l.row.items;
}

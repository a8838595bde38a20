use Rattle.std.proofs.Common.{◌≡◌, [], vec_len, vec_capacity}
use Rattle.pin_table.specs.Ends.{AreNewcomers}
use Rattle.pin_table.proofs.making.without_passes.Given as goal

abbrev pub invariant-numbers : goal.invariant-numbers
invariant-numbers g l = record {
  count : vec_len l.all ≡ l.number;
  room : vec_capacity l.all ≡ l.callers;
  fresh : AreNewcomers [] l.all.items;
}

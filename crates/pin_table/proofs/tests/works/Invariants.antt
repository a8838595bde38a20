use Rattle.std.proofs.Common.{◌≡◌}
use Rattle.pin_table.specs.Covers.{Covered, names_of}
use Rattle.pin_table.specs.Spread.{spread}
use Rattle.pin_table.proofs.tests.works.Given as goal

abbrev pub invariant-rounds : goal.invariant-rounds
invariant-rounds g l = record {
  of : l.desk.caller.locks ≡ l.memo.locks;
  covered : Covered l.desk.caller (names_of spread l.desk.pins.items);
}

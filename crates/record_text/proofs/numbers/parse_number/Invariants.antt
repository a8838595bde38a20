use Rattle.std.proofs.Common.{◌≡◌, ◌<◌, ◌^◌, true, take}
use Rattle.std.specs.List.{list_all}
use Rattle.definitions.specs.Numbers.{is_digit, digits_value}
use Rattle.record_text.proofs.numbers.parse_number.Given as goal

abbrev pub invariant-loop-b : goal.invariant-loop-b
invariant-loop-b l = record {
  value : l.value ≡ digits_value (take l.b-index l.bytes);
  digits : list_all is_digit (take l.b-index l.bytes) ≡ true;
  small : l.value < 10 ^ l.b-index;
}

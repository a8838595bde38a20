use Rattle.std.proofs.Common.{◌≡◌, ◌++◌, take, drop}
use Rattle.plain_program.specs.Plain.{key_among}
use Rattle.plain_program.proofs.keys.add_key.Given as goal

abbrev pub invariant-keys : goal.invariant-keys
invariant-keys l = record {
  same : l.keys.items ≡ l.initial.keys.items;
  place : take l.i l.keys.items ++ key_among l.key (drop l.i l.keys.items) ≡ key_among l.key l.keys.items;
}

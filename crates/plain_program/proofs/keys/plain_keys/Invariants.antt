use Rattle.std.proofs.Common.{◌≡◌, ◌≤◌, length, drop}
use Rattle.definitions.specs.Tables.{keys_of}
use Rattle.plain_program.proofs.keys.plain_keys.Given as goal

abbrev pub invariant-pairs : goal.invariant-pairs
invariant-pairs g l = record {
  within : l.left ≤ length l.pairs;
  keys : l.keys.items ≡ keys_of (drop l.left l.pairs);
}

abbrev pub decreases-pairs : goal.decreases-pairs
decreases-pairs g l = l.left

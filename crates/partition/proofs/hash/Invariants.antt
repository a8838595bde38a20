use Rattle.std.proofs.Common.{◌≡◌, take, fold}
use Rattle.partition.specs.Parts.{hash_step}
use Rattle.partition.proofs.hash.Given as goal

abbrev pub invariant-bytes : goal.invariant-bytes
invariant-bytes l = l.hash ≡ fold hash_step 2166136261 (take l.byte-index l.key)

use Rattle.std.proofs.Common.{◌≡◌, length, take}
use Rattle.definitions.specs.Records.{text_of}
use Rattle.chunk_store.proofs.places.text_of_first.Given as goal

abbrev pub invariant-sum : goal.invariant-sum
invariant-sum l = l.size ≡ length (text_of (take l.i l.records))

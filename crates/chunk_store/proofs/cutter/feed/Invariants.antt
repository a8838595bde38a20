use Rattle.std.proofs.Common.{◌≡◌, ◌+◌, ◌-◌, ◌++◌, take, drop}
use Rattle.chunk_store.specs.Cutting.{records_of}
use Rattle.chunk_store.proofs.cutter.feed.Given as goal

abbrev pub invariant-feeding : goal.invariant-feeding
invariant-feeding l = records_of l.cutter ≡ records_of l.initial.cutter ++ take (l.i - l.from) (drop l.from l.records)

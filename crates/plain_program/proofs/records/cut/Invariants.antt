use Rattle.std.proofs.Common.{◌≡◌, ◌≤◌, ◌-◌, ◌++◌, length, drop}
use Rattle.marker_chunker.specs.Cuts.{chunks_of}
use Rattle.plain_program.proofs.records.cut.Given as goal

abbrev pub invariant-chunks : goal.invariant-chunks
invariant-chunks l = record {
  within : l.from ≤ length l.records;
  cut : l.chunks.items ++ chunks_of (drop l.from l.records) ≡ chunks_of l.records;
}

abbrev pub decreases-chunks : goal.decreases-chunks
decreases-chunks l = length l.records - l.from

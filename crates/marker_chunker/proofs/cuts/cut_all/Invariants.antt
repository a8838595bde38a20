use Rattle.std.proofs.Common.{◌≡◌, ◌≤◌, ◌-◌, ◌++◌, length, drop}
use Rattle.marker_chunker.specs.Cuts.{places, chunks_of}
use Rattle.marker_chunker.proofs.cuts.cut_all.Given as goal

abbrev pub invariant-cuts : goal.invariant-cuts
invariant-cuts l = record {
  within : l.from ≤ length l.records;
  cut : l.ends.items ++ places l.from (chunks_of (drop l.from l.records)) ≡ places 0 (chunks_of l.records);
}

abbrev pub decreases-cuts : goal.decreases-cuts
decreases-cuts l = length l.records - l.from

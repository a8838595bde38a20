use Rattle.std.proofs.Common.{◌≡◌, ◌≤◌, ◌+◌, ◌-◌, ◌++◌, length, drop}
use Rattle.marker_chunker.specs.Cuts.{chunks_of, joined}
use Rattle.chunk_store.specs.Cutting.{records_of}
use Rattle.chunk_store.specs.Documents.{NoMeeting}
use Rattle.chunk_store.proofs.recut.meet.Given as goal

abbrev pub invariant-meeting : goal.invariant-meeting
invariant-meeting l = record {
  in_range : (l.from ≤ l.place) × (l.place ≤ length l.chunks);
  records : records_of l.cutter ++ joined (drop l.place l.chunks) ≡ records_of l.initial.cutter ++ joined (drop l.from l.chunks);
  least : NoMeeting l.chunks l.from l.place (chunks_of (records_of l.initial.cutter ++ joined (drop l.from l.chunks))) (length (records_of l.initial.cutter));
}

abbrev pub decreases-meeting : goal.decreases-meeting
decreases-meeting l = length l.chunks - l.place

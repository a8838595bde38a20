use Rattle.std.proofs.Common.{◌≡◌, ◌≤◌, ◌-◌, take}
use Rattle.marker_chunker.specs.Cuts.{reach}
use Rattle.chunk_store.specs.Documents.{text_size}
use Rattle.chunk_store.proofs.places.find.Given as goal

abbrev pub invariant-finding : goal.invariant-finding
invariant-finding l = record {
  start : l.start ≡ reach l.i l.chunks;
  text : l.text ≡ text_size (take l.i l.chunks);
  holds : l.start ≤ l.k;
}

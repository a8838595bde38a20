use Rattle.std.proofs.Common.{◌≡◌, [], ◌∷◌, ◌++◌, take, drop}
use Rattle.marker_chunker.specs.Markers.{last_bytes, some_marks}
use Rattle.marker_chunker.proofs.marker.is_marker.Given as goal

abbrev pub invariant-windows : goal.invariant-windows
invariant-windows l = record {
  window : l.roll ≡ last_bytes (take l.i l.r);
  passed : some_marks [] (l.r ++ 10 ∷ []) ≡ some_marks (take l.i l.r) (drop l.i l.r ++ 10 ∷ []);
}

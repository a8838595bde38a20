use Rattle.std.proofs.Common.{◌≤◌}
use Rattle.marker_chunker.proofs.Parts.{IsGrowing}
use Rattle.marker_chunker.proofs.cuts.first_cut.Given as goal

abbrev pub invariant-grow : goal.invariant-grow
invariant-grow l = (l.from ≤ l.to) × IsGrowing l.records l.from l.to l.marks l.size

use Rattle.std.proofs.Common.{◌≡◌, ◌≤◌, take}
use Rattle.definitions.specs.Limits.{most_text}
use Rattle.chunk_store.specs.Documents.{text_size}
use Rattle.plain_program.proofs.refusing.is_large.Given as goal

abbrev pub invariant-leaves : goal.invariant-leaves
invariant-leaves l = record {
  small : l.size ≤ most_text;
  sized : l.size ≡ text_size (take l.i l.leaves);
}

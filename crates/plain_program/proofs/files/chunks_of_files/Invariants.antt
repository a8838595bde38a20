use Rattle.std.proofs.Common.{◌≡◌, ◌++◌, length}
use Rattle.chunk_store.specs.Files.{all_chunks}
use Rattle.plain_program.proofs.files.chunks_of_files.Given as goal

abbrev pub invariant-files : goal.invariant-files
invariant-files l = l.chunks.items ++ all_chunks l.rest ≡ all_chunks l.files

abbrev pub decreases-files : goal.decreases-files
decreases-files l = length l.rest

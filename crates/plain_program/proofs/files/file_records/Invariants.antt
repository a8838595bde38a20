use Rattle.std.proofs.Common.{◌≡◌, length}
use Rattle.chunk_store.specs.Files.{file_at}
use Rattle.plain_program.proofs.files.file_records.Given as goal

abbrev pub invariant-files : goal.invariant-files
invariant-files l = file_at l.name l.rest ≡ file_at l.name l.files

abbrev pub decreases-files : goal.decreases-files
decreases-files l = length l.rest

use Rattle.std.proofs.Common.{◌≡◌, ◌++◌, length}
use Rattle.chunk_store.specs.Files.{greater}
use Rattle.plain_program.proofs.files.append_greater.Given as goal

abbrev pub invariant-files : goal.invariant-files
invariant-files l = l.into.items ++ greater l.name l.rest ≡ l.initial.into.items ++ greater l.name l.files

abbrev pub decreases-files : goal.decreases-files
decreases-files l = length l.rest

use Rattle.std.proofs.Common.{◌≡◌, ◌++◌, ℕ, List, length}
use Rattle.sheets.specs.Digests.{HoldsBut, table_bytes}
use Rattle.sheets.proofs.digest.digest_of.Given as goal

abbrev pub invariant-entries : goal.invariant-entries
invariant-entries g l = (taken : List ℕ) × HoldsBut l.hasher l.bytes.items taken × (taken ++ table_bytes g.J.Job.encoded l.rest ≡ table_bytes g.J.Job.encoded l.entries)

abbrev pub decreases-entries : goal.decreases-entries
decreases-entries g l = length l.rest

use Rattle.std.proofs.Common.{◌≡◌, ◌++◌, take, drop}
use Rattle.memo_core.specs.Machine.{at_id, released}
use Rattle.memo_core.proofs.entries.Entries.release.Given as goal

abbrev pub invariant-entries : goal.invariant-entries
invariant-entries l = l.entry-items ≡ at_id l.id (released l.caller) (take l.entry-index l.initial.entry-items) ++ drop l.entry-index l.initial.entry-items

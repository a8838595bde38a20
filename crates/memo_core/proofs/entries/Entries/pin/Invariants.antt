use Rattle.std.proofs.Common.{◌≡◌, ◌++◌, take, drop}
use Rattle.memo_core.specs.Machine.{at_id, pinned}
use Rattle.memo_core.proofs.entries.Entries.pin.Given as goal

abbrev pub invariant-entries : goal.invariant-entries
invariant-entries l = l.entry-items ≡ at_id l.id (pinned l.caller l.run) (take l.entry-index l.initial.entry-items) ++ drop l.entry-index l.initial.entry-items

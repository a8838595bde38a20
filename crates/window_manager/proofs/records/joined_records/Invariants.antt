use Rattle.std.proofs.Common.{◌≡◌, ◌++◌, take}
use Rattle.window_manager.proofs.records.joined_records.Given as goal

abbrev pub invariant-more : goal.invariant-more
invariant-more l = l.all ≡ l.records ++ take l.i l.more

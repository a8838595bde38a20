use Rattle.std.proofs.Common.{◌≡◌}
use Rattle.map_tasks.proofs.tests.sweep.Given as goal

abbrev pub invariant-shards : goal.invariant-shards
invariant-shards g l = l.caller.locks ≡ l.memo.locks

use Rattle.std.proofs.Common.{◌≡◌}
use Rattle.map_tasks.proofs.tests.sweeps.Given as goal

abbrev pub invariant-rounds : goal.invariant-rounds
invariant-rounds g l = l.caller.locks ≡ l.memo.locks

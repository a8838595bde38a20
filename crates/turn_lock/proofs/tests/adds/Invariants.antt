use Rattle.std.proofs.Common.{◌≡◌}
use Rattle.turn_lock.proofs.tests.adds.Given as goal

abbrev pub invariant-loop : goal.invariant-loop
invariant-loop g l = l.pass.lock ≡ l.initial.pass.lock

use Rattle.std.proofs.Common.{◌≤◌}
use Rattle.window_manager.proofs.tests.played.Given as goal

abbrev pub invariant-steps : goal.invariant-steps
invariant-steps l = l.window.slid.accepted ≤ l.i

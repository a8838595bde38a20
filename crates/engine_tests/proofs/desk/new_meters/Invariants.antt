use Rattle.std.proofs.Common.{◌≡◌, ◌≤◌, ◌-◌, length}
use Rattle.engine_tests.proofs.desk.new_meters.Given as goal

abbrev pub invariant-meters : goal.invariant-meters
invariant-meters l = record { same : length l.lanes.items ≡ length l.parts.items; most : length l.parts.items ≤ 16 }

abbrev pub decreases-meters : goal.decreases-meters
decreases-meters l = 16 - length l.parts.items

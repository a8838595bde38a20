use Rattle.std.proofs.Common.{◌≤◌, ◌-◌, length}
use Rattle.job_extremes.proofs.serving_tests.new_meters.Given as goal

abbrev pub invariant-meters : goal.invariant-meters
invariant-meters l = length l.meters.items ≤ 16

abbrev pub decreases-meters : goal.decreases-meters
decreases-meters l = 16 - length l.meters.items

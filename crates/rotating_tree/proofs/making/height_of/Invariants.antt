use Rattle.std.proofs.Common.{◌≡◌, ◌-◌, ◌*◌, ◌^◌, ◌<◌, ◌≤◌}
use Rattle.rotating_tree.proofs.making.height_of.Given as goal

abbrev pub invariant-levels : goal.invariant-levels
invariant-levels l = record { power : l.width ≡ 2 ^ l.height; low : l.width < 2 * l.n; small : l.height < l.width; few : l.height ≤ 13 }

abbrev pub decreases-levels : goal.decreases-levels
decreases-levels l = 8192 - l.width

use Rattle.std.proofs.Common.{◌+◌, ◌*◌}
use Rattle.rotating_tree.specs.Nodes.{forks}
use Rattle.rotating_tree.proofs.settling.+settle.Given as goal

abbrev pub decreases-settle : goal.decreases-settle
decreases-settle g l = 2 * forks l.node.now

abbrev pub decreases-settle_fork : goal.decreases-settle_fork
decreases-settle_fork g l = 2 * (forks l.left.now + forks l.right.now) + 1

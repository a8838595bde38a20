use Rattle.std.proofs.Common.{◌+◌, ◌*◌}
use Rattle.rotating_tree.specs.Nodes.{forks}
use Rattle.rotating_tree.proofs.reverting.+revert.Given as goal

abbrev pub decreases-revert : goal.decreases-revert
decreases-revert g l = 2 * forks l.node.now

abbrev pub decreases-revert_fork : goal.decreases-revert_fork
decreases-revert_fork g l = 2 * (forks l.left.now + forks l.right.now) + 1

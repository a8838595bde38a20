use Rattle.std.proofs.Common.{◌+◌, ◌*◌}
use Rattle.rotating_tree.specs.Nodes.{forks}
use Rattle.rotating_tree.proofs.rejoining.+rejoin.Given as goal

abbrev pub decreases-rejoin : goal.decreases-rejoin
decreases-rejoin g l = 2 * forks l.node.now

abbrev pub decreases-fork : goal.decreases-fork
decreases-fork g l = 2 * (forks l.left.now + forks l.right.now) + 1

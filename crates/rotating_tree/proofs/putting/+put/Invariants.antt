use Rattle.std.proofs.Common.{◌+◌, ◌*◌}
use Rattle.rotating_tree.specs.Nodes.{forks}
use Rattle.rotating_tree.proofs.putting.+put.Given as goal

abbrev pub decreases-put : goal.decreases-put
decreases-put g l = 2 * forks l.node.now

abbrev pub decreases-put_below : goal.decreases-put_below
decreases-put_below g l = 2 * (forks l.left.now + forks l.right.now) + 1

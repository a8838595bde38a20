use Rattle.std.proofs.Common.{length}
use Rattle.random_tree.proofs.raising.+raise.Given as goal

abbrev pub decreases-raise : goal.decreases-raise
decreases-raise g l = length l.levels.now

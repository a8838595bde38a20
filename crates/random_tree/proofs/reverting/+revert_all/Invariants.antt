use Rattle.std.proofs.Common.{length}
use Rattle.random_tree.proofs.reverting.+revert_all.Given as goal

abbrev pub decreases-revert_all : goal.decreases-revert_all
decreases-revert_all g l = length l.levels.now

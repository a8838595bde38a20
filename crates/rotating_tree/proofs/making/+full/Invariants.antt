use Rattle.rotating_tree.proofs.making.+full.Given as goal

abbrev pub decreases-full : goal.decreases-full
decreases-full g l = l.height

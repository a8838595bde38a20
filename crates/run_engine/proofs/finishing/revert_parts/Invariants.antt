use Rattle.run_engine.specs.Finishing.{RevertsTree}
use Rattle.run_engine.proofs.InPlaceSteps.{Partly}
use Rattle.run_engine.proofs.finishing.revert_parts.Given as goal

abbrev pub invariant-parts : goal.invariant-parts
invariant-parts g l = Partly (λ k s t. RevertsTree g.T.Tree.view g.T.Tree.pins g.T.Tree.most s.tree s.caller t.tree t.caller t.fresh.items) l.i l.initial.parts.items l.parts.items

use Rattle.pin_table.proofs.Covering.{balanced-then}
use Rattle.tree_tests.proofs.running.run_once.Goals as goal

pub returns-in-Ok-clause-balanced : goal.returns-in-Ok-clause-balanced
returns-in-Ok-clause-balanced g c =
    balanced-then c.args.caller.now c.advance.new.caller c.settle.new.caller (g.T.Tree.pins c.args.tree.now) (g.T.Tree.pins c.advance.new.self) (g.T.Tree.pins c.settle.new.self) c.advance.ensures.balanced c.settle.ensures.balanced

pub returns-in-Err-clause-balanced : goal.returns-in-Err-clause-balanced
returns-in-Err-clause-balanced g c =
    balanced-then c.args.caller.now c.advance.new.caller c.revert.new.caller (g.T.Tree.pins c.args.tree.now) (g.T.Tree.pins c.advance.new.self) (g.T.Tree.pins c.revert.new.self) c.advance.ensures.balanced c.revert.ensures.balanced

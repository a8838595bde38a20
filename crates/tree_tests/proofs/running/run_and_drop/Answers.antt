use Rattle.tree_laws.proofs.TradeLaws.{covered-rest}
use Rattle.tree_tests.proofs.running.run_and_drop.Goals as goal

pub returns-clause-of : goal.returns-clause-of
returns-clause-of g c = c.run_once.ensures.balanced.later.locks

pub returns-clause-others : goal.returns-clause-others
returns-clause-others g c = λ ps covered. covered-rest c.args.caller.now c.run_once.new.caller (g.T.Tree.pins c.args.tree) ps (g.T.Tree.pins c.run_once.new.tree) covered c.run_once.ensures.balanced

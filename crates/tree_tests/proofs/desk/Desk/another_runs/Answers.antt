use Rattle.std.proofs.Common.{refl}
use Rattle.tree_tests.proofs.DeskLaws.{beside-none, seated-same}
use Rattle.tree_tests.proofs.desk.Desk.another_runs.Goals as goal

pub invariant_of-self : goal.invariant_of-self
invariant_of-self g c =
    let s = c.self.inside in
    seated-same s.memo s.caller (g.T.Tree.pins s.tree) (g.T.Tree.view s.tree) (g.J.Job.setting s.job) s.window.places s.window.first s.window.count c.self.invariant
    c.run_and_drop.new.caller (g.T.Tree.pins s.tree) (g.T.Tree.view s.tree)
    (c.run_and_drop.ensures.others (g.T.Tree.pins s.tree) (beside-none s.caller (g.T.Tree.pins c.in_ok-tree.tree) (g.T.Tree.pins s.tree) c.in_ok-tree.ensures.pins c.self.invariant.covered))
    c.run_and_drop.ensures.of refl

pub invariant_of-self-in-Err : goal.invariant_of-self-in-Err
invariant_of-self-in-Err g c =
    let s = c.self.inside in
    seated-same s.memo s.caller (g.T.Tree.pins s.tree) (g.T.Tree.view s.tree) (g.J.Job.setting s.job) s.window.places s.window.first s.window.count c.self.invariant
    c.run_and_drop.new.caller (g.T.Tree.pins s.tree) (g.T.Tree.view s.tree)
    (c.run_and_drop.ensures.others (g.T.Tree.pins s.tree) (beside-none s.caller (g.T.Tree.pins c.in_ok-tree.tree) (g.T.Tree.pins s.tree) c.in_ok-tree.ensures.pins c.self.invariant.covered))
    c.run_and_drop.ensures.of refl

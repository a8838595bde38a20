use Rattle.std.proofs.Common.{refl}
use Rattle.tree_tests.proofs.DeskLaws.{seated-run}
use Rattle.tree_tests.proofs.desk.Desk.runs.Goals as goal

pub invariant_of-self : goal.invariant_of-self
invariant_of-self g c =
    let s = c.self.inside in
    seated-run s.memo s.caller (g.T.Tree.pins s.tree) (g.T.Tree.view s.tree) (g.J.Job.setting s.job) s.window.places s.window.first s.window.count c.self.invariant
    c.run_once.new.caller (g.T.Tree.pins c.run_once.new.tree) (g.T.Tree.view c.run_once.new.tree) c.run_once.ensures.covered
    c.KIND.result g.T.Tree.shaped c.args.shift.now c.args.news.now c.in-Some.after.places c.in-Some.after.first c.in-Some.after.count
    c.run_once.ensures.balanced.later.locks (c.if-not-fits.ensures refl) c.in-Ok.ensures.ok c.in-Some.ensures.places c.in-Some.ensures.first c.in-Some.ensures.count

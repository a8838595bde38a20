use Rattle.engine_tests.proofs.DeskLaws.{desk-told}
use Rattle.engine_tests.proofs.desk.Desk.apply.Goals as goal

pub invariant_of-self : goal.invariant_of-self
invariant_of-self g c =
    let e = c.self.inside in
    desk-told g.T.Tree.KIND e.parts e.told (g.J.Job.accepts (g.J.Job.setting c.job.result.now)) e.engine e.window c.apply-done.new.self c.args.c c.apply-done.result c.apply-done.ensures c.self.invariant

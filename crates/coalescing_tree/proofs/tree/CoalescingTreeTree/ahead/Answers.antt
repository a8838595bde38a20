use Rattle.tree_laws.specs.Pairs.{pair_digest}
use Rattle.coalescing_tree.proofs.AdvanceLaws.{seen-few}
use Rattle.coalescing_tree.proofs.tree.CoalescingTreeTree.ahead.Goals as goal

pub returns-clause-few : goal.returns-clause-few
returns-clause-few g c =
    let t = c.self.inside in
    seen-few g.J.Job.good g.J.Job.joined (pair_digest g.J.Job.encoded) t.setting t.places t.leaves.items t.standing t.top t.draft c.args.self.now c.self.view_is c.self.invariant c.requires.no_draft

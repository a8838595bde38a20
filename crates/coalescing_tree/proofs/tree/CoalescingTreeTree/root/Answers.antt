use Rattle.std.specs.Option.{option_copied}
use Rattle.tree_laws.specs.Pairs.{pair_digest}
use Rattle.coalescing_tree.proofs.SettleLaws.{root-read}
use Rattle.coalescing_tree.proofs.tree.CoalescingTreeTree.root.Goals as goal

pub returns : goal.returns
returns g c =
    let t = c.self.inside in
    root-read g.J.Job.good g.J.Job.joined (pair_digest g.J.Job.encoded) t.setting t.places t.leaves.items t.standing t.top t.draft c.self.invariant c.args.self.now c.deref.result.now (option_copied c.as_ref.result) (option_copied c.root_over.result)
    c.self.view_is c.deref.ensures.value c.as_ref.ensures.value c.root_over.ensures

use Rattle.std.proofs.Common.{◌*◌}
use Rattle.pin_table.proofs.Covering.{balanced-same}
use Rattle.tree_laws.specs.Pairs.{pair_digest}
use Rattle.tree_laws.specs.Trees.{distinct_keys}
use Rattle.tree_laws.proofs.LeafLaws.{rose-still}
use Rattle.folding_tree.proofs.SeenLaws.{seen-none, seen-few}
use Rattle.folding_tree.proofs.tree.FoldingTreeTree.ahead.Goals as goal

pub returns-clause-balanced : goal.returns-clause-balanced
returns-clause-balanced g c = balanced-same c.args._caller.now c.args.self.now.pins

pub returns-clause-few : goal.returns-clause-few
returns-clause-few g c =
    let s = c.self.inside in
    seen-few g.J.Job.good g.J.Job.joined (pair_digest g.J.Job.encoded) s.setting s.places s.at s.draft s.levels.items s.drafts.items c.self.invariant c.args.self.now c.self.view_is (seen-none g.J.Job.good g.J.Job.joined (pair_digest g.J.Job.encoded) s.setting s.places s.at s.draft s.levels.items s.drafts.items c.self.invariant c.args.self.now c.self.view_is c.requires.no_draft)

pub returns-clause-counted : goal.returns-clause-counted
returns-clause-counted g c = rose-still 0 (0 * distinct_keys c.args.self.now.tree.leaves.tables) (g.J.Meter.Meter.counts c.args._m.now)

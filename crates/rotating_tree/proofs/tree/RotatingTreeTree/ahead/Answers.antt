use Rattle.std.proofs.Common.{◌≤◌, ◌-◌, ◌*◌, Option, length, ap, ◌∙◌, subst}
use Rattle.pin_table.proofs.Covering.{balanced-same}
use Rattle.tree_laws.specs.Pairs.{pair_digest}
use Rattle.tree_laws.specs.Trees.{Seen, distinct_keys}
use Rattle.rotating_tree.specs.declared.standing.Standing.{Standing}
use Rattle.rotating_tree.specs.Circles.{IsCircle}
use Rattle.rotating_tree.proofs.CircleLaws.{no-draft, circle-few}
use Rattle.tree_laws.proofs.LeafLaws.{rose-still}
use Rattle.rotating_tree.proofs.tree.RotatingTreeTree.ahead.Goals as goal

pub returns-clause-balanced : goal.returns-clause-balanced
returns-clause-balanced g c = balanced-same c.args._caller.now c.args.self.now.pins

pub returns-clause-few : goal.returns-clause-few
returns-clause-few g c =
    let s = c.self.inside in
    let none = no-draft g.J.Job.good g.J.Job.joined s.setting s.n s.width s.draft s.root (ap (λ (t : Seen g.row.J-Val.Denot). t.tree.draft) c.self.view_is ∙ c.requires.no_draft) in
    let circle = subst (λ (o : Option Standing). IsCircle g.J.Job.good g.J.Job.joined s.setting s.n s.width s.at o s.root) none c.self.invariant in
    subst (λ (t : Seen g.row.J-Val.Denot). length t.pins ≤ length t.tree.leaves.tables - 1) c.self.view_is (circle-few g.J.Job.good g.J.Job.joined s.setting s.n s.width (pair_digest g.J.Job.encoded) s.at s.root circle)

pub returns-clause-counted : goal.returns-clause-counted
returns-clause-counted g c = rose-still 0 (0 * distinct_keys c.args.self.now.tree.leaves.tables) (g.J.Meter.Meter.counts c.args._m.now)

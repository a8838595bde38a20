use Rattle.std.proofs.Common.{refl}
use Rattle.tree_laws.specs.Pairs.{pair_digest}
use Rattle.rotating_tree.specs.declared.standing.Standing.{Standing}
use Rattle.rotating_tree.proofs.CircleLaws.{circle-starts, window-starts}
use Rattle.rotating_tree.proofs.SeenLaws.{seen-bare}
use Rattle.rotating_tree.proofs.tree.RotatingTreeTree.fresh.Goals as goal

abbrev start : Standing
start = record { first = 0; start = 0; count = 0 }

pub invariant_of-result : goal.invariant_of-result
invariant_of-result g c =
    let e = c.in_ok-root.ensures in
    let h = c.height_of-height.ensures in
    circle-starts g.J.Job.good g.J.Job.joined c.args.setting c.args.places c.height_of-height.result.1 start c.height_of-height.result.0 c.in_ok-root.root refl refl c.requires.least h.enough h.least h.width e.size.1 e.size.0 e.places e.even e.settled e.sound

pub returns-clause-view : goal.returns-clause-view
returns-clause-view g c =
    let e = c.in_ok-root.ensures in
    let h = c.height_of-height.ensures in
    seen-bare (pair_digest g.J.Job.encoded) c.args.setting c.args.places start c.in_ok-root.root refl
    (window-starts g.J.Job.good g.J.Job.joined c.args.setting c.args.places c.height_of-height.result.1 start c.height_of-height.result.0 c.in_ok-root.root refl refl c.requires.least h.enough h.least h.width e.size.1 e.size.0 e.places e.even e.settled e.sound)
    e.settled e.loose

use Rattle.std.proofs.Common.{None, List, Option, sym, subst}
use Rattle.pin_table.specs.Covers.{PinName, Covered, Balanced, AreGiven}
use Rattle.pin_table.proofs.Covering.{covered-then, all-given-later}
use Rattle.tree_laws.specs.Pairs.{pair_digest}
use Rattle.rotating_tree.specs.declared.standing.Standing.{Standing}
use Rattle.rotating_tree.specs.Nodes.{node_pins}
use Rattle.rotating_tree.specs.Circles.{IsCircle}
use Rattle.rotating_tree.proofs.PinLaws.{given-taken}
use Rattle.rotating_tree.proofs.CircleLaws.{circle-settles, circle-marked, circle-few}
use Rattle.rotating_tree.proofs.SeenLaws.{seen-pins, seen-settled, seen-some}
use Rattle.rotating_tree.proofs.tree.RotatingTreeTree.settle.Goals as goal

pub settle-requires-clause-covered : goal.settle-requires-clause-covered
settle-requires-clause-covered g c =
    let s = c.self.inside in
    let d = pair_digest g.J.Job.encoded in
    subst (Covered c.args.caller.now) (seen-pins d s.setting s.n s.at s.root s.draft c.args.self.now c.self.view_is s.root) c.requires.covered

pub settle-requires-clause-marked : goal.settle-requires-clause-marked
settle-requires-clause-marked g c =
    let s = c.self.inside in
    circle-marked g.J.Job.good g.J.Job.joined s.setting s.n s.width s.at c.in-Some.at s.root (subst (λ (o : Option Standing). IsCircle g.J.Job.good g.J.Job.joined s.setting s.n s.width s.at o s.root) c.in-Some.is c.self.invariant)

pub invariant_of-self : goal.invariant_of-self
invariant_of-self g c =
    let s = c.self.inside in
    let circle = subst (λ (o : Option Standing). IsCircle g.J.Job.good g.J.Job.joined s.setting s.n s.width s.at o s.root) c.in-Some.is c.self.invariant in
    subst (IsCircle g.J.Job.good g.J.Job.joined s.setting s.n s.width c.in-Some.at None) (sym c.settle.ensures.taken) (circle-settles g.J.Job.good g.J.Job.joined s.setting s.n s.width s.at c.in-Some.at s.root circle)

pub returns-in-Some-clause-settled : goal.returns-in-Some-clause-settled
returns-in-Some-clause-settled g c =
    let s = c.self.inside in
    seen-settled (pair_digest g.J.Job.encoded) s.setting s.n s.at s.root s.draft c.args.self.now c.self.view_is c.settle.new.node c.in-Some.at c.in-Some.is c.settle.ensures.taken

pub returns-in-Some-clause-covered : goal.returns-in-Some-clause-covered
returns-in-Some-clause-covered g c =
    let s = c.self.inside in
    let d = pair_digest g.J.Job.encoded in
    let v = c.args.caller.now in
    let w = c.settle.new.caller in
    let covered = subst (Covered v) (seen-pins d s.setting s.n s.at s.root s.draft c.args.self.now c.self.view_is s.root) c.requires.covered in
    let given = subst (λ m. AreGiven w (node_pins d m)) (sym c.settle.ensures.taken) (given-taken d w s.root (all-given-later v w (node_pins d s.root) c.settle.ensures.balanced.later covered.given)) in
    covered-then v w (node_pins d s.root) (node_pins d c.settle.new.node) covered c.settle.ensures.balanced given

pub returns-in-Some-clause-balanced : goal.returns-in-Some-clause-balanced
returns-in-Some-clause-balanced g c =
    let s = c.self.inside in
    let d = pair_digest g.J.Job.encoded in
    subst (λ (ps : List PinName). Balanced c.args.caller.now ps c.settle.new.caller (node_pins d c.settle.new.node)) (sym (seen-pins d s.setting s.n s.at s.root s.draft c.args.self.now c.self.view_is s.root)) c.settle.ensures.balanced

pub returns-in-Some-clause-few : goal.returns-in-Some-clause-few
returns-in-Some-clause-few g c =
    let s = c.self.inside in
    let circle = subst (λ (o : Option Standing). IsCircle g.J.Job.good g.J.Job.joined s.setting s.n s.width s.at o s.root) c.in-Some.is c.self.invariant in
    let after = subst (IsCircle g.J.Job.good g.J.Job.joined s.setting s.n s.width c.in-Some.at None) (sym c.settle.ensures.taken) (circle-settles g.J.Job.good g.J.Job.joined s.setting s.n s.width s.at c.in-Some.at s.root circle) in
    circle-few g.J.Job.good g.J.Job.joined s.setting s.n s.width (pair_digest g.J.Job.encoded) c.in-Some.at c.settle.new.node after

pub unreachable-requires : goal.unreachable-requires
unreachable-requires g c =
    let s = c.self.inside in
    seen-some (pair_digest g.J.Job.encoded) s.setting s.n s.at s.root s.draft c.args.self.now c.self.view_is s.root c.in-None.is c.requires.draft

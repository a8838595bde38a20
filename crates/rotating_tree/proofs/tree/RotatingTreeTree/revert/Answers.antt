use Rattle.std.proofs.Common.{◌≤◌, ◌-◌, length, None, List, Option, sym, subst}
use Rattle.pin_table.specs.Covers.{PinName, Covered, Balanced, AreGiven}
use Rattle.pin_table.proofs.Covering.{covered-then, all-given-later, balanced-same}
use Rattle.tree_laws.specs.Pairs.{pair_digest}
use Rattle.tree_laws.specs.Trees.{Seen}
use Rattle.rotating_tree.specs.declared.standing.Standing.{Standing}
use Rattle.rotating_tree.specs.Nodes.{node_pins}
use Rattle.rotating_tree.specs.Circles.{IsCircle}
use Rattle.rotating_tree.proofs.PinLaws.{given-undrafted}
use Rattle.rotating_tree.proofs.CircleLaws.{circle-drops, circle-marked, circle-few}
use Rattle.rotating_tree.proofs.SeenLaws.{seen-pins, seen-reverted, seen-plain}
use Rattle.rotating_tree.proofs.tree.RotatingTreeTree.revert.Goals as goal

pub revert-requires-clause-covered : goal.revert-requires-clause-covered
revert-requires-clause-covered g c =
    let s = c.self.inside in
    let d = pair_digest g.J.Job.encoded in
    subst (Covered c.args.caller.now) (seen-pins d s.setting s.n s.at s.root s.draft c.args.self.now c.self.view_is s.root) c.requires.covered

pub revert-requires-clause-marked : goal.revert-requires-clause-marked
revert-requires-clause-marked g c =
    let s = c.self.inside in
    circle-marked g.J.Job.good g.J.Job.joined s.setting s.n s.width s.at c.in-Some.field-0 s.root (subst (λ (o : Option Standing). IsCircle g.J.Job.good g.J.Job.joined s.setting s.n s.width s.at o s.root) c.in-Some.is c.self.invariant)

pub invariant_of-self : goal.invariant_of-self
invariant_of-self g c =
    let s = c.self.inside in
    subst (IsCircle g.J.Job.good g.J.Job.joined s.setting s.n s.width s.at None) (sym c.revert.ensures.undrafted) (circle-drops g.J.Job.good g.J.Job.joined s.setting s.n s.width s.at s.draft s.root c.self.invariant)

pub returns-in-Some-clause-reverted : goal.returns-in-Some-clause-reverted
returns-in-Some-clause-reverted g c =
    let s = c.self.inside in
    seen-reverted (pair_digest g.J.Job.encoded) s.setting s.n s.at s.root s.draft c.args.self.now c.self.view_is c.revert.new.node c.revert.ensures.undrafted

pub returns-in-Some-clause-covered : goal.returns-in-Some-clause-covered
returns-in-Some-clause-covered g c =
    let s = c.self.inside in
    let d = pair_digest g.J.Job.encoded in
    let v = c.args.caller.now in
    let w = c.revert.new.caller in
    let covered = subst (Covered v) (seen-pins d s.setting s.n s.at s.root s.draft c.args.self.now c.self.view_is s.root) c.requires.covered in
    let given = subst (λ m. AreGiven w (node_pins d m)) (sym c.revert.ensures.undrafted) (given-undrafted d w s.root (all-given-later v w (node_pins d s.root) c.revert.ensures.balanced.later covered.given)) in
    covered-then v w (node_pins d s.root) (node_pins d c.revert.new.node) covered c.revert.ensures.balanced given

pub returns-in-Some-clause-balanced : goal.returns-in-Some-clause-balanced
returns-in-Some-clause-balanced g c =
    let s = c.self.inside in
    let d = pair_digest g.J.Job.encoded in
    subst (λ (ps : List PinName). Balanced c.args.caller.now ps c.revert.new.caller (node_pins d c.revert.new.node)) (sym (seen-pins d s.setting s.n s.at s.root s.draft c.args.self.now c.self.view_is s.root)) c.revert.ensures.balanced

pub returns-in-Some-clause-few : goal.returns-in-Some-clause-few
returns-in-Some-clause-few g c =
    let s = c.self.inside in
    let after = subst (IsCircle g.J.Job.good g.J.Job.joined s.setting s.n s.width s.at None) (sym c.revert.ensures.undrafted) (circle-drops g.J.Job.good g.J.Job.joined s.setting s.n s.width s.at s.draft s.root c.self.invariant) in
    circle-few g.J.Job.good g.J.Job.joined s.setting s.n s.width (pair_digest g.J.Job.encoded) s.at c.revert.new.node after

pub returns-in-None-clause-reverted : goal.returns-in-None-clause-reverted
returns-in-None-clause-reverted g c =
    let s = c.self.inside in
    seen-plain (pair_digest g.J.Job.encoded) s.setting s.n s.at s.root s.draft c.args.self.now c.self.view_is s.root c.in-None.is

pub returns-in-None-clause-balanced : goal.returns-in-None-clause-balanced
returns-in-None-clause-balanced g c = balanced-same c.args.caller.now c.args.self.now.pins

pub returns-in-None-clause-few : goal.returns-in-None-clause-few
returns-in-None-clause-few g c =
    let s = c.self.inside in
    let circle = subst (λ (o : Option Standing). IsCircle g.J.Job.good g.J.Job.joined s.setting s.n s.width s.at o s.root) c.in-None.is c.self.invariant in
    subst (λ (t : Seen g.row.J-Val.Denot). length t.pins ≤ length t.tree.leaves.tables - 1) c.self.view_is (circle-few g.J.Job.good g.J.Job.joined s.setting s.n s.width (pair_digest g.J.Job.encoded) s.at s.root circle)

use Rattle.std.proofs.Common.{◌≡◌, ◌++◌, Some, sym, ap, ◌∙◌}
use Rattle.tree_laws.specs.Pairs.{pair_digest}
use Rattle.tree_laws.specs.Holds.{some_pins}
use Rattle.tree_laws.specs.Trees.{Seen}
use Rattle.coalescing_tree.specs.Growing.{draft_pins}
use Rattle.coalescing_tree.specs.declared.draft.Draft.TheVariants.{Merged}
use Rattle.coalescing_tree.proofs.SettleLaws.{few-undrafted, reverted-sound, reverted-view, made-are-covered, reverted-covered, reverted-balanced}
use Rattle.coalescing_tree.proofs.tree.CoalescingTreeTree.revert.Goals as goal

pub let_all_go-requires-clause-covered : goal.let_all_go-requires-clause-covered
let_all_go-requires-clause-covered g c =
    let d = pair_digest g.J.Job.encoded in
    let t = c.self.inside in
    let made = c.in-Some-Merged.made.items in
    let is : t.draft ≡ Some (Merged c.in-Some-Merged.made) = sym c.take.ensures.value ∙ (c.in-Some-Merged.is ∙ ap (λ x. Some x) c.in-Some-Merged.field-0-is) in
    let pins = ap (λ o. some_pins d t.top ++ draft_pins d o) (sym is) ∙ ap (λ (s : Seen g.row.J-Val.Denot). s.pins) c.self.view_is in
    made-are-covered d c.args.caller.now c.args.caller.now c.args.self.now.pins t.top made c.take.new.self pins c.requires.covered

pub invariant_of-self : goal.invariant_of-self
invariant_of-self g c =
    let d = pair_digest g.J.Job.encoded in
    let t = c.self.inside in
    reverted-sound g.J.Job.good g.J.Job.joined d t.setting t.places t.leaves.items t.standing t.top t.draft c.self.invariant c.truncate.new.self.items c.take.new.self c.truncate.ensures.items c.take.ensures.after

pub returns-in-Some-Merged-clause-reverted : goal.returns-in-Some-Merged-clause-reverted
returns-in-Some-Merged-clause-reverted g c =
    let d = pair_digest g.J.Job.encoded in
    let t = c.self.inside in
    reverted-view g.J.Job.good g.J.Job.joined d t.setting t.places t.leaves.items t.standing t.top t.draft c.self.invariant c.truncate.new.self.items c.take.new.self c.truncate.ensures.items c.take.ensures.after c.args.self.now c.self.view_is

pub returns-in-Some-Merged-clause-covered : goal.returns-in-Some-Merged-clause-covered
returns-in-Some-Merged-clause-covered g c =
    let d = pair_digest g.J.Job.encoded in
    let t = c.self.inside in
    let made = c.in-Some-Merged.made.items in
    let is : t.draft ≡ Some (Merged c.in-Some-Merged.made) = sym c.take.ensures.value ∙ (c.in-Some-Merged.is ∙ ap (λ x. Some x) c.in-Some-Merged.field-0-is) in
    let pins = ap (λ o. some_pins d t.top ++ draft_pins d o) (sym is) ∙ ap (λ (s : Seen g.row.J-Val.Denot). s.pins) c.self.view_is in
    reverted-covered d c.args.caller.now c.let_all_go.new.caller c.args.self.now.pins t.top made c.take.new.self pins c.requires.covered c.let_all_go.ensures c.take.ensures.after

pub returns-in-Some-Merged-clause-balanced : goal.returns-in-Some-Merged-clause-balanced
returns-in-Some-Merged-clause-balanced g c =
    let d = pair_digest g.J.Job.encoded in
    let t = c.self.inside in
    let made = c.in-Some-Merged.made.items in
    let is : t.draft ≡ Some (Merged c.in-Some-Merged.made) = sym c.take.ensures.value ∙ (c.in-Some-Merged.is ∙ ap (λ x. Some x) c.in-Some-Merged.field-0-is) in
    let pins = ap (λ o. some_pins d t.top ++ draft_pins d o) (sym is) ∙ ap (λ (s : Seen g.row.J-Val.Denot). s.pins) c.self.view_is in
    reverted-balanced d c.args.caller.now c.let_all_go.new.caller c.args.self.now.pins t.top made c.take.new.self pins c.requires.covered c.let_all_go.ensures c.take.ensures.after

pub returns-in-Some-Merged-clause-few : goal.returns-in-Some-Merged-clause-few
returns-in-Some-Merged-clause-few g c =
    let d = pair_digest g.J.Job.encoded in
    let t = c.self.inside in
    few-undrafted g.J.Job.good g.J.Job.joined d t.setting t.places c.truncate.new.self.items t.standing t.top c.take.new.self
    (reverted-sound g.J.Job.good g.J.Job.joined d t.setting t.places t.leaves.items t.standing t.top t.draft c.self.invariant c.truncate.new.self.items c.take.new.self c.truncate.ensures.items c.take.ensures.after) c.take.ensures.after

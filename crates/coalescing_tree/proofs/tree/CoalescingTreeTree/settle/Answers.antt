use Rattle.std.proofs.Common.{◌≡◌, [], ◌++◌, Some, sym, ap, subst, ◌∙◌, length, arith}
use Rattle.tree_laws.specs.Pairs.{pair_digest}
use Rattle.coalescing_tree.specs.Growing.{draft_of, draft_pins, IsSoundDraft}
use Rattle.coalescing_tree.specs.declared.draft.Draft.TheVariants.{Merged}
use Rattle.coalescing_tree.proofs.SettleLaws.{pop-last, few-undrafted, settled-sound, settled-view, rest-are-covered, old-is-covered, settled-covered, settled-balanced}
use Rattle.tree_laws.specs.Holds.{some_pins}
use Rattle.tree_laws.specs.Trees.{Seen}
use Rattle.coalescing_tree.proofs.tree.CoalescingTreeTree.settle.Goals as goal

pub let_all_go-requires-clause-covered : goal.let_all_go-requires-clause-covered
let_all_go-requires-clause-covered g c =
    let d = pair_digest g.J.Job.encoded in
    let t = c.self.inside in
    let made = c.in-Some-Merged.made.items in
    let is : t.draft ≡ Some (Merged c.in-Some-Merged.made) = sym c.take.ensures.value ∙ (c.in-Some-Merged.is ∙ ap (λ x. Some x) c.in-Some-Merged.field-0-is) in
    let pins = ap (λ o. some_pins d t.top ++ draft_pins d o) (sym is) ∙ ap (λ (s : Seen g.row.J-Val.Denot). s.pins) c.self.view_is in
    rest-are-covered d c.args.caller.now c.args.caller.now c.args.caller.now c.args.self.now.pins t.top c.pop.result made c.pop.new.self.items c.take.new.self pins c.pop.ensures.items c.requires.covered

pub let_some_go-requires-clause-of : goal.let_some_go-requires-clause-of
let_some_go-requires-clause-of g c =
    (c.let_all_go.ensures []).later.locks ∙ c.requires.of

pub let_some_go-requires-clause-covered : goal.let_some_go-requires-clause-covered
let_some_go-requires-clause-covered g c =
    let d = pair_digest g.J.Job.encoded in
    let t = c.self.inside in
    let made = c.in-Some-Merged.made.items in
    let is : t.draft ≡ Some (Merged c.in-Some-Merged.made) = sym c.take.ensures.value ∙ (c.in-Some-Merged.is ∙ ap (λ x. Some x) c.in-Some-Merged.field-0-is) in
    let pins = ap (λ o. some_pins d t.top ++ draft_pins d o) (sym is) ∙ ap (λ (s : Seen g.row.J-Val.Denot). s.pins) c.self.view_is in
    old-is-covered d c.args.caller.now c.let_all_go.new.caller c.let_all_go.new.caller c.args.self.now.pins t.top c.pop.result made c.pop.new.self.items c.take.new.self pins c.pop.ensures.items c.requires.covered c.let_all_go.ensures c.take-old.result c.take-old.ensures.value

pub invariant_of-self : goal.invariant_of-self
invariant_of-self g c =
    let d = pair_digest g.J.Job.encoded in
    let t = c.self.inside in
    let made = c.in-Some-Merged.made.items in
    let is : t.draft ≡ Some (Merged c.in-Some-Merged.made) = sym c.take.ensures.value ∙ (c.in-Some-Merged.is ∙ ap (λ x. Some x) c.in-Some-Merged.field-0-is) in
    let over = subst (λ o. IsSoundDraft g.J.Job.joined t.setting t.leaves.items t.standing o) is c.self.invariant.draft_is in
    let shows = ap (λ o. draft_of t.leaves.items t.top o) is in
    let counted : c.len-self-inside.result ≡ length t.leaves.items = (let n = c.len-self-inside.ensures in let ok = t.leaves.ok.0 in omega (arith, n, ok)) in
    let last = pop-last made c.pop.new.self.items c.pop.result c.in-Some-Merged.made.len c.in-Some-Merged.made.ok.0 c.pop.ensures.items c.pop.ensures.variant in
    settled-sound g.J.Job.good g.J.Job.joined d t.setting t.places t.leaves.items t.standing t.top t.draft c.self.invariant made over.1 shows c.len-self-inside.result c.pop.result c.take.new.self counted last c.take.ensures.after

pub returns-in-Some-Merged-clause-settled : goal.returns-in-Some-Merged-clause-settled
returns-in-Some-Merged-clause-settled g c =
    let d = pair_digest g.J.Job.encoded in
    let t = c.self.inside in
    let made = c.in-Some-Merged.made.items in
    let is : t.draft ≡ Some (Merged c.in-Some-Merged.made) = sym c.take.ensures.value ∙ (c.in-Some-Merged.is ∙ ap (λ x. Some x) c.in-Some-Merged.field-0-is) in
    let over = subst (λ o. IsSoundDraft g.J.Job.joined t.setting t.leaves.items t.standing o) is c.self.invariant.draft_is in
    let shows = ap (λ o. draft_of t.leaves.items t.top o) is in
    let counted : c.len-self-inside.result ≡ length t.leaves.items = (let n = c.len-self-inside.ensures in let ok = t.leaves.ok.0 in omega (arith, n, ok)) in
    let last = pop-last made c.pop.new.self.items c.pop.result c.in-Some-Merged.made.len c.in-Some-Merged.made.ok.0 c.pop.ensures.items c.pop.ensures.variant in
    settled-view g.J.Job.good g.J.Job.joined d t.setting t.places t.leaves.items t.standing t.top t.draft c.self.invariant made over.1 shows c.len-self-inside.result c.pop.result c.take.new.self counted last c.take.ensures.after c.args.self.now c.self.view_is

pub returns-in-Some-Merged-clause-covered : goal.returns-in-Some-Merged-clause-covered
returns-in-Some-Merged-clause-covered g c =
    let d = pair_digest g.J.Job.encoded in
    let t = c.self.inside in
    let made = c.in-Some-Merged.made.items in
    let is : t.draft ≡ Some (Merged c.in-Some-Merged.made) = sym c.take.ensures.value ∙ (c.in-Some-Merged.is ∙ ap (λ x. Some x) c.in-Some-Merged.field-0-is) in
    let pins = ap (λ o. some_pins d t.top ++ draft_pins d o) (sym is) ∙ ap (λ (s : Seen g.row.J-Val.Denot). s.pins) c.self.view_is in
    settled-covered d c.args.caller.now c.let_all_go.new.caller c.let_some_go.new.caller c.args.self.now.pins t.top c.pop.result made c.pop.new.self.items c.take.new.self pins c.pop.ensures.items c.requires.covered c.let_all_go.ensures c.take-old.result c.take-old.ensures.value c.let_some_go.ensures c.take.ensures.after

pub returns-in-Some-Merged-clause-balanced : goal.returns-in-Some-Merged-clause-balanced
returns-in-Some-Merged-clause-balanced g c =
    let d = pair_digest g.J.Job.encoded in
    let t = c.self.inside in
    let made = c.in-Some-Merged.made.items in
    let is : t.draft ≡ Some (Merged c.in-Some-Merged.made) = sym c.take.ensures.value ∙ (c.in-Some-Merged.is ∙ ap (λ x. Some x) c.in-Some-Merged.field-0-is) in
    let pins = ap (λ o. some_pins d t.top ++ draft_pins d o) (sym is) ∙ ap (λ (s : Seen g.row.J-Val.Denot). s.pins) c.self.view_is in
    settled-balanced d c.args.caller.now c.let_all_go.new.caller c.let_some_go.new.caller c.args.self.now.pins t.top c.pop.result made c.pop.new.self.items c.take.new.self pins c.pop.ensures.items c.requires.covered c.let_all_go.ensures c.take-old.result c.take-old.ensures.value c.let_some_go.ensures c.take.ensures.after

pub returns-in-Some-Merged-clause-few : goal.returns-in-Some-Merged-clause-few
returns-in-Some-Merged-clause-few g c =
    let d = pair_digest g.J.Job.encoded in
    let t = c.self.inside in
    let made = c.in-Some-Merged.made.items in
    let is : t.draft ≡ Some (Merged c.in-Some-Merged.made) = sym c.take.ensures.value ∙ (c.in-Some-Merged.is ∙ ap (λ x. Some x) c.in-Some-Merged.field-0-is) in
    let over = subst (λ o. IsSoundDraft g.J.Job.joined t.setting t.leaves.items t.standing o) is c.self.invariant.draft_is in
    let shows = ap (λ o. draft_of t.leaves.items t.top o) is in
    let counted : c.len-self-inside.result ≡ length t.leaves.items = (let n = c.len-self-inside.ensures in let ok = t.leaves.ok.0 in omega (arith, n, ok)) in
    let last = pop-last made c.pop.new.self.items c.pop.result c.in-Some-Merged.made.len c.in-Some-Merged.made.ok.0 c.pop.ensures.items c.pop.ensures.variant in
    few-undrafted g.J.Job.good g.J.Job.joined d t.setting t.places t.leaves.items c.len-self-inside.result c.pop.result c.take.new.self
    (settled-sound g.J.Job.good g.J.Job.joined d t.setting t.places t.leaves.items t.standing t.top t.draft c.self.invariant made over.1 shows c.len-self-inside.result c.pop.result c.take.new.self counted last c.take.ensures.after) c.take.ensures.after

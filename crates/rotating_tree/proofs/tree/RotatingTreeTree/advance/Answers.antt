use Rattle.std.proofs.Common.{arith, ◌≡◌, ℕ, ◌+◌, ◌-◌, Some, None, List, Option, length, refl, sym, ap, ◌∙◌, subst}
use Rattle.record_text.specs.declared.kind.Kind.TheVariants.{Circle}
use Rattle.record_text.specs.declared.shift.Shift.{Shift}
use Rattle.record_text.specs.declared.shift.Shift.TheVariants.{Slide}
use Rattle.record_text.specs.Shifts.{FitsShift, shifted}
use Rattle.sheets.specs.United.{tables_of}
use Rattle.pin_table.specs.Covers.{PinName, Covered, Balanced}
use Rattle.pin_table.proofs.Covering.{covered-then}
use Rattle.tree_laws.specs.Pairs.{pair_digest}
use Rattle.pin_table.specs.OwnEvents.{Met}
use Rattle.tree_laws.specs.Trees.{Seen, IsLeaf, IsDrafted, no_shape, distinct_keys}
use Rattle.rotating_tree.specs.declared.standing.Standing.{Standing}
use Rattle.rotating_tree.specs.Nodes.{AllSome, undrafted, height, node_pins}
use Rattle.rotating_tree.specs.Nodes.{places as places_of}
use Rattle.rotating_tree.specs.Circles.{IsCircle, IsAdvanced, seen_of, draft_of, window}
use Rattle.rotating_tree.proofs.NodeLaws.{settled-undrafted}
use Rattle.rotating_tree.proofs.CircleLaws.{no-draft, circle-sound, circle-leaves, circle-advances, circle-few, tables-after, within-ahead, within-behind}
use Rattle.rotating_tree.proofs.LevelLaws.{levels-rose}
use Rattle.rotating_tree.proofs.SeenLaws.{seen-fits, seen-pins, seen-drafted, seen-loose, seen-counted}
use Rattle.rotating_tree.proofs.tree.RotatingTreeTree.advance.Goals as goal

pub start_after-start-requires : goal.start_after-start-requires
start_after-start-requires g c =
    let s = c.self.inside in
    let none = no-draft g.J.Job.good g.J.Job.joined s.setting s.n s.width s.draft s.root (ap (λ (t : Seen g.row.J-Val.Denot). t.tree.draft) c.self.view_is ∙ c.requires.no_draft) in
    let circle = subst (λ (o : Option Standing). IsCircle g.J.Job.good g.J.Job.joined s.setting s.n s.width s.at o s.root) none c.self.invariant in
    let f = seen-fits (pair_digest g.J.Job.encoded) s.setting s.n s.at s.root g.J.Job.good g.J.Job.joined s.width s.draft c.args.self.now c.self.view_is c.self.invariant c.in-Slide.first c.in-Slide.gone c.in-Slide.places c.in-Slide.came (length c.args.fresh.now)
    (subst (λ (h : Shift). FitsShift Circle c.args.self.now.tree.places c.args.self.now.tree.leaves.first (length c.args.self.now.tree.leaves.tables) (length c.args.fresh.now) h) c.in-Slide.is c.requires.fits) in
    (circle.now.within, omega (arith, f.0.within, circle.now.few))

pub overflow_sub-kept : goal.overflow_sub-kept
overflow_sub-kept g c =
    let s = c.self.inside in
    let none = no-draft g.J.Job.good g.J.Job.joined s.setting s.n s.width s.draft s.root (ap (λ (t : Seen g.row.J-Val.Denot). t.tree.draft) c.self.view_is ∙ c.requires.no_draft) in
    let circle = subst (λ (o : Option Standing). IsCircle g.J.Job.good g.J.Job.joined s.setting s.n s.width s.at o s.root) none c.self.invariant in
    let f = seen-fits (pair_digest g.J.Job.encoded) s.setting s.n s.at s.root g.J.Job.good g.J.Job.joined s.width s.draft c.args.self.now c.self.view_is c.self.invariant c.in-Slide.first c.in-Slide.gone c.in-Slide.places c.in-Slide.came (length c.args.fresh.now)
    (subst (λ (h : Shift). FitsShift Circle c.args.self.now.tree.places c.args.self.now.tree.leaves.first (length c.args.self.now.tree.leaves.tables) (length c.args.fresh.now) h) c.in-Slide.is c.requires.fits) in
    omega (arith, f.0.within)

pub advance-requires-clause-covered : goal.advance-requires-clause-covered
advance-requires-clause-covered g c =
    let s = c.self.inside in
    let d = pair_digest g.J.Job.encoded in
    let pins = seen-pins d s.setting s.n s.at s.root s.draft c.args.self.now c.self.view_is s.root in
    subst (Covered c.args.caller.now) pins c.requires.covered

pub advance-requires-clause-settled : goal.advance-requires-clause-settled
advance-requires-clause-settled g c =
    let s = c.self.inside in
    let none = no-draft g.J.Job.good g.J.Job.joined s.setting s.n s.width s.draft s.root (ap (λ (t : Seen g.row.J-Val.Denot). t.tree.draft) c.self.view_is ∙ c.requires.no_draft) in
    let circle = subst (λ (o : Option Standing). IsCircle g.J.Job.good g.J.Job.joined s.setting s.n s.width s.at o s.root) none c.self.invariant in
    circle.next

pub advance-requires-clause-even : goal.advance-requires-clause-even
advance-requires-clause-even g c =
    let s = c.self.inside in
    let none = no-draft g.J.Job.good g.J.Job.joined s.setting s.n s.width s.draft s.root (ap (λ (t : Seen g.row.J-Val.Denot). t.tree.draft) c.self.view_is ∙ c.requires.no_draft) in
    let circle = subst (λ (o : Option Standing). IsCircle g.J.Job.good g.J.Job.joined s.setting s.n s.width s.at o s.root) none c.self.invariant in
    circle.even

pub advance-requires-clause-sound : goal.advance-requires-clause-sound
advance-requires-clause-sound g c =
    let s = c.self.inside in
    let none = no-draft g.J.Job.good g.J.Job.joined s.setting s.n s.width s.draft s.root (ap (λ (t : Seen g.row.J-Val.Denot). t.tree.draft) c.self.view_is ∙ c.requires.no_draft) in
    let circle = subst (λ (o : Option Standing). IsCircle g.J.Job.good g.J.Job.joined s.setting s.n s.width s.at o s.root) none c.self.invariant in
    circle-sound g.J.Job.good g.J.Job.joined s.setting s.n s.width s.at s.root circle

pub advance-requires-clause-leaves : goal.advance-requires-clause-leaves
advance-requires-clause-leaves g c =
    let s = c.self.inside in
    let none = no-draft g.J.Job.good g.J.Job.joined s.setting s.n s.width s.draft s.root (ap (λ (t : Seen g.row.J-Val.Denot). t.tree.draft) c.self.view_is ∙ c.requires.no_draft) in
    let circle = subst (λ (o : Option Standing). IsCircle g.J.Job.good g.J.Job.joined s.setting s.n s.width s.at o s.root) none c.self.invariant in
    let of = ap (λ (t : Seen g.row.J-Val.Denot). t.tree.setting) c.self.view_is ∙ sym c.requires.job in
    subst (λ (k : ℕ). AllSome (IsLeaf g.J.Job.good k) (places_of s.root)) of (circle-leaves g.J.Job.good g.J.Job.joined s.setting s.n s.width s.at s.root circle)

pub advance-requires-clause-width : goal.advance-requires-clause-width
advance-requires-clause-width g c =
    let s = c.self.inside in
    let none = no-draft g.J.Job.good g.J.Job.joined s.setting s.n s.width s.draft s.root (ap (λ (t : Seen g.row.J-Val.Denot). t.tree.draft) c.self.view_is ∙ c.requires.no_draft) in
    let circle = subst (λ (o : Option Standing). IsCircle g.J.Job.good g.J.Job.joined s.setting s.n s.width s.at o s.root) none c.self.invariant in
    (circle.wide, circle.fits, c.start_after-start.ensures.0)

pub advance-requires-clause-fits : goal.advance-requires-clause-fits
advance-requires-clause-fits g c =
    let s = c.self.inside in
    let none = no-draft g.J.Job.good g.J.Job.joined s.setting s.n s.width s.draft s.root (ap (λ (t : Seen g.row.J-Val.Denot). t.tree.draft) c.self.view_is ∙ c.requires.no_draft) in
    let circle = subst (λ (o : Option Standing). IsCircle g.J.Job.good g.J.Job.joined s.setting s.n s.width s.at o s.root) none c.self.invariant in
    let f = seen-fits (pair_digest g.J.Job.encoded) s.setting s.n s.at s.root g.J.Job.good g.J.Job.joined s.width s.draft c.args.self.now c.self.view_is c.self.invariant c.in-Slide.first c.in-Slide.gone c.in-Slide.places c.in-Slide.came (length c.args.fresh.now)
    (subst (λ (h : Shift). FitsShift Circle c.args.self.now.tree.places c.args.self.now.tree.leaves.first (length c.args.self.now.tree.leaves.tables) (length c.args.fresh.now) h) c.in-Slide.is c.requires.fits) in
    omega (arith, f.0.news_are, f.1)

pub advance-requires-clause-changed : goal.advance-requires-clause-changed
advance-requires-clause-changed g c =
    let s = c.self.inside in
    let none = no-draft g.J.Job.good g.J.Job.joined s.setting s.n s.width s.draft s.root (ap (λ (t : Seen g.row.J-Val.Denot). t.tree.draft) c.self.view_is ∙ c.requires.no_draft) in
    let circle = subst (λ (o : Option Standing). IsCircle g.J.Job.good g.J.Job.joined s.setting s.n s.width s.at o s.root) none c.self.invariant in
    let f = seen-fits (pair_digest g.J.Job.encoded) s.setting s.n s.at s.root g.J.Job.good g.J.Job.joined s.width s.draft c.args.self.now c.self.view_is c.self.invariant c.in-Slide.first c.in-Slide.gone c.in-Slide.places c.in-Slide.came (length c.args.fresh.now)
    (subst (λ (h : Shift). FitsShift Circle c.args.self.now.tree.places c.args.self.now.tree.leaves.first (length c.args.self.now.tree.leaves.tables) (length c.args.fresh.now) h) c.in-Slide.is c.requires.fits) in
    (λ k p lt. omega (arith, f.0.places_are k p lt, circle.now.few), omega (arith, f.0.news_are))

pub advance-requires-clause-settings : goal.advance-requires-clause-settings
advance-requires-clause-settings g c =
    λ k x lt. c.requires.settings k x lt ∙ sym c.requires.job

pub overflow_add-self : goal.overflow_add-self
overflow_add-self g c =
    let s = c.self.inside in
    let none = no-draft g.J.Job.good g.J.Job.joined s.setting s.n s.width s.draft s.root (ap (λ (t : Seen g.row.J-Val.Denot). t.tree.draft) c.self.view_is ∙ c.requires.no_draft) in
    let circle = subst (λ (o : Option Standing). IsCircle g.J.Job.good g.J.Job.joined s.setting s.n s.width s.at o s.root) none c.self.invariant in
    let f = seen-fits (pair_digest g.J.Job.encoded) s.setting s.n s.at s.root g.J.Job.good g.J.Job.joined s.width s.draft c.args.self.now c.self.view_is c.self.invariant c.in-Slide.first c.in-Slide.gone c.in-Slide.places c.in-Slide.came (length c.args.fresh.now)
    (subst (λ (h : Shift). FitsShift Circle c.args.self.now.tree.places c.args.self.now.tree.leaves.first (length c.args.self.now.tree.leaves.tables) (length c.args.fresh.now) h) c.in-Slide.is c.requires.fits) in
    omega (arith, f.1)

pub invariant_of-self : goal.invariant_of-self
invariant_of-self g c =
    let s = c.self.inside in
    let none = no-draft g.J.Job.good g.J.Job.joined s.setting s.n s.width s.draft s.root (ap (λ (t : Seen g.row.J-Val.Denot). t.tree.draft) c.self.view_is ∙ c.requires.no_draft) in
    let circle = subst (λ (o : Option Standing). IsCircle g.J.Job.good g.J.Job.joined s.setting s.n s.width s.at o s.root) none c.self.invariant in
    let f = seen-fits (pair_digest g.J.Job.encoded) s.setting s.n s.at s.root g.J.Job.good g.J.Job.joined s.width s.draft c.args.self.now c.self.view_is c.self.invariant c.in-Slide.first c.in-Slide.gone c.in-Slide.places c.in-Slide.came (length c.args.fresh.now)
    (subst (λ (h : Shift). FitsShift Circle c.args.self.now.tree.places c.args.self.now.tree.leaves.first (length c.args.self.now.tree.leaves.tables) (length c.args.fresh.now) h) c.in-Slide.is c.requires.fits) in
    let of = ap (λ (t : Seen g.row.J-Val.Denot). t.tree.setting) c.self.view_is ∙ sym c.requires.job in
    let kept = s.at.count - c.in-Slide.gone in
    let next : Standing = record { first = c.in-Slide.first; start = c.start_after-start.result; count = kept + c.in-Slide.came } in
    let ahead = subst (λ (k : ℕ). IsAdvanced g.J.Job.good g.J.Job.joined k s.n c.start_after-start.result kept c.in-Slide.places c.args.fresh.now s.root c.advance.new.node) (sym of) c.in-Ok.ensures.ok in
    circle-advances g.J.Job.good g.J.Job.joined s.setting s.n s.width s.at next c.in-Slide.gone kept c.in-Slide.came c.in-Slide.places c.args.fresh.now s.root circle refl f.0.within f.0.news_are f.0.places_are f.1 f.2 c.start_after-start.ensures c.advance.new.node ahead refl

pub returns-in-Ok-clause-ok : goal.returns-in-Ok-clause-ok
returns-in-Ok-clause-ok g c =
    let s = c.self.inside in
    let none = no-draft g.J.Job.good g.J.Job.joined s.setting s.n s.width s.draft s.root (ap (λ (t : Seen g.row.J-Val.Denot). t.tree.draft) c.self.view_is ∙ c.requires.no_draft) in
    let circle = subst (λ (o : Option Standing). IsCircle g.J.Job.good g.J.Job.joined s.setting s.n s.width s.at o s.root) none c.self.invariant in
    let f = seen-fits (pair_digest g.J.Job.encoded) s.setting s.n s.at s.root g.J.Job.good g.J.Job.joined s.width s.draft c.args.self.now c.self.view_is c.self.invariant c.in-Slide.first c.in-Slide.gone c.in-Slide.places c.in-Slide.came (length c.args.fresh.now)
    (subst (λ (h : Shift). FitsShift Circle c.args.self.now.tree.places c.args.self.now.tree.leaves.first (length c.args.self.now.tree.leaves.tables) (length c.args.fresh.now) h) c.in-Slide.is c.requires.fits) in
    let of = ap (λ (t : Seen g.row.J-Val.Denot). t.tree.setting) c.self.view_is ∙ sym c.requires.job in
    let kept = s.at.count - c.in-Slide.gone in
    let next : Standing = record { first = c.in-Slide.first; start = c.start_after-start.result; count = kept + c.in-Slide.came } in
    let ahead = subst (λ (k : ℕ). IsAdvanced g.J.Job.good g.J.Job.joined k s.n c.start_after-start.result kept c.in-Slide.places c.args.fresh.now s.root c.advance.new.node) (sym of) c.in-Ok.ensures.ok in
    let tables = tables-after g.J.Job.good g.J.Job.joined s.setting s.n s.width s.at next c.in-Slide.gone kept c.in-Slide.came c.in-Slide.places c.args.fresh.now s.root circle refl f.0.within f.0.news_are f.0.places_are f.1 f.2 c.start_after-start.ensures c.advance.new.node ahead in
    subst (λ (h : Shift). IsDrafted (λ shape shift. no_shape) h c.args.fresh.now c.args.self.now.tree (seen_of (pair_digest g.J.Job.encoded) s.setting s.n s.at (Some next) c.advance.new.node).tree) (sym c.in-Slide.is)
    (seen-drafted (pair_digest g.J.Job.encoded) s.setting s.n s.at s.root s.draft c.args.self.now c.self.view_is c.advance.new.node next c.in-Slide.gone c.in-Slide.came c.in-Slide.places c.args.fresh.now (ahead.same ∙ sym (settled-undrafted s.root circle.next)) tables)

pub returns-in-Ok-clause-covered : goal.returns-in-Ok-clause-covered
returns-in-Ok-clause-covered g c =
    let s = c.self.inside in
    let d = pair_digest g.J.Job.encoded in
    let pins = seen-pins d s.setting s.n s.at s.root s.draft c.args.self.now c.self.view_is s.root in
    covered-then c.args.caller.now c.advance.new.caller (node_pins d s.root) (node_pins d c.advance.new.node) (subst (Covered c.args.caller.now) pins c.requires.covered) c.advance.ensures.balanced c.advance.ensures.given

pub returns-in-Ok-clause-balanced : goal.returns-in-Ok-clause-balanced
returns-in-Ok-clause-balanced g c =
    let s = c.self.inside in
    let d = pair_digest g.J.Job.encoded in
    let pins = seen-pins d s.setting s.n s.at s.root s.draft c.args.self.now c.self.view_is s.root in
    subst (λ (ps : List PinName). Balanced c.args.caller.now ps c.advance.new.caller (node_pins d c.advance.new.node)) (sym pins) c.advance.ensures.balanced

pub returns-in-Ok-clause-counted : goal.returns-in-Ok-clause-counted
returns-in-Ok-clause-counted g c =
    let s = c.self.inside in
    let none = no-draft g.J.Job.good g.J.Job.joined s.setting s.n s.width s.draft s.root (ap (λ (t : Seen g.row.J-Val.Denot). t.tree.draft) c.self.view_is ∙ c.requires.no_draft) in
    let circle = subst (λ (o : Option Standing). IsCircle g.J.Job.good g.J.Job.joined s.setting s.n s.width s.at o s.root) none c.self.invariant in
    let f = seen-fits (pair_digest g.J.Job.encoded) s.setting s.n s.at s.root g.J.Job.good g.J.Job.joined s.width s.draft c.args.self.now c.self.view_is c.self.invariant c.in-Slide.first c.in-Slide.gone c.in-Slide.places c.in-Slide.came (length c.args.fresh.now)
    (subst (λ (h : Shift). FitsShift Circle c.args.self.now.tree.places c.args.self.now.tree.leaves.first (length c.args.self.now.tree.leaves.tables) (length c.args.fresh.now) h) c.in-Slide.is c.requires.fits) in
    let kept = s.at.count - c.in-Slide.gone in
    let next : Standing = record { first = c.in-Slide.first; start = c.start_after-start.result; count = kept + c.in-Slide.came } in
    let ts = shifted (Slide c.in-Slide.first c.in-Slide.gone c.in-Slide.places c.in-Slide.came) (tables_of c.args.fresh.now) (tables_of (window s.n s.at (undrafted s.root))) in
    let low = levels-rose (height s.root) s.n (length c.args.fresh.now) (distinct_keys ts) _ _ circle.low (c.advance.ensures.counted ts (within-ahead g.J.Job.good g.J.Job.joined s.setting s.n s.width s.at next c.in-Slide.gone kept c.in-Slide.came c.in-Slide.places c.args.fresh.now s.root circle refl f.0.within f.0.news_are f.0.places_are f.1 f.2 c.start_after-start.ensures) (within-behind g.J.Job.good g.J.Job.joined s.setting s.n s.width s.at next c.in-Slide.gone kept c.in-Slide.came c.in-Slide.places c.args.fresh.now s.root circle refl f.0.within f.0.news_are f.0.places_are f.1 f.2 c.start_after-start.ensures ts)) in
    seen-counted (pair_digest g.J.Job.encoded) s.setting s.n s.at s.root s.draft c.args.self.now c.self.view_is c.advance.new.node c.args.shift.now c.in-Slide.first c.in-Slide.gone c.in-Slide.came c.in-Slide.places c.args.fresh.now _ _ c.in-Slide.is f.0.news_are low

pub returns-in-Ok-clause-tight : goal.returns-in-Ok-clause-tight
returns-in-Ok-clause-tight g c =
    λ tight unmet.
    let s = c.self.inside in
    let none = no-draft g.J.Job.good g.J.Job.joined s.setting s.n s.width s.draft s.root (ap (λ (t : Seen g.row.J-Val.Denot). t.tree.draft) c.self.view_is ∙ c.requires.no_draft) in
    let circle = subst (λ (o : Option Standing). IsCircle g.J.Job.good g.J.Job.joined s.setting s.n s.width s.at o s.root) none c.self.invariant in
    let f = seen-fits (pair_digest g.J.Job.encoded) s.setting s.n s.at s.root g.J.Job.good g.J.Job.joined s.width s.draft c.args.self.now c.self.view_is c.self.invariant c.in-Slide.first c.in-Slide.gone c.in-Slide.places c.in-Slide.came (length c.args.fresh.now)
    (subst (λ (h : Shift). FitsShift Circle c.args.self.now.tree.places c.args.self.now.tree.leaves.first (length c.args.self.now.tree.leaves.tables) (length c.args.fresh.now) h) c.in-Slide.is c.requires.fits) in
    let kept = s.at.count - c.in-Slide.gone in
    let next : Standing = record { first = c.in-Slide.first; start = c.start_after-start.result; count = kept + c.in-Slide.came } in
    let ts = shifted (Slide c.in-Slide.first c.in-Slide.gone c.in-Slide.places c.in-Slide.came) (tables_of c.args.fresh.now) (tables_of (window s.n s.at (undrafted s.root))) in
    let low = levels-rose (height s.root) s.n (length c.args.fresh.now) (distinct_keys ts) _ _ circle.low (c.advance.ensures.counted ts (within-ahead g.J.Job.good g.J.Job.joined s.setting s.n s.width s.at next c.in-Slide.gone kept c.in-Slide.came c.in-Slide.places c.args.fresh.now s.root circle refl f.0.within f.0.news_are f.0.places_are f.1 f.2 c.start_after-start.ensures) (within-behind g.J.Job.good g.J.Job.joined s.setting s.n s.width s.at next c.in-Slide.gone kept c.in-Slide.came c.in-Slide.places c.args.fresh.now s.root circle refl f.0.within f.0.news_are f.0.places_are f.1 f.2 c.start_after-start.ensures ts)) in
    let counted = seen-counted (pair_digest g.J.Job.encoded) s.setting s.n s.at s.root s.draft c.args.self.now c.self.view_is c.advance.new.node c.args.shift.now c.in-Slide.first c.in-Slide.gone c.in-Slide.came c.in-Slide.places c.args.fresh.now _ _ c.in-Slide.is f.0.news_are low in
    counted.merges

pub returns-in-Err-clause-covered : goal.returns-in-Err-clause-covered
returns-in-Err-clause-covered g c =
    let s = c.self.inside in
    let d = pair_digest g.J.Job.encoded in
    let pins = seen-pins d s.setting s.n s.at s.root s.draft c.args.self.now c.self.view_is s.root in
    covered-then c.args.caller.now c.advance.new.caller (node_pins d s.root) (node_pins d c.advance.new.node) (subst (Covered c.args.caller.now) pins c.requires.covered) c.advance.ensures.balanced c.advance.ensures.given

pub returns-in-Err-clause-balanced : goal.returns-in-Err-clause-balanced
returns-in-Err-clause-balanced g c =
    let s = c.self.inside in
    let d = pair_digest g.J.Job.encoded in
    let pins = seen-pins d s.setting s.n s.at s.root s.draft c.args.self.now c.self.view_is s.root in
    subst (λ (ps : List PinName). Balanced c.args.caller.now ps c.advance.new.caller (node_pins d c.advance.new.node)) (sym pins) c.advance.ensures.balanced

pub returns-in-Err-clause-counted : goal.returns-in-Err-clause-counted
returns-in-Err-clause-counted g c =
    let s = c.self.inside in
    let none = no-draft g.J.Job.good g.J.Job.joined s.setting s.n s.width s.draft s.root (ap (λ (t : Seen g.row.J-Val.Denot). t.tree.draft) c.self.view_is ∙ c.requires.no_draft) in
    let circle = subst (λ (o : Option Standing). IsCircle g.J.Job.good g.J.Job.joined s.setting s.n s.width s.at o s.root) none c.self.invariant in
    let f = seen-fits (pair_digest g.J.Job.encoded) s.setting s.n s.at s.root g.J.Job.good g.J.Job.joined s.width s.draft c.args.self.now c.self.view_is c.self.invariant c.in-Slide.first c.in-Slide.gone c.in-Slide.places c.in-Slide.came (length c.args.fresh.now)
    (subst (λ (h : Shift). FitsShift Circle c.args.self.now.tree.places c.args.self.now.tree.leaves.first (length c.args.self.now.tree.leaves.tables) (length c.args.fresh.now) h) c.in-Slide.is c.requires.fits) in
    let kept = s.at.count - c.in-Slide.gone in
    let next : Standing = record { first = c.in-Slide.first; start = c.start_after-start.result; count = kept + c.in-Slide.came } in
    let ts = shifted (Slide c.in-Slide.first c.in-Slide.gone c.in-Slide.places c.in-Slide.came) (tables_of c.args.fresh.now) (tables_of (window s.n s.at (undrafted s.root))) in
    let low = levels-rose (height s.root) s.n (length c.args.fresh.now) (distinct_keys ts) _ _ circle.low (c.advance.ensures.counted ts (within-ahead g.J.Job.good g.J.Job.joined s.setting s.n s.width s.at next c.in-Slide.gone kept c.in-Slide.came c.in-Slide.places c.args.fresh.now s.root circle refl f.0.within f.0.news_are f.0.places_are f.1 f.2 c.start_after-start.ensures) (within-behind g.J.Job.good g.J.Job.joined s.setting s.n s.width s.at next c.in-Slide.gone kept c.in-Slide.came c.in-Slide.places c.args.fresh.now s.root circle refl f.0.within f.0.news_are f.0.places_are f.1 f.2 c.start_after-start.ensures ts)) in
    seen-counted (pair_digest g.J.Job.encoded) s.setting s.n s.at s.root s.draft c.args.self.now c.self.view_is c.advance.new.node c.args.shift.now c.in-Slide.first c.in-Slide.gone c.in-Slide.came c.in-Slide.places c.args.fresh.now _ _ c.in-Slide.is f.0.news_are low

pub returns-in-Err-clause-tight : goal.returns-in-Err-clause-tight
returns-in-Err-clause-tight g c =
    λ tight unmet.
    let s = c.self.inside in
    let none = no-draft g.J.Job.good g.J.Job.joined s.setting s.n s.width s.draft s.root (ap (λ (t : Seen g.row.J-Val.Denot). t.tree.draft) c.self.view_is ∙ c.requires.no_draft) in
    let circle = subst (λ (o : Option Standing). IsCircle g.J.Job.good g.J.Job.joined s.setting s.n s.width s.at o s.root) none c.self.invariant in
    let f = seen-fits (pair_digest g.J.Job.encoded) s.setting s.n s.at s.root g.J.Job.good g.J.Job.joined s.width s.draft c.args.self.now c.self.view_is c.self.invariant c.in-Slide.first c.in-Slide.gone c.in-Slide.places c.in-Slide.came (length c.args.fresh.now)
    (subst (λ (h : Shift). FitsShift Circle c.args.self.now.tree.places c.args.self.now.tree.leaves.first (length c.args.self.now.tree.leaves.tables) (length c.args.fresh.now) h) c.in-Slide.is c.requires.fits) in
    let kept = s.at.count - c.in-Slide.gone in
    let next : Standing = record { first = c.in-Slide.first; start = c.start_after-start.result; count = kept + c.in-Slide.came } in
    let ts = shifted (Slide c.in-Slide.first c.in-Slide.gone c.in-Slide.places c.in-Slide.came) (tables_of c.args.fresh.now) (tables_of (window s.n s.at (undrafted s.root))) in
    let low = levels-rose (height s.root) s.n (length c.args.fresh.now) (distinct_keys ts) _ _ circle.low (c.advance.ensures.counted ts (within-ahead g.J.Job.good g.J.Job.joined s.setting s.n s.width s.at next c.in-Slide.gone kept c.in-Slide.came c.in-Slide.places c.args.fresh.now s.root circle refl f.0.within f.0.news_are f.0.places_are f.1 f.2 c.start_after-start.ensures) (within-behind g.J.Job.good g.J.Job.joined s.setting s.n s.width s.at next c.in-Slide.gone kept c.in-Slide.came c.in-Slide.places c.args.fresh.now s.root circle refl f.0.within f.0.news_are f.0.places_are f.1 f.2 c.start_after-start.ensures ts)) in
    let counted = seen-counted (pair_digest g.J.Job.encoded) s.setting s.n s.at s.root s.draft c.args.self.now c.self.view_is c.advance.new.node c.args.shift.now c.in-Slide.first c.in-Slide.gone c.in-Slide.came c.in-Slide.places c.args.fresh.now _ _ c.in-Slide.is f.0.news_are low in
    counted.merges

pub returns-in-Ok-clause-loose : goal.returns-in-Ok-clause-loose
returns-in-Ok-clause-loose g c =
    let s = c.self.inside in
    let none = no-draft g.J.Job.good g.J.Job.joined s.setting s.n s.width s.draft s.root (ap (λ (t : Seen g.row.J-Val.Denot). t.tree.draft) c.self.view_is ∙ c.requires.no_draft) in
    let circle = subst (λ (o : Option Standing). IsCircle g.J.Job.good g.J.Job.joined s.setting s.n s.width s.at o s.root) none c.self.invariant in
    let kept = s.at.count - c.in-Slide.gone in
    let next : Standing = record { first = c.in-Slide.first; start = c.start_after-start.result; count = kept + c.in-Slide.came } in
    seen-loose (pair_digest g.J.Job.encoded) s.setting s.n s.at s.root s.draft c.args.self.now c.self.view_is c.advance.new.node next (Met c.args.caller.now c.advance.new.caller) (settled-undrafted s.root circle.next) c.advance.ensures.loose

pub returns-in-Err-clause-err : goal.returns-in-Err-clause-err
returns-in-Err-clause-err g c =
    let s = c.self.inside in
    ap (λ m. (seen_of (pair_digest g.J.Job.encoded) s.setting s.n s.at s.draft m).tree) c.in-Err.ensures.err ∙ ap (λ (t : Seen g.row.J-Val.Denot). t.tree) c.self.view_is

pub returns-in-Err-clause-few : goal.returns-in-Err-clause-few
returns-in-Err-clause-few g c =
    let s = c.self.inside in
    let none = no-draft g.J.Job.good g.J.Job.joined s.setting s.n s.width s.draft s.root (ap (λ (t : Seen g.row.J-Val.Denot). t.tree.draft) c.self.view_is ∙ c.requires.no_draft) in
    let circle = subst (λ (o : Option Standing). IsCircle g.J.Job.good g.J.Job.joined s.setting s.n s.width s.at o s.root) none c.self.invariant in
    λ plain. circle-few g.J.Job.good g.J.Job.joined s.setting s.n s.width (pair_digest g.J.Job.encoded) s.at c.advance.new.node (subst (λ m. IsCircle g.J.Job.good g.J.Job.joined s.setting s.n s.width s.at None m) (sym c.in-Err.ensures.err) circle)

pub returns-in-Err-clause-loose : goal.returns-in-Err-clause-loose
returns-in-Err-clause-loose g c =
    let s = c.self.inside in
    let none = no-draft g.J.Job.good g.J.Job.joined s.setting s.n s.width s.draft s.root (ap (λ (t : Seen g.row.J-Val.Denot). t.tree.draft) c.self.view_is ∙ c.requires.no_draft) in
    let circle = subst (λ (o : Option Standing). IsCircle g.J.Job.good g.J.Job.joined s.setting s.n s.width s.at o s.root) none c.self.invariant in
    λ draft e loose. absurd (let no : Some draft ≡ None = sym e ∙ ap (λ (o : Option Standing). draft_of s.n o c.advance.new.node) none in cc)

pub invariant_of-self-in-Err : goal.invariant_of-self-in-Err
invariant_of-self-in-Err g c =
    let s = c.self.inside in
    subst (λ m. IsCircle g.J.Job.good g.J.Job.joined s.setting s.n s.width s.at s.draft m) (sym c.in-Err.ensures.err) c.self.invariant

pub unreachable-requires : goal.unreachable-requires
unreachable-requires g c =
    subst (λ (h : Shift). FitsShift Circle c.args.self.now.tree.places c.args.self.now.tree.leaves.first (length c.args.self.now.tree.leaves.tables) (length c.args.fresh.now) h) c.in-Splice.is c.requires.fits

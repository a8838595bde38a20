use Rattle.std.proofs.Common.{List, [], ◌++◌, sym, ap, subst, ◌∙◌}
use Rattle.pin_table.specs.Covers.{PinName, Covered, Balanced, Backed, IsLater, names_of}
use Rattle.pin_table.proofs.Covering.{covered-left, later-then}
use Rattle.map_tasks.specs.Texts.{Settles, digest_of_input, pins_in, StayPinned}
use Rattle.map_tasks.specs.Table.{texts_in}
use Rattle.map_tasks.specs.Lanes.{LaneView, StayMappedSo, ReleasesAll}
use Rattle.map_tasks.proofs.Totals.{settled-texts}
use Rattle.map_tasks.proofs.Backing.{spare-covered}
use Rattle.map_tasks.proofs.LaneSteps.{finished-backed, finished-released, finished-once}
use Rattle.map_tasks.proofs.lane.Lane.settle.Goals as goal

pub finish_texts-requires-clause-covered : goal.finish_texts-requires-clause-covered
finish_texts-requires-clause-covered g c = covered-left c.self.inside.caller (pins_in (texts_in c.self.inside.texts.rows)) (names_of digest_of_input c.self.inside.spare.items) c.self.invariant.covered

pub give_up_all-requires-clause-covered : goal.give_up_all-requires-clause-covered
give_up_all-requires-clause-covered g c =
    subst (λ (ss : List PinName). Covered c.finish_texts.new.caller ss) (ap (λ x. names_of digest_of_input x.items) (sym c.replace.ensures.value))
    (spare-covered c.self.inside.caller c.finish_texts.new.caller (pins_in (texts_in c.self.inside.texts.rows)) (pins_in (texts_in c.finish_texts.new.texts.rows)) (names_of digest_of_input c.self.inside.spare.items) c.self.invariant c.finish_texts.ensures.pins c.finish_texts.ensures.covered)

pub invariant_of-self : goal.invariant_of-self
invariant_of-self g c =
    let old : LaneView = record { caller = c.self.inside.caller; texts = texts_in c.self.inside.texts.rows; spare = names_of digest_of_input c.self.inside.spare.items } in
    let up : (rs : List PinName) → Balanced c.finish_texts.new.caller (old.spare ++ rs) c.give_up_all.new.caller rs = (λ rs. subst (λ (ss : List PinName). Balanced c.finish_texts.new.caller (ss ++ rs) c.give_up_all.new.caller rs) (ap (λ x. names_of digest_of_input x.items) c.replace.ensures.value) (c.give_up_all.ensures rs)) in
    subst (λ (ss : List PinName). Backed c.give_up_all.new.caller (pins_in (texts_in c.finish_texts.new.texts.rows) ++ ss)) (ap (names_of digest_of_input) (sym (ap (λ x. x.items) c.replace.ensures.after ∙ c.new.ensures.items)))
    (finished-backed old c.finish_texts.new.caller c.give_up_all.new.caller (texts_in c.finish_texts.new.texts.rows) c.self.invariant c.finish_texts.ensures.pins c.finish_texts.ensures.covered up)

pub returns-clause-texts : goal.returns-clause-texts
returns-clause-texts g c =
    subst (λ (v : LaneView). Settles v.texts (texts_in c.finish_texts.new.texts.rows)) c.self.view_is
    (settled-texts (texts_in c.self.inside.texts.rows) (texts_in c.finish_texts.new.texts.rows) c.finish_texts.ensures.finished)

pub returns-clause-mapped : goal.returns-clause-mapped
returns-clause-mapped g c =
    subst (λ (v : LaneView). StayMappedSo v.texts (texts_in c.finish_texts.new.texts.rows)) c.self.view_is c.finish_texts.ensures.finished.mapped

pub returns-clause-pinned : goal.returns-clause-pinned
returns-clause-pinned g c =
    subst (λ (v : LaneView). StayPinned v.texts (texts_in c.finish_texts.new.texts.rows)) c.self.view_is (λ t was is s id. c.finish_texts.ensures.finished.pins.pins t is s id)

pub returns-clause-released : goal.returns-clause-released
returns-clause-released g c =
    let old : LaneView = record { caller = c.self.inside.caller; texts = texts_in c.self.inside.texts.rows; spare = names_of digest_of_input c.self.inside.spare.items } in
    let up : (rs : List PinName) → Balanced c.finish_texts.new.caller (old.spare ++ rs) c.give_up_all.new.caller rs = (λ rs. subst (λ (ss : List PinName). Balanced c.finish_texts.new.caller (ss ++ rs) c.give_up_all.new.caller rs) (ap (λ x. names_of digest_of_input x.items) c.replace.ensures.value) (c.give_up_all.ensures rs)) in
    subst (λ (v : LaneView). ReleasesAll v (record { caller = c.give_up_all.new.caller; texts = texts_in c.finish_texts.new.texts.rows; spare = names_of digest_of_input c.replace.new.dest.items })) c.self.view_is
    (subst (λ (ss : List PinName). ReleasesAll old (record { caller = c.give_up_all.new.caller; texts = texts_in c.finish_texts.new.texts.rows; spare = ss })) (ap (names_of digest_of_input) (sym (ap (λ x. x.items) c.replace.ensures.after ∙ c.new.ensures.items)))
    (finished-released old c.finish_texts.new.caller c.give_up_all.new.caller (texts_in c.finish_texts.new.texts.rows) c.self.invariant c.finish_texts.ensures.pins c.finish_texts.ensures.covered up c.number.ensures.fits))

pub returns-clause-once : goal.returns-clause-once
returns-clause-once g c =
    let old : LaneView = record { caller = c.self.inside.caller; texts = texts_in c.self.inside.texts.rows; spare = names_of digest_of_input c.self.inside.spare.items } in
    let up : (rs : List PinName) → Balanced c.finish_texts.new.caller (old.spare ++ rs) c.give_up_all.new.caller rs = (λ rs. subst (λ (ss : List PinName). Balanced c.finish_texts.new.caller (ss ++ rs) c.give_up_all.new.caller rs) (ap (λ x. names_of digest_of_input x.items) c.replace.ensures.value) (c.give_up_all.ensures rs)) in
    finished-once old c.finish_texts.new.caller c.give_up_all.new.caller (texts_in c.finish_texts.new.texts.rows) c.self.invariant c.finish_texts.ensures.pins c.finish_texts.ensures.covered up c.number.ensures.fits c.finish_texts.ensures.finished.sound

pub returns-clause-later : goal.returns-clause-later
returns-clause-later g c =
    subst (λ (v : LaneView). IsLater v.caller c.give_up_all.new.caller) c.self.view_is
    (later-then c.self.inside.caller c.finish_texts.new.caller c.give_up_all.new.caller c.finish_texts.ensures.pins.later (c.give_up_all.ensures []).later)

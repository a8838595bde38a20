use Rattle.std.proofs.Common.{List, ◌∷◌, ◌++◌, sym, subst, refl, Some, None}
use Rattle.std.proofs.lemmas.List.Sorted.{IsPermutation-sym}
use Rattle.pin_table.specs.Covers.{PinName, Covered, Balanced}
use Rattle.pin_table.proofs.Covering.{balanced-same, covered-left}
use Rattle.map_tasks.specs.Texts.{pins_in, finished}
use Rattle.map_tasks.specs.Table.{texts_in}
use Rattle.map_tasks.proofs.Finishes.{finishes-one}
use Rattle.map_tasks.proofs.Backing.{pins-kept, pins-gone, apart}
use Rattle.map_tasks.proofs.finishing.finish_one.Goals as goal

pub returns-in-None-clause-one : goal.returns-in-None-clause-one
returns-in-None-clause-one g c = finishes-one c.args.how c.args.texts.now c.finish_next.new.self None c.in-None.ensures

pub returns-in-None-clause-pins : goal.returns-in-None-clause-pins
returns-in-None-clause-pins g c =
    let f = c.in-None.ensures in
    let fs = texts_in c.finish_next.new.self.rows in
    (pins-kept c.args.caller.now (texts_in c.args.texts.now.rows) fs f.1 f.0 (finished c.args.how f.0) refl f.4 f.5 (IsPermutation-sym fs (finished c.args.how f.0 ∷ f.1) f.5) c.requires.covered).0

pub returns-in-None-clause-covered : goal.returns-in-None-clause-covered
returns-in-None-clause-covered g c =
    let f = c.in-None.ensures in
    let fs = texts_in c.finish_next.new.self.rows in
    (pins-kept c.args.caller.now (texts_in c.args.texts.now.rows) fs f.1 f.0 (finished c.args.how f.0) refl f.4 f.5 (IsPermutation-sym fs (finished c.args.how f.0 ∷ f.1) f.5) c.requires.covered).1

pub returns-in-None-into_pin-clause-one : goal.returns-in-None-into_pin-clause-one
returns-in-None-into_pin-clause-one g c = finishes-one c.args.how c.args.texts.now c.finish_next.new.self (Some c.in-Some.held) c.in-Some.ensures

pub returns-in-None-into_pin-clause-pins : goal.returns-in-None-into_pin-clause-pins
returns-in-None-into_pin-clause-pins g c =
    let f = c.in-Some.ensures in
    let fs = texts_in c.finish_next.new.self.rows in
    (pins-gone c.args.caller.now c.args.caller.now (texts_in c.args.texts.now.rows) fs c.in-Some.held f.2 c.requires.covered
    (subst (λ (ps : List PinName). Balanced c.args.caller.now (ps ++ pins_in fs) c.args.caller.now (pins_in fs)) c.in-None-into_pin.ensures (balanced-same c.args.caller.now (pins_in fs)))).0

pub returns-in-None-into_pin-clause-covered : goal.returns-in-None-into_pin-clause-covered
returns-in-None-into_pin-clause-covered g c =
    let f = c.in-Some.ensures in
    let fs = texts_in c.finish_next.new.self.rows in
    (pins-gone c.args.caller.now c.args.caller.now (texts_in c.args.texts.now.rows) fs c.in-Some.held f.2 c.requires.covered
    (subst (λ (ps : List PinName). Balanced c.args.caller.now (ps ++ pins_in fs) c.args.caller.now (pins_in fs)) c.in-None-into_pin.ensures (balanced-same c.args.caller.now (pins_in fs)))).1

pub give_up-requires-clause-covered : goal.give_up-requires-clause-covered
give_up-requires-clause-covered g c =
    let f = c.in-Some.ensures in
    let fs = texts_in c.finish_next.new.self.rows in
    subst (Covered c.args.caller.now) (sym c.in-Some-into_pin.ensures)
    (covered-left c.args.caller.now c.in-Some.held.pins (pins_in fs) (apart c.args.caller.now c.args.caller.now (texts_in c.args.texts.now.rows) fs c.in-Some.held f.2 c.requires.covered))

pub returns-in-Some-into_pin-clause-one : goal.returns-in-Some-into_pin-clause-one
returns-in-Some-into_pin-clause-one g c = finishes-one c.args.how c.args.texts.now c.finish_next.new.self (Some c.in-Some.held) c.in-Some.ensures

pub returns-in-Some-into_pin-clause-pins : goal.returns-in-Some-into_pin-clause-pins
returns-in-Some-into_pin-clause-pins g c =
    let f = c.in-Some.ensures in
    let fs = texts_in c.finish_next.new.self.rows in
    (pins-gone c.args.caller.now c.give_up.new.caller (texts_in c.args.texts.now.rows) fs c.in-Some.held f.2 c.requires.covered
    (subst (λ (ps : List PinName). Balanced c.args.caller.now (ps ++ pins_in fs) c.give_up.new.caller (pins_in fs)) c.in-Some-into_pin.ensures (c.give_up.ensures (pins_in fs)))).0

pub returns-in-Some-into_pin-clause-covered : goal.returns-in-Some-into_pin-clause-covered
returns-in-Some-into_pin-clause-covered g c =
    let f = c.in-Some.ensures in
    let fs = texts_in c.finish_next.new.self.rows in
    (pins-gone c.args.caller.now c.give_up.new.caller (texts_in c.args.texts.now.rows) fs c.in-Some.held f.2 c.requires.covered
    (subst (λ (ps : List PinName). Balanced c.args.caller.now (ps ++ pins_in fs) c.give_up.new.caller (pins_in fs)) c.in-Some-into_pin.ensures (c.give_up.ensures (pins_in fs)))).1

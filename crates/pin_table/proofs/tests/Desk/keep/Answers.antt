use Rattle.std.proofs.Common.{List, sym, subst}
use Rattle.pin_table.specs.Views.{PinView}
use Rattle.pin_table.specs.Covers.{Covered, names_of}
use Rattle.pin_table.specs.declared.answers.Kept.TheVariants.{Stored, Found, Clash}
use Rattle.pin_table.proofs.Covering.{covered-same, covered-push, covered-kept}
use Rattle.pin_table.proofs.Answering.{keeps, faults}
use Rattle.pin_table.proofs.tests.Desk.keep.Goals as goal

pub returns-in-Ok-Stored-clause-covered : goal.returns-in-Ok-Stored-clause-covered
returns-in-Ok-Stored-clause-covered g c =
    let d = g.R.Recipe.digest_of in
    covered-push d c.keep.new.caller c.args.self.now.pins.items c.push_reserved.new.self.items c.reserve.new.self.items c.in-Ok-Stored.pin c.push_reserved.ensures.items c.reserve.ensures.items (keeps c.args.self.now.caller c.keep.new.caller c.number.ensures.fits (names_of d c.args.self.now.pins.items) c.requires.covered {R = g.row.R.Denot} g.R.Recipe.fits d c.args.run c.args.input c.args.out (Stored c.in-Ok-Stored.pin) (rw c.in-Ok-Stored.field-0-is at c.in-Ok-Stored.ensures.kept)).1

pub returns-in-Ok-Found-clause-covered : goal.returns-in-Ok-Found-clause-covered
returns-in-Ok-Found-clause-covered g c =
    let d = g.R.Recipe.digest_of in
    covered-push d c.keep.new.caller c.args.self.now.pins.items c.push_reserved-in-Ok-Found.new.self.items c.reserve.new.self.items c.in-Ok-Found.pin c.push_reserved-in-Ok-Found.ensures.items c.reserve.ensures.items (keeps c.args.self.now.caller c.keep.new.caller c.number.ensures.fits (names_of d c.args.self.now.pins.items) c.requires.covered {R = g.row.R.Denot} g.R.Recipe.fits d c.args.run c.args.input c.args.out (Found c.in-Ok-Found.pin) (rw c.in-Ok-Found.field-0-is at c.in-Ok-Found.ensures.kept)).1

pub returns-in-Ok-Clash-clause-covered : goal.returns-in-Ok-Clash-clause-covered
returns-in-Ok-Clash-clause-covered g c =
    let d = g.R.Recipe.digest_of in
    covered-kept d c.keep.new.caller c.args.self.now.pins.items c.reserve.new.self.items c.reserve.ensures.items (keeps c.args.self.now.caller c.keep.new.caller c.number.ensures.fits (names_of d c.args.self.now.pins.items) c.requires.covered {R = g.row.R.Denot} g.R.Recipe.fits d c.args.run c.args.input c.args.out (Clash c.in-Ok-Clash.field-0-0 c.in-Ok-Clash.field-0-1 c.in-Ok-Clash.field-0-2) (rw c.in-Ok-Clash.field-0-is at c.in-Ok-Clash.ensures.kept)).1

pub returns-in-Err-clause-covered : goal.returns-in-Err-clause-covered
returns-in-Err-clause-covered g c =
    let d = g.R.Recipe.digest_of in
    subst (λ (ps : List (PinView g.row.R-In.Denot g.row.R-Out.Denot)). Covered c.keep.new.caller (names_of d ps)) (sym c.reserve.ensures.items)
    (covered-same c.args.self.now.caller c.keep.new.caller (names_of d c.args.self.now.pins.items) c.requires.covered (faults c.in-Err.refused.fault _ c.args.self.now.caller c.keep.new.caller (names_of d c.args.self.now.pins.items) c.in-Err.ensures.fault))

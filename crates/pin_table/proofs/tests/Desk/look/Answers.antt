use Rattle.std.proofs.Common.{List, sym, subst}
use Rattle.pin_table.specs.Views.{PinView}
use Rattle.pin_table.specs.Covers.{Covered, names_of}
use Rattle.pin_table.specs.declared.answers.Looked.TheVariants.{Hit, Absent, Clash}
use Rattle.pin_table.proofs.Covering.{covered-same, covered-push, covered-kept}
use Rattle.pin_table.proofs.Answering.{looks, faults}
use Rattle.pin_table.proofs.tests.Desk.look.Goals as goal

pub returns-in-Ok-Hit-clause-covered : goal.returns-in-Ok-Hit-clause-covered
returns-in-Ok-Hit-clause-covered g c =
    let d = g.R.Recipe.digest_of in
    covered-push d c.look.new.caller c.args.self.now.pins.items c.push_reserved.new.self.items c.reserve.new.self.items c.in-Ok-Hit.pin c.push_reserved.ensures.items c.reserve.ensures.items (looks c.args.self.now.caller c.look.new.caller c.number.ensures.fits (names_of d c.args.self.now.pins.items) c.requires.covered {R = g.row.R.Denot} g.R.Recipe.fits d c.args.run c.args.input.now (Hit c.in-Ok-Hit.pin) (rw c.in-Ok-Hit.field-0-is at c.in-Ok-Hit.ensures.looked)).1

pub returns-in-Ok-Absent-clause-covered : goal.returns-in-Ok-Absent-clause-covered
returns-in-Ok-Absent-clause-covered g c =
    let d = g.R.Recipe.digest_of in
    covered-kept d c.look.new.caller c.args.self.now.pins.items c.reserve.new.self.items c.reserve.ensures.items (looks c.args.self.now.caller c.look.new.caller c.number.ensures.fits (names_of d c.args.self.now.pins.items) c.requires.covered {R = g.row.R.Denot} g.R.Recipe.fits d c.args.run c.args.input.now Absent (rw c.in-Ok-Absent.field-0-is at c.in-Ok-Absent.ensures.looked)).1

pub returns-in-Ok-Clash-clause-covered : goal.returns-in-Ok-Clash-clause-covered
returns-in-Ok-Clash-clause-covered g c =
    let d = g.R.Recipe.digest_of in
    covered-kept d c.look.new.caller c.args.self.now.pins.items c.reserve.new.self.items c.reserve.ensures.items (looks c.args.self.now.caller c.look.new.caller c.number.ensures.fits (names_of d c.args.self.now.pins.items) c.requires.covered {R = g.row.R.Denot} g.R.Recipe.fits d c.args.run c.args.input.now (Clash c.in-Ok-Clash.field-0-0) (rw c.in-Ok-Clash.field-0-is at c.in-Ok-Clash.ensures.looked)).1

pub returns-in-Err-clause-covered : goal.returns-in-Err-clause-covered
returns-in-Err-clause-covered g c =
    let d = g.R.Recipe.digest_of in
    subst (λ (ps : List (PinView g.row.R-In.Denot g.row.R-Out.Denot)). Covered c.look.new.caller (names_of d ps)) (sym c.reserve.ensures.items)
    (covered-same c.args.self.now.caller c.look.new.caller (names_of d c.args.self.now.pins.items) c.requires.covered (faults c.in-Err.fault _ c.args.self.now.caller c.look.new.caller (names_of d c.args.self.now.pins.items) c.in-Err.ensures.fault))

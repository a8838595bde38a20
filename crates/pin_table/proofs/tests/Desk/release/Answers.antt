use Rattle.std.proofs.Common.{◌++◌, ◌∷◌, [], refl, sym, subst}
use Rattle.pin_table.specs.Views.{PinView}
use Rattle.pin_table.specs.Covers.{Covered, names_of}
use Rattle.pin_table.specs.Covers.{name_of}
use Rattle.pin_table.proofs.Covering.{covered-pop, covered-push}
use Rattle.pin_table.proofs.Answering.{last-own, last-held, last-released, last-stays}
use Rattle.pin_table.proofs.tests.Desk.release.Goals as goal

pub release-requires-clause-own : goal.release-requires-clause-own
release-requires-clause-own g c =
    let d = g.R.Recipe.digest_of in
    last-own c.args.self.now.caller c.args.self.now.caller (names_of d c.pop.new.self.items) (name_of d c.in-Some.pin) (covered-pop d c.args.self.now.caller c.args.self.now.pins.items c.pop.new.self.items c.in-Some.pin c.in-Some.ensures.items c.requires.covered)

pub release-requires-clause-held : goal.release-requires-clause-held
release-requires-clause-held g c =
    let d = g.R.Recipe.digest_of in
    last-held c.args.self.now.caller c.args.self.now.caller (names_of d c.pop.new.self.items) (name_of d c.in-Some.pin) (covered-pop d c.args.self.now.caller c.args.self.now.pins.items c.pop.new.self.items c.in-Some.pin c.in-Some.ensures.items c.requires.covered)

pub returns-in-Ok-clause-covered : goal.returns-in-Ok-clause-covered
returns-in-Ok-clause-covered g c =
    let d = g.R.Recipe.digest_of in
    last-released c.args.self.now.caller c.release.new.caller (names_of d c.pop.new.self.items) (name_of d c.in-Some.pin) (covered-pop d c.args.self.now.caller c.args.self.now.pins.items c.pop.new.self.items c.in-Some.pin c.in-Some.ensures.items c.requires.covered) c.number.ensures.fits c.in-Ok.ensures.released

pub returns-in-Err-clause-covered : goal.returns-in-Err-clause-covered
returns-in-Err-clause-covered g c =
    let d = g.R.Recipe.digest_of in
    covered-push d c.release.new.caller c.pop.new.self.items c.push_reserved.new.self.items c.pop.new.self.items c.in-Err.pin c.push_reserved.ensures.items refl
    (subst (λ (p : PinView g.row.R-In.Denot g.row.R-Out.Denot). Covered c.release.new.caller (names_of d c.pop.new.self.items ++ name_of d p ∷ [])) (sym c.in-Err.ensures.back)
    (last-stays c.args.self.now.caller c.release.new.caller (names_of d c.pop.new.self.items) (name_of d c.in-Some.pin) (covered-pop d c.args.self.now.caller c.args.self.now.pins.items c.pop.new.self.items c.in-Some.pin c.in-Some.ensures.items c.requires.covered) _ c.in-Err.ensures.worn))

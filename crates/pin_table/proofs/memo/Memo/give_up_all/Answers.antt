use Rattle.std.proofs.Common.{◌≡◌, List, [], ◌∷◌, ◌++◌, sym, subst, ◌∙◌, arith}
use Rattle.std.proofs.lemmas.List.{nil_from_length}
use Rattle.pin_table.specs.Views.{PinView}
use Rattle.pin_table.specs.Covers.{PinName, Covered, Balanced, name_of, names_of}
use Rattle.pin_table.proofs.Covering.{balanced-then, balanced-before, less-balanced, less-covered, names-push, covered-right}
use Rattle.pin_table.proofs.memo.Memo.give_up_all.Goals as goal

pub give_up-requires-clause-covered : goal.give_up-requires-clause-covered
give_up-requires-clause-covered g c =
    let d = g.R.Recipe.digest_of in
    covered-right c.pins.caller (names_of d c.pop.new.self.items) (name_of d c.in-Some.pin ∷ []) (subst (Covered c.pins.caller) (names-push d c.pins.pins.items c.pop.new.self.items c.in-Some.pin c.in-Some.ensures.items) c.pins.invariant.covered)

pub pins-preserved : goal.pins-preserved
pins-preserved g c =
    let d = g.R.Recipe.digest_of in
    let rest : List PinName = names_of d c.pop.new.self.items in
    let last : List PinName = name_of d c.in-Some.pin ∷ [] in
    let is : names_of d c.pins.pins.items ≡ rest ++ last = names-push d c.pins.pins.items c.pop.new.self.items c.in-Some.pin c.in-Some.ensures.items in
    let one : Balanced c.pins.caller last c.give_up.new.caller [] = c.give_up.ensures [] in
    record {
      of = one.later.locks ∙ c.pins.invariant.of;
      covered = less-covered c.pins.caller c.give_up.new.caller rest last (subst (Covered c.pins.caller) is c.pins.invariant.covered) one;
      balanced = balanced-then c.args.caller.now c.pins.caller c.give_up.new.caller (names_of d c.args.pins.items) (names_of d c.pins.pins.items) rest c.pins.invariant.balanced
          (subst (λ (ps : List PinName). Balanced c.pins.caller ps c.give_up.new.caller rest) (sym is) (less-balanced c.pins.caller c.give_up.new.caller rest last one));
    }

pub returns : goal.returns
returns g c = λ ps.
    let d = g.R.Recipe.digest_of in
    let none = c.in_default.ensures.cases in
    let empty : c.pins.pins.items ≡ [] = nil_from_length c.pins.pins.items (omega (arith, none.0, c.pins.pins.ok.0)) in
    balanced-before c.args.caller.now c.pins.caller ps (names_of d c.args.pins.items) []
    (subst (λ (xs : List (PinView g.row.R-In.Denot g.row.R-Out.Denot)). Balanced c.args.caller.now (names_of d c.args.pins.items) c.pins.caller (names_of d xs)) empty c.pins.invariant.balanced)

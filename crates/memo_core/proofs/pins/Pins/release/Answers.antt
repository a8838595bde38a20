use Rattle.std.proofs.Common.{rules, ap, sym, ◌∙◌, subst, ℕ, List, length, ◌<◌, remove}
use Rattle.memo_core.proofs.Walks.{removed-first, without-none}
use Rattle.memo_core.proofs.pins.Pins.release.Goals as goal

pub remove-requires : goal.remove-requires
remove-requires c = let h : c.in-Some.place < length c.self.inside.callers.items = subst (λ (xs : List ℕ). c.in-Some.place < length xs) (sym c.self.view_is) (removed-first c.args.caller c.args.self.now c.in-Some.place (sym c.place_of.ensures ∙ c.in-Some.is)).0 in search rules

pub returns-in-Some : goal.returns-in-Some
returns-in-Some c = c.remove.ensures.items ∙ ap (λ (xs : List ℕ). remove xs c.in-Some.place) c.self.view_is ∙ (removed-first c.args.caller c.args.self.now c.in-Some.place (sym c.place_of.ensures ∙ c.in-Some.is)).1

pub returns-in_default : goal.returns-in_default
returns-in_default c = without-none c.args.caller c.args.self.now (sym c.place_of.ensures ∙ c.in_default.is)

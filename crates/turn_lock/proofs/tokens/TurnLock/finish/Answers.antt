use Rattle.std.proofs.Common.{refl, sym, ap, ◌∙◌, subst, ◌≡◌, ℕ, List, [], ◌∷◌, ◌++◌, Option, Some}
use mathlib.Core.Option.{some, some-injective}
use lib.ListN.{get_elem?}
use Rattle.std.specs.Option.{IsSome}
use Rattle.turn_lock.specs.Views.{LockView}
use Rattle.turn_lock.specs.Passes.{Closes}
use Rattle.turn_lock.proofs.Ends.{ends}
use Rattle.turn_lock.proofs.tokens.TurnLock.finish.Goals as goal

item : {A : Type 0} (slots : List (Option A)) (got : Option A) (x : A) → get_elem? slots 0 ≡ some got → get_elem? slots 0 ≡ some (Some x) → got ≡ Some x
item slots got x a b = some-injective got (Some x) (sym a ∙ b)

same : {A : Type 0} (x y : A) → ◌≡◌ {A = Option A} (Some x) (Some y) → x ≡ y
same x y e = cc

pub unwrap-state-requires : goal.unwrap-state-requires
unwrap-state-requires g c =
    let v = c.args.kept.me.0 in let key = c.self.inside.table.shared.key in
    let e = ends g.T.Turns.history g.T.Turns.whose key.start key.callers c.args.kept.id v _ _ c.requires.idle (c.requires.all ∙ sym (ap (λ (l : LockView). l.callers) c.self.view_is)) c.close_with-closed.ensures.values.2 in
    subst IsSome (sym (item _ c.take.result e.0 c.take.ensures.value e.1)) refl

pub returns : goal.returns
returns g c =
    let v = c.args.kept.me.0 in let key = c.self.inside.table.shared.key in
    let e = ends g.T.Turns.history g.T.Turns.whose key.start key.callers c.args.kept.id v _ _ c.requires.idle (c.requires.all ∙ sym (ap (λ (l : LockView). l.callers) c.self.view_is)) c.close_with-closed.ensures.values.2 in
    let is = same e.0 c.unwrap-state.result (sym (item _ c.take.result e.0 c.take.ensures.value e.1) ∙ c.unwrap-state.ensures) in
    subst (λ (n : ℕ). Closes g.T.Turns.whose n (g.T.Turns.history c.unwrap-state.result) (v.ended ++ v.own ∷ [])) (ap (λ (l : LockView). l.start) c.self.view_is)
    (subst (λ t. Closes g.T.Turns.whose key.start (g.T.Turns.history t) (v.ended ++ v.own ∷ [])) is e.2)

use Rattle.std.proofs.Common.{arith, refl, sym, ap, ◌∙◌, subst, ◌≡◌, ◌<◌, List, length, Option, Some}
use Rattle.std.specs.Option.{IsSome}
use mathlib.Core.Option.{some, some-injective}
use lib.ListN.{get_elem?}
use Rattle.atomic_table.proofs.Lists.{at_map}
use Rattle.worker_claims.specs.Views.{BoardView}
use Rattle.shared_seats.proofs.Lists.{from_all, at_length}
use Rattle.worker_claims.proofs.Steps.{times_one}
use Rattle.worker_claims.proofs.Shares.{ends}
use Rattle.worker_claims.proofs.tokens.Board.gather.Goals as goal

pub collect-requires-clause-some : goal.collect-requires-clause-some
collect-requires-clause-some g c =
    let key = c.self.inside.table.shared.key in
    let e = ends key.tasks.value.items key.hands c.args.kept.id c.args.kept.me.0 _ _ c.requires.ended.0 (c.requires.ended.1 ∙ sym (ap (λ (b : BoardView g.row.T.Denot). b.hands) c.self.view_is)) c.close_with-closed.ensures.values.2 in
    from_all (λ o. IsSome o) _ (λ k lt. let q = e.1 k (let l = e.0 in omega arith) in (Some q.0, q.2, refl))

same : {A : Type 0} (x y : A) → ◌≡◌ {A = Option A} (Some x) (Some y) → x ≡ y
same x y e = cc

pub returns-clause-given : goal.returns-clause-given
returns-clause-given g c = λ k t at.
    let key = c.self.inside.table.shared.key in
    let e = ends key.tasks.value.items key.hands c.args.kept.id c.args.kept.me.0 _ _ c.requires.ended.0 (c.requires.ended.1 ∙ sym (ap (λ (b : BoardView g.row.T.Denot). b.hands) c.self.view_is)) c.close_with-closed.ensures.values.2 in
    let moved = ap (λ l. get_elem? l k) (sym c.collect.ensures.row) ∙ at_map Some c.collect.new.row.items k t at in
    let near = at_length _ k _ moved in let q = e.1 k (let l = e.0 in omega arith) in
    (q.1, subst (λ z. get_elem? c.args.kept.me.0.given q.1 ≡ some (k, z)) (same q.0 t (some-injective _ _ (sym q.2 ∙ moved))) q.3)

pub returns-clause-once : goal.returns-clause-once
returns-clause-once g c = λ k lt.
    let key = c.self.inside.table.shared.key in
    let e = ends key.tasks.value.items key.hands c.args.kept.id c.args.kept.me.0 _ _ c.requires.ended.0 (c.requires.ended.1 ∙ sym (ap (λ (b : BoardView g.row.T.Denot). b.hands) c.self.view_is)) c.close_with-closed.ensures.values.2 in
    let near = subst (λ (l : List g.row.T.Denot). k < length l) (sym (ap (λ (b : BoardView g.row.T.Denot). b.tasks) c.self.view_is)) lt in
    let q = e.1 k near in times_one k c.args.kept.me.0.given q.1 q.0 q.3 (e.2 k)

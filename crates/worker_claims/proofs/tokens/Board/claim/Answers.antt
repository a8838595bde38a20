use Rattle.std.proofs.Common.{rules, arith, sym, ap, ◌∙◌, subst, ◌≡◌, List, length, Some}
use Rattle.worker_claims.specs.Views.{BoardView, HandView}
use Rattle.worker_claims.specs.Hands.{HoldsNone}
use Rattle.worker_claims.proofs.Hands.{free_of}
use Rattle.worker_claims.proofs.Steps.{claims, cons_rest}
use Rattle.worker_claims.proofs.tokens.Board.claim.Goals as goal

pub fetch_add-number-requires : goal.fetch_add-number-requires
fetch_add-number-requires g c =
    let seat = c.hand.inside.seat in
    let idle = subst HoldsNone (sym (ap (λ (h : HandView g.row.T.Denot). h.doing) c.hand.view_is)) c.requires.idle in
    let free = free_of seat.me.0.tasks seat.me.0.doing c.hand.inside.done seat.me.1 c.if-hand.false idle c.hand.invariant.1 in
    (search rules, search rules, claims _ _ _ _ seat.me free.0)

pub exchange-requires : goal.exchange-requires
exchange-requires g c =
    let seat = c.fetch_add-number.new.seat in let T : Type 0 = g.row.T.Denot in
    let of = ap (λ (h : HandView T). h.board) c.hand.view_is ∙ (c.requires.of.0 ∙ sym (ap (λ (b : BoardView T). b.id) c.self.view_is)) in
    let tasks = ap (λ (h : HandView T). h.tasks) c.hand.view_is ∙ (c.requires.of.1 ∙ sym (ap (λ (b : BoardView T). b.tasks) c.self.view_is)) in
    let long : length c.hand.inside.seat.me.0.tasks ≡ c.self.inside.count = ap (λ (l : List T). length l) tasks ∙ c.self.invariant.3 in
    let got = c.fetch_add-number.ensures.2.0 (let lt = c.if-number-self.false in omega arith) in
    (c.fetch_add-number.ensures.0 ∙ of, (Some got.0, cons_rest seat.me.1 _ _ (ap (λ m. m.1) got.2)))

use Rattle.std.proofs.Common.{sym, ap, ◌∙◌, subst, ◌≡◌, ◌⊎◌, ℕ, ◌^◌, ◌<◌, ◌≤◌, Some, None}
use Rattle.turn_lock.specs.Under.{under}
use Rattle.turn_lock.specs.Views.{PassView}
use Rattle.turn_lock.specs.Passes.{Played}
use Rattle.turn_lock.specs.declared.knowledge.Known.{Known}
use Rattle.turn_lock.proofs.Views.{under-again}
use Rattle.turn_lock.proofs.Whole.{plays, enters}
use Rattle.turn_lock.proofs.tokens.TurnLock.turn.Goals as goal

pub play-reply-requires-clause-may : goal.play-reply-requires-clause-may
play-reply-requires-clause-may g c =
    let e = enters g.T.Turns.history g.T.Turns.whose c.pass.inside.seat.me c.check-ticket.new.seat.me c.draw-drawn.new.seat.me c.await_turn.new.seat.me c.check-ticket.result c.draw-drawn.result c.take-state.result
    (c.check-ticket.ensures.1.1 c.if-ticket-ge-LIMIT.false) c.draw-drawn.ensures.1 c.await_turn.ensures.1 c.take-state.ensures.2 in
    let own = c.pass.inside.seat.me.0.own in
    let kept = subst (λ (k : Known g.row.T-Entry.Denot). g.T.Turns.may (under g.T.Turns.whose k.number k.mine) c.args.op) (sym (ap (λ (w : PassView g.row.T-Entry.Denot). w.known) c.pass.view_is)) c.requires.may in
    subst (λ (k : ℕ). g.T.Turns.may (under g.T.Turns.whose k (g.T.Turns.history c.take-state.result)) c.args.op) c.pass.invariant.0
    (subst (λ es. g.T.Turns.may es c.args.op) (sym (sym (under-again g.T.Turns.whose own.number (g.T.Turns.history c.take-state.result)) ∙ ap (under g.T.Turns.whose own.number) e.mine)) kept)

pub returns-clause-played : goal.returns-clause-played
returns-clause-played g c =
    let e = enters g.T.Turns.history g.T.Turns.whose c.pass.inside.seat.me c.check-ticket.new.seat.me c.draw-drawn.new.seat.me c.await_turn.new.seat.me c.check-ticket.result c.draw-drawn.result c.take-state.result
    (c.check-ticket.ensures.1.1 c.if-ticket-ge-LIMIT.false) c.draw-drawn.ensures.1 c.await_turn.ensures.1 c.take-state.ensures.2 in
    let p = c.play-reply.ensures.history in let done = c.pass_on.ensures.1 c.play-reply.new.self c.put.ensures.2 in
    let kept = c.put.ensures.1 ∙ c.take-state.ensures.1 in
    let own = ap (λ v. v.own) kept ∙ e.own in
    subst (λ (k : Known g.row.T-Entry.Denot). Played g.T.Turns.whose g.T.Turns.answers g.T.Turns.legal c.args.op c.play-reply.result k c.pass_on.new.seat.me.0.own) (ap (λ (w : PassView g.row.T-Entry.Denot). w.known) c.pass.view_is) (plays g.T.Turns.whose g.T.Turns.answers g.T.Turns.legal c.args.op c.play-reply.result c.pass.inside.seat.me.0.own c.pass_on.new.seat.me.0.own
    (g.T.Turns.history c.take-state.result) (g.T.Turns.history c.play-reply.new.self) p.0 p.1 p.2
    (subst (λ (k : ℕ). (g.T.Turns.whose p.0 ≡ Some k) ⊎ (g.T.Turns.whose p.0 ≡ None)) (sym c.pass.invariant.0) p.3)
    c.play-reply.ensures.legal e.mine e.same e.begins
    (ap (λ m. m.0.own.seen) done)
    (ap (λ m. m.0.own.mine) done ∙ ap (λ k. under g.T.Turns.whose k.number (g.T.Turns.history c.play-reply.new.self)) own)
    (subst (λ (k : ℕ). k < 2 ^ 62) (sym (ap (λ m. m.0.own.read) done ∙ ap (λ k. k.read) own)) c.if-ticket-ge-LIMIT.false)
    (subst (λ (k : ℕ). c.pass.inside.seat.me.0.own.read ≤ k) (sym (ap (λ m. m.0.own.read) done ∙ ap (λ k. k.read) own)) c.check-ticket.ensures.1.3))

use Rattle.std.proofs.Common.{◌≡◌, ℕ, ◌+◌, List, [], ◌∷◌, ◌++◌, refl, sym, ap, ap₂, subst, ◌∙◌, arith}
use Rattle.memo_server.specs.declared.turn.Turn.TheVariants.{Made}
use Rattle.memo_server.specs.Views.{EntryView, at_live, pinned_view}
use Rattle.memo_server.specs.Asks.{same_event, other_event}
use Rattle.memo_core.specs.declared.event.Event.{Event}
use Rattle.memo_server.specs.Calls.{IsLiveEntry}
use Rattle.memo_server.proofs.Places.{update-live, place-within}
use Rattle.memo_server.proofs.Entries.{keys-update, total-pinned}
use Rattle.memo_server.proofs.Steps.{added, rising-from, keeps-step, met-entry, event-other, event-same, live-entry}
use Rattle.memo_server.proofs.shard.Shard.meet.Goals as goal

pub invariant_of-self-then-not-same : goal.invariant_of-self-then-not-same
invariant_of-self-then-not-same g c =
    let f = c.in-Some.ensures in
    let same = met-entry c.self.inside.live c.in-Some.place c.args.digest f.0 c.in_ok-entry.entry c.in_ok-entry.ensures.same f.1 in
    keeps-step _ _ _ _ _ _ _ c.other_event.result c.self.invariant (added _ _ _ _ c.add.ensures.0 c.reserve.ensures.same.0)
    (event-other c.args.asked c.self.inside.live c.self.inside.next c.args.caller c.args.run c.args.digest c.in-Some.place f.0 c.in_ok-entry.entry c.id-id.result c.other_event.result f.1 same c.id-id.ensures c.other_event.ensures)
    c.self.invariant.keys c.self.invariant.pins_are (omega (arith, c.add.ensures.2, c.in_ok-reserve.ensures.ok))

pub returns-then-not-same-clause-answer : goal.returns-then-not-same-clause-answer
returns-then-not-same-clause-answer g c =
    let f = c.in-Some.ensures in
    let same = met-entry c.self.inside.live c.in-Some.place c.args.digest f.0 c.in_ok-entry.entry c.in_ok-entry.ensures.same f.1 in
    let event : c.other_event.result ≡ other_event c.args.asked c.args.caller c.args.run (g.R.Recipe.digest_of c.args.input.now) c.in_ok-entry.entry.id = c.other_event.ensures ∙ ap₂ (λ (d : List ℕ) (i : ℕ). other_event c.args.asked c.args.caller c.args.run d i) c.requires c.id-id.ensures in
    rw (← c.self.view_is) (
      subst (λ (d : List ℕ). IsLiveEntry g.R.Recipe.fits g.R.Recipe.digest_of d c.in_ok-entry.entry (record { live = c.self.inside.live; next = c.self.inside.next; history = c.self.inside.log.history; turns = c.self.inside.log.turns })) c.requires (live-entry g.R.Recipe.fits g.R.Recipe.digest_of (record { live = c.self.inside.live; next = c.self.inside.next; history = c.self.inside.log.history; turns = c.self.inside.log.turns }) c.in-Some.place c.args.digest f.0 c.in_ok-entry.entry c.self.invariant.keys f.1 f.2 same c.in_ok-entry.ensures.fits),
      (λ equal. absurd (let no = c.if-not-same.true in let yes = c.same.ensures.1 (c.input.ensures ∙ equal) in cc)),
      record {
        adds = record {
          history = added _ _ _ _ c.add.ensures.0 c.reserve.ensures.same.0 ∙ ap (λ (e : Event). c.self.inside.log.history ++ e ∷ []) event;
          turns = added _ _ _ _ c.add.ensures.1 c.reserve.ensures.same.1 ∙ ap (λ (e : Event). c.self.inside.log.turns ++ Made e ∷ []) event;
          legal = event-other c.args.asked c.self.inside.live c.self.inside.next c.args.caller c.args.run c.args.digest c.in-Some.place f.0 c.in_ok-entry.entry c.in_ok-entry.entry.id _ f.1 same refl (ap (λ (d : List ℕ). other_event c.args.asked c.args.caller c.args.run d c.in_ok-entry.entry.id) (sym c.requires));
        };
        live = refl;
        next = refl;
      },
    )

pub pin-requires : goal.pin-requires
pin-requires g c = place-within c.self.inside.live c.in-Some.place (c.args.digest, c.in-Some.ensures.0) c.in-Some.ensures.1

pub overflow_add-self : goal.overflow_add-self
overflow_add-self g c = omega (arith, c.in_ok-reserve.ensures.fits)

pub invariant_of-self-2 : goal.invariant_of-self-2
invariant_of-self-2 g c =
    let f = c.in-Some.ensures in
    let same = met-entry c.self.inside.live c.in-Some.place c.args.digest f.0 c.in_ok-entry.entry c.in_ok-entry.ensures.same f.1 in
    let rising = rising-from c.self.inside.log.history c.self.inside.live c.self.inside.next c.self.invariant.replays in
    keeps-step _ _ _ _ _ _ _ c.same_event.result c.self.invariant (added _ _ _ _ c.add-2.ensures.0 c.reserve.ensures.same.0)
    (rw c.in_ok-pin.ensures.ok (event-same c.args.asked c.self.inside.live c.self.inside.next c.args.caller c.args.run c.args.digest c.in-Some.place f.0 c.in_ok-entry.entry c.id-id.result c.same_event.result rising f.1 same c.id-id.ensures c.same_event.ensures))
    (rw c.in_ok-pin.ensures.ok (keys-update g.R.Recipe.digest_of (pinned_view c.args.caller c.args.run) (λ _. refl) c.self.inside.live c.in-Some.place c.self.invariant.keys))
    (rw c.in_ok-pin.ensures.ok (ap (λ (n : ℕ). n + 1) c.self.invariant.pins_are ∙ sym (total-pinned c.args.caller c.args.run c.self.inside.live c.in-Some.place (place-within c.self.inside.live c.in-Some.place (c.args.digest, f.0) f.1))))
    (omega (arith, c.add-2.ensures.2, c.in_ok-reserve.ensures.ok))

pub returns-clause-answer : goal.returns-clause-answer
returns-clause-answer g c =
    let f = c.in-Some.ensures in
    let same = met-entry c.self.inside.live c.in-Some.place c.args.digest f.0 c.in_ok-entry.entry c.in_ok-entry.ensures.same f.1 in
    let rising = rising-from c.self.inside.log.history c.self.inside.live c.self.inside.next c.self.invariant.replays in
    let event : c.same_event.result ≡ same_event c.args.asked c.args.caller c.args.run (g.R.Recipe.digest_of c.args.input.now) c.in_ok-entry.entry.id = c.same_event.ensures ∙ ap₂ (λ (d : List ℕ) (i : ℕ). same_event c.args.asked c.args.caller c.args.run d i) c.requires c.id-id.ensures in
    let here : c.pin.new.self ≡ at_live c.in_ok-entry.entry.id (pinned_view c.args.caller c.args.run) c.self.inside.live = c.in_ok-pin.ensures.ok ∙ update-live (pinned_view c.args.caller c.args.run) c.self.inside.live c.in-Some.place c.args.digest f.0 rising f.1 ∙ ap (λ (e : EntryView _ _). at_live e.id (pinned_view c.args.caller c.args.run) c.self.inside.live) (sym same) in
    rw (← c.self.view_is) (
      subst (λ (d : List ℕ). IsLiveEntry g.R.Recipe.fits g.R.Recipe.digest_of d c.in_ok-entry.entry (record { live = c.self.inside.live; next = c.self.inside.next; history = c.self.inside.log.history; turns = c.self.inside.log.turns })) c.requires (live-entry g.R.Recipe.fits g.R.Recipe.digest_of (record { live = c.self.inside.live; next = c.self.inside.next; history = c.self.inside.log.history; turns = c.self.inside.log.turns }) c.in-Some.place c.args.digest f.0 c.in_ok-entry.entry c.self.invariant.keys f.1 f.2 same c.in_ok-entry.ensures.fits),
      sym c.input.ensures ∙ c.same.ensures.0 c.if-not-same.false,
      record {
        adds = record {
          history = added _ _ _ _ c.add-2.ensures.0 c.reserve.ensures.same.0 ∙ ap (λ (e : Event). c.self.inside.log.history ++ e ∷ []) event;
          turns = added _ _ _ _ c.add-2.ensures.1 c.reserve.ensures.same.1 ∙ ap (λ (e : Event). c.self.inside.log.turns ++ Made e ∷ []) event;
          legal = rw c.in_ok-pin.ensures.ok (event-same c.args.asked c.self.inside.live c.self.inside.next c.args.caller c.args.run c.args.digest c.in-Some.place f.0 c.in_ok-entry.entry c.in_ok-entry.entry.id _ rising f.1 same refl (ap (λ (d : List ℕ). same_event c.args.asked c.args.caller c.args.run d c.in_ok-entry.entry.id) (sym c.requires)));
        };
        live = here;
        next = refl;
      },
    )

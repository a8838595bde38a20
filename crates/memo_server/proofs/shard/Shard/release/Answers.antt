use Rattle.std.proofs.Common.{◌≡◌, ℕ, true, refl, sym, ap, subst, ◌∙◌, arith}
use Rattle.std.specs.List.{list_any}
use Rattle.memo_core.specs.declared.event.Event.TheVariants.{Release}
use Rattle.memo_core.specs.Machine.{has_pin}
use Rattle.memo_server.specs.Views.{at_live, released_view, core_entries}
use Rattle.memo_server.specs.Shards.{ShardView}
use Rattle.memo_server.proofs.Places.{rising-places, update-live, place-within}
use Rattle.memo_server.proofs.Entries.{pin-at, keys-update, total-released}
use Rattle.memo_server.proofs.Steps.{rising-from, keeps-step, pin-here, event-released}
use Rattle.memo_server.proofs.shard.Shard.release.Goals as goal

pub place_of-place-requires-clause-rising : goal.place_of-place-requires-clause-rising
place_of-place-requires-clause-rising g c = rising-places c.self.inside.live (rising-from c.self.inside.log.history c.self.inside.live c.self.inside.next c.self.invariant.replays)

pub place_of-place-requires-clause-live : goal.place_of-place-requires-clause-live
place_of-place-requires-clause-live g c =
    let has : list_any (has_pin c.args.caller c.args.id) (core_entries c.self.inside.live) ≡ true = subst (λ (v : ShardView _ _). list_any (has_pin c.args.caller c.args.id) (core_entries v.live) ≡ true) (sym c.self.view_is) c.requires in
    let pin = pin-at c.args.caller c.args.id c.self.inside.live has in
    (pin.0, pin.1, pin.2, pin.3, pin.4)

pub release-requires : goal.release-requires
release-requires g c = let p = c.place_of-place.ensures in place-within c.self.inside.live c.place_of-place.result (p.0, p.1) p.2

pub overflow_sub-self : goal.overflow_sub-self
overflow_sub-self g c =
    let has : list_any (has_pin c.args.caller c.args.id) (core_entries c.self.inside.live) ≡ true = subst (λ (v : ShardView _ _). list_any (has_pin c.args.caller c.args.id) (core_entries v.live) ≡ true) (sym c.self.view_is) c.requires in
    let rising = rising-from c.self.inside.log.history c.self.inside.live c.self.inside.next c.self.invariant.replays in
    let p = c.place_of-place.ensures in
    omega (arith, c.self.invariant.pins_are, total-released c.args.caller c.self.inside.live c.place_of-place.result p.0 p.1 p.2 (pin-here c.args.caller c.args.id c.self.inside.live c.place_of-place.result p.0 p.1 rising has p.2 p.3))

pub add-requires : goal.add-requires
add-requires g c =
    let has : list_any (has_pin c.args.caller c.args.id) (core_entries c.self.inside.live) ≡ true = subst (λ (v : ShardView _ _). list_any (has_pin c.args.caller c.args.id) (core_entries v.live) ≡ true) (sym c.self.view_is) c.requires in
    let rising = rising-from c.self.inside.log.history c.self.inside.live c.self.inside.next c.self.invariant.replays in
    let p = c.place_of-place.ensures in
    omega (arith, c.self.invariant.pins_are, c.self.invariant.room, total-released c.args.caller c.self.inside.live c.place_of-place.result p.0 p.1 p.2 (pin-here c.args.caller c.args.id c.self.inside.live c.place_of-place.result p.0 p.1 rising has p.2 p.3))

pub invariant_of-self : goal.invariant_of-self
invariant_of-self g c =
    let has : list_any (has_pin c.args.caller c.args.id) (core_entries c.self.inside.live) ≡ true = subst (λ (v : ShardView _ _). list_any (has_pin c.args.caller c.args.id) (core_entries v.live) ≡ true) (sym c.self.view_is) c.requires in
    let rising = rising-from c.self.inside.log.history c.self.inside.live c.self.inside.next c.self.invariant.replays in
    let p = c.place_of-place.ensures in
    let total = total-released c.args.caller c.self.inside.live c.place_of-place.result p.0 p.1 p.2 (pin-here c.args.caller c.args.id c.self.inside.live c.place_of-place.result p.0 p.1 rising has p.2 p.3) in
    keeps-step _ _ _ _ _ _ _ (Release c.args.caller c.args.id) c.self.invariant c.add.ensures.0
    (rw c.release.ensures (event-released c.self.inside.live c.self.inside.next c.args.caller c.args.id c.place_of-place.result p.0 p.1 rising has p.2 p.3))
    (rw c.release.ensures (keys-update g.R.Recipe.digest_of (released_view c.args.caller) (λ _. refl) c.self.inside.live c.place_of-place.result c.self.invariant.keys))
    (rw c.release.ensures (omega (arith, c.self.invariant.pins_are, total)))
    (omega (arith, c.add.ensures.2, c.self.invariant.room))

pub returns : goal.returns
returns g c =
    let has : list_any (has_pin c.args.caller c.args.id) (core_entries c.self.inside.live) ≡ true = subst (λ (v : ShardView _ _). list_any (has_pin c.args.caller c.args.id) (core_entries v.live) ≡ true) (sym c.self.view_is) c.requires in
    let rising = rising-from c.self.inside.log.history c.self.inside.live c.self.inside.next c.self.invariant.replays in
    let p = c.place_of-place.ensures in
    rw (← c.self.view_is) (record {
      adds = record {
        history = c.add.ensures.0;
        turns = c.add.ensures.1;
        legal = rw c.release.ensures (event-released c.self.inside.live c.self.inside.next c.args.caller c.args.id c.place_of-place.result p.0 p.1 rising has p.2 p.3);
      };
      live = c.release.ensures ∙ update-live (released_view c.args.caller) c.self.inside.live c.place_of-place.result p.0 p.1 rising p.2 ∙ ap (λ (j : ℕ). at_live j (released_view c.args.caller) c.self.inside.live) p.3;
      next = refl;
    })

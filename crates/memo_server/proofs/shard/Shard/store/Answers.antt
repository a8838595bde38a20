use Rattle.std.proofs.Common.{◌≡◌, ℕ, ◌+◌, ◌-◌, ◌^◌, ◌<◌, [], ◌∷◌, ◌++◌, None, refl, sym, ap, subst, ◌∙◌, arith}
use Rattle.memo_core.specs.declared.event.Event.TheVariants.{Keep}
use Rattle.memo_core.specs.declared.event.KeepAnswer.TheVariants.{Stored}
use Rattle.memo_server.specs.declared.turn.Turn.TheVariants.{Made}
use Rattle.memo_server.specs.Views.{LiveView, EntryView, entry_view, live_view, found}
use Rattle.memo_server.specs.Shards.{ShardView}
use Rattle.memo_server.proofs.Entries.{keys-append, total-append}
use Rattle.memo_server.proofs.Steps.{added, keeps-step, legal-stored}
use Rattle.memo_server.proofs.shard.Shard.store.Goals as goal

pub overflow_add-self-2 : goal.overflow_add-self-2
overflow_add-self-2 g c = omega (arith, c.in_default.ensures.fits)

pub invariant_of-self-2 : goal.invariant_of-self-2
invariant_of-self-2 g c =
    let none : found c.args.digest c.self.inside.live ≡ None = subst (λ (v : ShardView _ _). found c.args.digest v.live ≡ None) (sym c.self.view_is) c.requires.absent in
    let next : c.self.inside.next < 2 ^ 64 - 1 = subst (λ (v : ShardView _ _). v.next < 2 ^ 64 - 1) (sym c.self.view_is) c.requires.next in
    let own = c.in-Ok.ensures in
    let live : c.push.new.self ≡ c.self.inside.live ++ (c.args.digest, live_view (entry_view c.self.inside.next c.args.input own.0) c.args.run (c.args.caller ∷ [])) ∷ [] = c.in_default-push.ensures.ok ∙ ap (λ (l : LiveView _ _). c.self.inside.live ++ (c.args.digest, l) ∷ []) own.2 in
    keeps-step _ _ _ _ _ _ _ (Keep c.args.caller c.args.run c.args.digest (Stored c.self.inside.next)) c.self.invariant (added _ _ _ _ c.add.ensures.0 c.reserve.ensures.same.0)
    (rw live (legal-stored c.self.inside.live c.self.inside.next c.args.caller c.args.run c.args.digest c.args.input own.0 none next))
    (rw live (keys-append g.R.Recipe.digest_of c.self.inside.live (c.args.digest, live_view (entry_view c.self.inside.next c.args.input own.0) c.args.run (c.args.caller ∷ [])) c.self.invariant.keys (sym c.requires.digest)))
    (rw live (ap (λ (n : ℕ). n + 1) c.self.invariant.pins_are ∙ sym (total-append c.self.inside.live (c.args.digest, live_view (entry_view c.self.inside.next c.args.input own.0) c.args.run (c.args.caller ∷ [])))))
    (omega (arith, c.add.ensures.2, c.in_default.ensures.ok))

pub returns-clause-ok : goal.returns-clause-ok
returns-clause-ok g c =
    let none : found c.args.digest c.self.inside.live ≡ None = subst (λ (v : ShardView _ _). found c.args.digest v.live ≡ None) (sym c.self.view_is) c.requires.absent in
    let next : c.self.inside.next < 2 ^ 64 - 1 = subst (λ (v : ShardView _ _). v.next < 2 ^ 64 - 1) (sym c.self.view_is) c.requires.next in
    let own = c.in-Ok.ensures in
    let live : c.push.new.self ≡ c.self.inside.live ++ (c.args.digest, live_view (entry_view c.self.inside.next c.args.input own.0) c.args.run (c.args.caller ∷ [])) ∷ [] = c.in_default-push.ensures.ok ∙ ap (λ (l : LiveView _ _). c.self.inside.live ++ (c.args.digest, l) ∷ []) own.2 in
    let id : c.self.inside.next ≡ c.in-Ok-new.entry.id = sym (ap (λ (e : EntryView _ _). e.id) c.in-Ok-new.ensures.ok) in
    rw (← c.self.view_is) (record {
      same = c.in-Ok-new.ensures.ok;
      adds = record {
        history = added _ _ _ _ c.add.ensures.0 c.reserve.ensures.same.0 ∙ ap (λ (n : ℕ). c.self.inside.log.history ++ Keep c.args.caller c.args.run c.args.digest (Stored n) ∷ []) id;
        turns = added _ _ _ _ c.add.ensures.1 c.reserve.ensures.same.1 ∙ ap (λ (n : ℕ). c.self.inside.log.turns ++ Made (Keep c.args.caller c.args.run c.args.digest (Stored n)) ∷ []) id;
        legal = rw (live, ← id) (legal-stored c.self.inside.live c.self.inside.next c.args.caller c.args.run c.args.digest c.args.input own.0 none next);
      };
      copy = own.0;
      made = own.1;
      live = live;
      next = refl;
    })

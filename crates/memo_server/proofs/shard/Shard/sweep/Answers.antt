use Rattle.std.proofs.Common.{◌≡◌, ℕ, ◌-◌, not, List, length, filter, refl, sym, ap, ◌∙◌, arith}
use Rattle.memo_core.specs.declared.event.Event.TheVariants.{Sweep}
use Rattle.memo_server.specs.Views.{LiveView, is_stale}
use Rattle.memo_server.proofs.Entries.{keys-filter, total-swept, swept-count}
use Rattle.memo_server.proofs.Steps.{added, keeps-step, legal-swept}
use Rattle.memo_server.proofs.shard.Shard.sweep.Goals as goal

pub overflow_sub-dropped : goal.overflow_sub-dropped
overflow_sub-dropped g c =
    let swept : length c.sweep.new.self ≡ length (filter (λ (e : List ℕ × LiveView _ _). not (is_stale c.args.horizon e.1)) c.self.inside.live) = ap length c.sweep.ensures in
    omega (arith, c.len.ensures, c.len-before.ensures, swept, swept-count c.args.horizon c.self.inside.live)

pub invariant_of-self-2 : goal.invariant_of-self-2
invariant_of-self-2 g c =
    let swept : length c.sweep.new.self ≡ length (filter (λ (e : List ℕ × LiveView _ _). not (is_stale c.args.horizon e.1)) c.self.inside.live) = ap length c.sweep.ensures in
    let count : c.len-before.result - c.len.result ≡ length (filter (λ (e : List ℕ × LiveView _ _). is_stale c.args.horizon e.1) c.self.inside.live) = omega (arith, c.len.ensures, c.len-before.ensures, swept, swept-count c.args.horizon c.self.inside.live) in
    keeps-step _ _ _ _ _ _ _ (Sweep c.args.caller c.args.horizon (c.len-before.result - c.len.result)) c.self.invariant (added _ _ _ _ c.add.ensures.0 c.reserve.ensures.same.0)
    (rw c.sweep.ensures (legal-swept c.self.inside.live c.self.inside.next c.args.caller c.args.horizon (c.len-before.result - c.len.result) count))
    (rw c.sweep.ensures (keys-filter g.R.Recipe.digest_of (λ (e : List ℕ × LiveView _ _). not (is_stale c.args.horizon e.1)) c.self.inside.live c.self.invariant.keys))
    (rw c.sweep.ensures (c.self.invariant.pins_are ∙ sym (total-swept c.args.horizon c.self.inside.live)))
    (omega (arith, c.add.ensures.2, c.in_ok-reserve.ensures.ok))

pub returns-clause-answer : goal.returns-clause-answer
returns-clause-answer g c =
    let swept : length c.sweep.new.self ≡ length (filter (λ (e : List ℕ × LiveView _ _). not (is_stale c.args.horizon e.1)) c.self.inside.live) = ap length c.sweep.ensures in
    let count : c.len-before.result - c.len.result ≡ length (filter (λ (e : List ℕ × LiveView _ _). is_stale c.args.horizon e.1) c.self.inside.live) = omega (arith, c.len.ensures, c.len-before.ensures, swept, swept-count c.args.horizon c.self.inside.live) in
    rw (← c.self.view_is) (record {
      adds = record {
        history = added _ _ _ _ c.add.ensures.0 c.reserve.ensures.same.0;
        turns = added _ _ _ _ c.add.ensures.1 c.reserve.ensures.same.1;
        legal = rw c.sweep.ensures (legal-swept c.self.inside.live c.self.inside.next c.args.caller c.args.horizon (c.len-before.result - c.len.result) count);
      };
      live = c.sweep.ensures;
      count = count;
      next = refl;
    })

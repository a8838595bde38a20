use Rattle.std.proofs.Common.{◌≡◌, None, refl, sym, subst, arith}
use Rattle.memo_core.specs.declared.event.Event.TheVariants.{Look}
use Rattle.memo_core.specs.declared.event.LookAnswer.TheVariants.{Absent}
use Rattle.memo_server.specs.Views.{found}
use Rattle.memo_server.specs.Shards.{ShardView}
use Rattle.memo_server.proofs.Steps.{added, keeps-step, legal-absent}
use Rattle.memo_server.proofs.shard.Shard.note_absent.Goals as goal

pub invariant_of-self-2 : goal.invariant_of-self-2
invariant_of-self-2 g c =
    let none : found c.args.digest c.self.inside.live ≡ None = subst (λ (v : ShardView _ _). found c.args.digest v.live ≡ None) (sym c.self.view_is) c.requires in
    keeps-step _ _ _ _ _ _ _ (Look c.args.caller c.args.run c.args.digest Absent) c.self.invariant (added _ _ _ _ c.add.ensures.0 c.reserve.ensures.same.0)
    (legal-absent c.self.inside.live c.self.inside.next c.args.caller c.args.run c.args.digest none) c.self.invariant.keys c.self.invariant.pins_are (omega (arith, c.add.ensures.2, c.in_ok-reserve.ensures.ok))

pub returns-clause-ok : goal.returns-clause-ok
returns-clause-ok g c =
    let none : found c.args.digest c.self.inside.live ≡ None = subst (λ (v : ShardView _ _). found c.args.digest v.live ≡ None) (sym c.self.view_is) c.requires in
    rw (← c.self.view_is) (record {
      adds = record {
        history = added _ _ _ _ c.add.ensures.0 c.reserve.ensures.same.0;
        turns = added _ _ _ _ c.add.ensures.1 c.reserve.ensures.same.1;
        legal = legal-absent c.self.inside.live c.self.inside.next c.args.caller c.args.run c.args.digest none;
      };
      live = refl;
      next = refl;
    })

use Rattle.std.proofs.Common.{◌≡◌, length, All, List, ap, sym, subst, ◌∙◌, arith}
use Rattle.std.proofs.lemmas.List.Elements.{All-push}
use Rattle.turn_lock.specs.Views.{LockView}
use Rattle.pin_table.specs.Views.{CallerView, with_lock}
use Rattle.pin_table.proofs.Places.{length-mapped}
use Rattle.pin_table.proofs.Newcomers.{numbers-of, newcomers-more}
use Rattle.pin_table.proofs.memo.Memo.starting_at.Goals as goal

pub lock_for-requires-clause-numbers : goal.lock_for-requires-clause-numbers
lock_for-requires-clause-numbers g c = numbers-of _ _ c.shards.invariant.fresh

pub shards-preserved : goal.shards-preserved
shards-preserved g c =
    let i = c.shards.invariant in let p = c.push_reserved.ensures in let l = c.in_ok-lock.ensures in
    let many = ap (λ (cs : List CallerView). length cs) l.callers ∙ length-mapped (with_lock c.in_ok-lock.lock.id) c.shards.all.items in
    record {
      count = omega (arith, p.len, i.count);
      room = p.capacity ∙ i.room;
      callers = omega (arith, many, i.callers, c.lock_for.new.all.ok.0, c.shards.all.ok.0);
      each = subst (All (λ (k : LockView). (k.start ≡ c.args.n) × (k.callers ≡ c.args.callers))) (sym p.items) (All-push (λ (k : LockView). (k.start ≡ c.args.n) × (k.callers ≡ c.args.callers)) c.shards.locks.items c.in_ok-lock.lock i.each (l.lock.0, l.lock.1 ∙ i.callers));
      fresh = newcomers-more c.shards.locks.items c.push_reserved.new.self.items c.in_ok-lock.lock c.shards.all.items c.lock_for.new.all.items p.items l.callers i.fresh;
    }

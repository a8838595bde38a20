use Rattle.std.proofs.Common.{rules, ◌≡◌, ℕ, ◌+◌, ◌≤◌, [], length, map, vec_len, vec_capacity, Some, None, List, slice_get, refl, ap, sym, subst, ◌∙◌, arith}
use Rattle.std.proofs.lemmas.List.Elements.{All-pop}
use Rattle.turn_lock.specs.Views.{LockView}
use Rattle.pin_table.specs.Ends.{ShardCloses}
use Rattle.pin_table.proofs.Places.{length-mapped}
use Rattle.pin_table.proofs.Handed.{Cuts, cuts-start, gives-lengths, some-left, locks-left, lock-there, cuts-left, passes-of, each-closes, all-locks}
use Rattle.pin_table.proofs.closing.close_all.Goals as goal

pub locks-init : goal.locks-init
locks-init g c = record {
  locks = sym (all-locks c.args.locks.items _ c.args.locks.ok.0);
  within = omega arith;
  rows = c.requires.rows;
  callers = refl;
  cuts = subst (λ (k : ℕ). Cuts (map (λ k. k.id) c.args.locks.items) k c.args.callers.items c.args.callers.items) (length-mapped (λ (k : LockView). k.id) c.args.locks.items ∙ sym c.args.locks.ok.0) (cuts-start (map (λ k. k.id) c.args.locks.items) c.args.callers.items c.requires.of);
  count = (let none = ap (λ (l : List _). length l) c.requires.shards.0 in omega (arith, none, c.args.shards.ok.0));
  room = c.requires.shards.1;
  each = λ j k shard lock at. absurd (let none : None ≡ Some shard = sym (ap (λ (l : List _). slice_get l j) c.requires.shards.0) ∙ at in cc);
}

pub gather-requires-clause-row : goal.gather-requires-clause-row
gather-requires-clause-row g c =
    let i = c.locks.invariant in
    let row = (All-pop (λ row. (row.items ≡ []) × (vec_len c.args.callers ≤ vec_capacity row)) c.locks.rows.items c.pop-in-Some.new.self.items (Some c.in-Some-pop.row) c.in-Some-pop.ensures.items i.rows.1).1 in
    (row.0, (let room = row.1 in omega (arith, room, i.callers)))

pub gather-requires-clause-some : goal.gather-requires-clause-some
gather-requires-clause-some g c =
    let i = c.locks.invariant in let one = c.in-Some.ensures.len in
    some-left (map (λ k. k.id) c.args.locks.items) (vec_len c.locks.locks) c.args.callers.items c.locks.callers.items (omega (arith, one)) (let many = length-mapped (λ (k : LockView). k.id) c.args.locks.items in omega (arith, i.within, c.args.locks.ok.0, many)) i.cuts

pub close-shard-requires-clause-of : goal.close-shard-requires-clause-of
close-shard-requires-clause-of g c =
    let i = c.locks.invariant in
    passes-of c.args.locks.items c.locks.locks.items c.pop.new.self.items c.in-Some.lock (vec_len c.locks.locks) (vec_len c.pop.new.self) c.in-Some.ensures.len (omega (arith, i.within, c.args.locks.ok.0)) i.locks c.in-Some.ensures.items c.args.callers.items c.locks.callers.items c.gather.new.callers.items c.gather.result.items i.cuts c.gather.ensures

pub close-shard-requires-clause-all : goal.close-shard-requires-clause-all
close-shard-requires-clause-all g c =
    let i = c.locks.invariant in let one = c.in-Some.ensures.len in
    let lengths = gives-lengths c.locks.callers.items c.gather.new.callers.items c.gather.result.items c.gather.ensures in
    let there = lock-there c.args.locks.items c.locks.locks.items c.pop.new.self.items c.in-Some.lock (vec_len c.locks.locks) (vec_len c.pop.new.self) one (omega (arith, i.within, c.args.locks.ok.0)) i.locks c.in-Some.ensures.items in
    let callers = ap (λ (l : LockView). l.callers) there ∙ c.requires.all (vec_len c.pop.new.self) c.in-Some.lock (omega (arith, one, i.within, c.args.locks.ok.0)) in
    let many = lengths.1 in
    omega (arith, callers, many, i.callers, c.gather.result.ok.0, c.locks.callers.ok.0)

pub locks-preserved : goal.locks-preserved
locks-preserved g c =
    let i = c.locks.invariant in let one = c.in-Some.ensures.len in
    let within : vec_len c.locks.locks ≤ length c.args.locks.items = omega (arith, i.within, c.args.locks.ok.0) in
    let lengths = (gives-lengths c.locks.callers.items c.gather.new.callers.items c.gather.result.items c.gather.ensures).0 in
    record {
      locks = locks-left c.args.locks.items c.locks.locks.items c.pop.new.self.items c.in-Some.lock (vec_len c.locks.locks) (vec_len c.pop.new.self) one within i.locks c.in-Some.ensures.items;
      within = omega (arith, one, i.within);
      rows = ((let rows = c.in-Some-pop.ensures.len in let same = i.rows.0 in omega (arith, one, rows, same)), (All-pop (λ row. (row.items ≡ []) × (vec_len c.args.callers ≤ vec_capacity row)) c.locks.rows.items c.pop-in-Some.new.self.items (Some c.in-Some-pop.row) c.in-Some-pop.ensures.items i.rows.1).0);
      callers = omega (arith, lengths, i.callers, c.gather.new.callers.ok.0, c.locks.callers.ok.0);
      cuts = cuts-left c.args.locks.items c.locks.locks.items c.pop.new.self.items c.in-Some.lock (vec_len c.locks.locks) (vec_len c.pop.new.self) one within i.locks c.in-Some.ensures.items c.args.callers.items c.locks.callers.items c.gather.new.callers.items c.gather.result.items i.cuts c.gather.ensures;
      count = (let more = c.in-Ok.ensures.len in omega (arith, more, one, i.count));
      room = (search rules);
      each = each-closes c.args.locks.items c.locks.locks.items c.pop.new.self.items c.in-Some.lock (vec_len c.locks.locks) (vec_len c.pop.new.self) one within i.locks c.in-Some.ensures.items c.args.callers.items c.locks.callers.items c.gather.new.callers.items c.gather.result.items i.cuts c.gather.ensures
          c.close-shard.result c.locks.shards.items c.insert.new.self.items c.history.ensures.of c.close-shard.ensures c.in-Ok.ensures.items i.each;
    }

pub returns : goal.returns
returns g c =
    let i = c.locks.invariant in
    let none = c.in_default.ensures.cases in
    let zero_is : vec_len c.locks.locks ≡ 0 = none.0 in
    record {
      count = omega (arith, zero_is, i.count, c.locks.shards.ok.0, c.args.locks.ok.0);
      each = λ s k shard lock at. (let here : vec_len c.locks.locks + s ≡ s = omega (arith, zero_is) in
          subst (λ (j : ℕ). ShardCloses k.start j shard c.args.callers.items) here (i.each s k shard (ap (slice_get c.args.locks.items) here ∙ lock) at));
    }

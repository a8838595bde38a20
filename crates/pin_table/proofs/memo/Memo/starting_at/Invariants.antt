use Rattle.std.proofs.Common.{◌≡◌, All, map, vec_len, vec_capacity}
use Rattle.pin_table.specs.Ends.{AreNewcomers}
use Rattle.pin_table.proofs.memo.Memo.starting_at.Given as goal

abbrev pub invariant-shards : goal.invariant-shards
invariant-shards g l = record {
  count : vec_len l.locks ≡ l.counter;
  room : vec_capacity l.locks ≡ l.shards;
  callers : vec_len l.all ≡ l.callers;
  each : All (λ k. (k.start ≡ l.n) × (k.callers ≡ l.callers)) l.locks.items;
  fresh : AreNewcomers (map (λ k. k.id) l.locks.items) l.all.items;
}

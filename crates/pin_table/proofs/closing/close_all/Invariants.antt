use Rattle.std.proofs.Common.{◌≡◌, ℕ, ◌+◌, ◌≤◌, [], take, map, All, Some, slice_get, vec_len, vec_capacity}
use Rattle.turn_lock.specs.Views.{LockView}
use Rattle.memo_server.specs.Shards.{ShardView}
use Rattle.pin_table.specs.Ends.{ShardCloses}
use Rattle.pin_table.proofs.Handed.{Cuts}
use Rattle.pin_table.proofs.closing.close_all.Given as goal

abbrev pub invariant-locks : goal.invariant-locks
invariant-locks g l = record {
  locks : l.locks.items ≡ take (vec_len l.locks) l.initial.locks.items;
  within : vec_len l.locks ≤ vec_len l.initial.locks;
  rows : (vec_len l.rows ≡ vec_len l.locks) × All (λ row. (row.items ≡ []) × (vec_len l.initial.callers ≤ vec_capacity row)) l.rows.items;
  callers : vec_len l.callers ≡ vec_len l.initial.callers;
  cuts : Cuts (map (λ k. k.id) l.initial.locks.items) (vec_len l.locks) l.initial.callers.items l.callers.items;
  count : vec_len l.shards + vec_len l.locks ≡ vec_len l.initial.locks;
  room : vec_len l.initial.locks ≤ vec_capacity l.shards;
  each : (j : ℕ) (k : LockView) (shard : ShardView _ _) → slice_get l.initial.locks.items (vec_len l.locks + j) ≡ Some k → slice_get l.shards.items j ≡ Some shard → ShardCloses k.start (vec_len l.locks + j) shard l.initial.callers.items;
}

abbrev pub decreases-locks : goal.decreases-locks
decreases-locks g l = vec_len l.locks

-- The beginning and the end of a memo.
use Rattle.std.specs.Prelude.{◌≡◌, ℕ, ◌+◌, ◌≤◌, List, ◌++◌, length, slice_get, All, Some}
use Rattle.atomic_table.specs.Seated.{TableId}
use Rattle.memo_core.specs.declared.event.Event.{Event}
use Rattle.memo_server.specs.Shards.{ShardView}
use Rattle.memo_server.specs.Callers.{caller_of, own}
use Rattle.pin_table.specs.Views.{MemoView, CallerView, newcomer}
use Rattle.pin_table.specs.Known.{known_at}

-- The callers are numbered by their places, and have played no turn at these locks.
abbrev pub AreNewcomers : List TableId → List CallerView → Type 0
AreNewcomers locks cs = (i : ℕ) (c : CallerView) → slice_get cs i ≡ Some c → c ≡ newcomer locks i

-- A new memo with its callers.
pub record Starts (start shards callers : ℕ) (m : MemoView) (cs : List CallerView) : Type 0 where
  pub shards_are : length m.locks ≡ shards
  pub start_is : m.start ≡ start
  pub callers_are : m.callers ≡ callers
  pub count : length cs ≡ callers
  pub of : All (λ c. c.locks ≡ m.locks) cs
  pub fresh : AreNewcomers m.locks cs

module _ {I O : Type 0} where
  -- The shard's history begins with what the caller has seen of it, the caller's events of it are its own, and the shown number is at most the start and the turns.
  pub record CallerCloses (start s : ℕ) (shard : ShardView I O) (c : CallerView) : Type 0 where
    pub rest : List Event
    pub seen : shard.history ≡ (known_at s c).seen ++ rest
    pub mine : own c.number shard.history ≡ (known_at s c).mine
    pub shown : (known_at s c).shown ≤ start + length shard.turns

  -- The same for each caller; one of them has seen all of it; and each event is that of one of them.
  pub record ShardCloses (start s : ℕ) (shard : ShardView I O) (cs : List CallerView) : Type 0 where
    pub each : (i : ℕ) (c : CallerView) → slice_get cs i ≡ Some c → CallerCloses start s shard c
    pub last : (i : ℕ) × (c : CallerView) × (slice_get cs i ≡ Some c) × ((known_at s c).seen ≡ shard.history)
    pub whose : (k : ℕ) (e : Event) → slice_get shard.history k ≡ Some e → (i : ℕ) × (c : CallerView) × (slice_get cs i ≡ Some c) × (c.number ≡ caller_of e)

  -- A closed memo: its shards in their order.
  pub record Closes (m : MemoView) (cs : List CallerView) (shards : List (ShardView I O)) : Type 0 where
    pub count : length shards ≡ length m.locks
    pub each : (s : ℕ) (shard : ShardView I O) → slice_get shards s ≡ Some shard → ShardCloses m.start s shard cs

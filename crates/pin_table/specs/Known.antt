-- How a caller's knowledge goes on.
use Rattle.std.specs.Prelude.{◌≡◌, ℕ, ◌^◌, ◌<◌, ◌≤◌, ◌⊎◌, List, [], ◌∷◌, ◌++◌, length, slice_get, slice_set, slice_index_or, Some, IsSome}
use Rattle.memo_core.specs.declared.event.Event.{Event}
use Rattle.memo_core.specs.declared.state.CoreState.{CoreState}
use Rattle.memo_core.specs.Machine.{replayed, after_event}
use Rattle.memo_core.specs.History.{held}
use Rattle.memo_server.specs.Callers.{caller_of, own}
use Rattle.pin_table.specs.Views.{ShardKnown, CallerView, nothing}

-- What a caller has seen of a shard is a legal history, its own events are those under its number, and a shown number
-- is 2^62 or more.
pub record KnownFits (number : ℕ) (k : ShardKnown) : Type 0 where
  pub legal : IsSome (replayed k.seen)
  pub same : own number k.seen ≡ k.mine
  pub shown : (k.shown ≡ 0) ⊎ (2 ^ 62 ≤ k.shown)

-- The same for each of its shards, of which there are as many as locks.
pub record CallerFits (c : CallerView) : Type 0 where
  pub each : (s : ℕ) (k : ShardKnown) → slice_get c.shards s ≡ Some k → KnownFits c.number k
  pub count : length c.shards ≡ length c.locks

-- Events of others were seen, and then this one of the caller's, which is legal in the state after all before it.
pub record Gained (number : ℕ) (e : Event) (old new : ShardKnown) : Type 0 where
  pub between : List Event
  pub state : CoreState
  pub after : CoreState
  pub seen : new.seen ≡ (old.seen ++ between) ++ e ∷ []
  pub others : own number between ≡ []
  pub caller : caller_of e ≡ number
  pub replayed : replayed (old.seen ++ between) ≡ Some state
  pub legal : after_event state e ≡ Some after
  pub mine : new.mine ≡ old.mine ++ e ∷ []
  pub shown : new.shown ≡ old.shown

-- Possibly events of others were seen, and nothing else changed.
pub record Missed (number : ℕ) (old new : ShardKnown) : Type 0 where
  pub between : List Event
  pub seen : new.seen ≡ old.seen ++ between
  pub others : own number between ≡ []
  pub legal : IsSome (replayed new.seen)
  pub mine : new.mine ≡ old.mine
  pub shown : new.shown ≡ old.shown

-- The call's check found this number, 2^62 or more, which is now shown, and nothing else changed.
pub record WornOut (ticket : ℕ) (old new : ShardKnown) : Type 0 where
  pub limit : 2 ^ 62 ≤ ticket
  pub seen : new.seen ≡ old.seen
  pub mine : new.mine ≡ old.mine
  pub shown : new.shown ≡ ticket

-- What the caller knows of the shard.
abbrev pub known_at : ℕ → CallerView → ShardKnown
known_at s c = slice_index_or c.shards s nothing

-- How many pins of the shard's id the caller holds.
abbrev pub held_at : ℕ → ℕ → CallerView → ℕ
held_at s id c = held c.number id (known_at s c).mine

-- The caller's knowledge of one shard went on in this way, and everything else is unchanged.
pub record AtShard (Goes : ShardKnown → ShardKnown → Type 0) (s : ℕ) (old new : CallerView) : Type 0 where
  pub next : ShardKnown
  pub inside : s < length old.shards
  pub goes : Goes (known_at s old) next
  pub same : new ≡ record old { shards = slice_set old.shards s next }

-- The caller was shown that the shard's lock is worn.
abbrev pub IsWorn : ℕ → CallerView → Type 0
IsWorn s c = 2 ^ 62 ≤ (known_at s c).shown

-- The models of a memo, of a caller and of a pin.
use Rattle.std.specs.Prelude.{◌≡◌, ℕ, ◌^◌, nat_lt, if◌then◌else◌, List, [], ◌∷◌, ◌++◌, map}
use Rattle.atomic_table.specs.Seated.{TableId}
use Rattle.turn_lock.specs.declared.knowledge.Known.{Known}
use Rattle.turn_lock.specs.Under.{under}
use Rattle.memo_core.specs.declared.event.Event.{Event}
use Rattle.memo_server.specs.declared.turn.Turn.{Turn}
use Rattle.memo_server.specs.Callers.{whose, IsLegal}
use Rattle.memo_server.specs.Histories.{events}

-- A memo: the names of its locks, one for each shard, which no other memo has; the first ticket of each; and how many callers it was made with.
pub record MemoView : Type 0 where
  pub locks : List TableId
  pub start : ℕ
  pub callers : ℕ

-- What a caller knows of a shard: the events up to its last turn there, its own among them, and the last number of 2^62
-- or more that its checks found there, or 0.
pub record ShardKnown : Type 0 where
  pub seen : List Event
  pub mine : List Event
  pub shown : ℕ

-- A caller: its memo's locks, its number, and what it knows of each shard.
pub record CallerView : Type 0 where
  pub locks : List TableId
  pub number : ℕ
  pub shards : List ShardKnown

-- A pin: its caller, the shard and the id of its entry, and the entry's input and result.
pub record PinView (I O : Type 0) : Type 0 where
  pub caller : ℕ
  pub shard : ℕ
  pub id : ℕ
  pub input : I
  pub out : O

-- Before the first turn.
abbrev pub nothing : ShardKnown
nothing = record { seen = []; mine = []; shown = 0 }

-- What a pass knows, without the turns that ran out of memory.
abbrev pub known_of : Known Turn → ShardKnown
known_of k = record { seen = events k.seen; mine = events k.mine; shown = if nat_lt k.read (2 ^ 62) then 0 else k.read }

-- A pass is under its caller's number, what it has seen is legal, and its own turns are those under its number.
pub record PassFits (number : ℕ) (k : Known Turn) : Type 0 where
  pub numbered : k.number ≡ number
  pub legal : IsLegal k.seen
  pub same : under whose number k.seen ≡ k.mine

-- A caller that has played no turn.
abbrev pub newcomer : List TableId → ℕ → CallerView
newcomer locks number = record { locks = locks; number = number; shards = map (λ _. nothing) locks }

-- The caller with a pass at one more lock.
abbrev pub with_lock : TableId → CallerView → CallerView
with_lock id c = record { locks = c.locks ++ id ∷ []; number = c.number; shards = c.shards ++ nothing ∷ [] }

-- The steps of a close.
use Rattle.std.specs.Prelude.{◌≡◌, ℕ, List, [], ◌∷◌, ◌++◌, length, slice_get, Some}
use Rattle.turn_lock.specs.Views.{LockView, PassView}
use Rattle.memo_server.specs.declared.turn.Turn.{Turn}
use Rattle.memo_server.specs.Shards.{ShardView}
use Rattle.pin_table.specs.Views.{CallerView, known_of}
use Rattle.pin_table.specs.Ends.{ShardCloses}

-- A caller gave its last pass.
pub record GivesOne (old new : CallerView) (p : PassView Turn) : Type 0 where
  pub number : (new.number ≡ old.number) × (p.known.number ≡ old.number)
  pub locks : old.locks ≡ new.locks ++ p.lock ∷ []
  pub shards : old.shards ≡ new.shards ++ known_of p.known ∷ []
  pub count : length new.shards ≡ length new.locks

-- Each of the callers gave its last pass, in order.
abbrev pub Gives : List CallerView → List CallerView → List (PassView Turn) → Type 0
Gives [] [] [] = Unit {0}
Gives (c ∷ cs) (d ∷ ds) (p ∷ ps) = GivesOne c d p × Gives cs ds ps
Gives _ _ _ = ⊥

module _ {I O : Type 0} where
  -- The shards of the locks, each closed over what the callers know of it.
  pub record AllClose (locks : List LockView) (cs : List CallerView) (shards : List (ShardView I O)) : Type 0 where
    pub count : length shards ≡ length locks
    pub each : (s : ℕ) (l : LockView) (shard : ShardView I O) → slice_get locks s ≡ Some l → slice_get shards s ≡ Some shard → ShardCloses l.start s shard cs

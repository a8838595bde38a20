-- What the sweeps of a run add to the events of a collector.
use Rattle.std.specs.Prelude.{◌≡◌, ℕ, ◌<◌, ◌⊎◌, Bool, false, [], ◌∷◌, ◌++◌, length, Option, Some, None, Result, OnOk}
use Rattle.memo_core.specs.declared.event.Event.TheVariants.{Sweep}
use Rattle.pin_table.specs.Views.{CallerView, newcomer}
use Rattle.pin_table.specs.Known.{known_at, IsWorn}
use Rattle.pin_table.specs.Covers.{IsLater}
use Rattle.collector.specs.Collectors.{CollectorView}

-- The caller swept the shard once more at the horizon.
abbrev pub SweptOnce : ℕ → ℕ → CallerView → CallerView → Type 0
SweptOnce s horizon old new = (dropped : ℕ) × ((known_at s new).mine ≡ (known_at s old).mine ++ Sweep old.number horizon dropped ∷ [])

-- It swept it once, or not at all if it was shown that the shard's lock is worn.
abbrev pub SweptAt : ℕ → ℕ → CallerView → CallerView → Type 0
SweptAt s horizon old new = SweptOnce s horizon old new ⊎ (((known_at s new).mine ≡ (known_at s old).mine) × IsWorn s new)

-- It swept it at most once.
abbrev pub SweptAtMost : ℕ → ℕ → CallerView → CallerView → Type 0
SweptAtMost s horizon old new = SweptOnce s horizon old new ⊎ ((known_at s new).mine ≡ (known_at s old).mine)

-- It swept each shard in this way.
abbrev pub SweptAll : ℕ → CallerView → CallerView → Type 0
SweptAll horizon old new = (s : ℕ) → s < length old.locks → SweptAt s horizon old new

-- It swept each shard at most once.
abbrev pub SweptSome : ℕ → CallerView → CallerView → Type 0
SweptSome horizon old new = (s : ℕ) → s < length old.locks → SweptAtMost s horizon old new

-- A collector swept one shard, or failed, and what it knows of the others is unchanged.
pub record IsSweptAt {A E : Type 0} (horizon shard : ℕ) (old new : CollectorView) (result : Result A E) : Type 0 where
  pub keep : new.keep ≡ old.keep
  pub later : IsLater old.caller new.caller
  pub done : OnOk result (SweptAt shard horizon old.caller new.caller)
  pub some : SweptAtMost shard horizon old.caller new.caller
  pub others : (s : ℕ) → (s ≡ shard → ⊥) → known_at s new.caller ≡ known_at s old.caller

-- A collector swept all shards, or failed after some of them.
pub record IsSwept (horizon : ℕ) (old new : CollectorView) (failed : Bool) : Type 0 where
  pub keep : new.keep ≡ old.keep
  pub later : IsLater old.caller new.caller
  pub all : failed ≡ false → SweptAll horizon old.caller new.caller
  pub some : SweptSome horizon old.caller new.caller

-- The collector, if there is one.
abbrev pub swept_by : Option CollectorView → CollectorView
swept_by None = record { caller = newcomer [] 0; keep = 0 }
swept_by (Some c) = c

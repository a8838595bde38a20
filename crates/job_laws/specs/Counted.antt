-- Counts of calls, which stay at the end of their type, 2^64 - 1.
use Rattle.std.specs.Prelude.{ℕ, ◌+◌, ◌-◌, ◌^◌, ◌≤◌, min, max}
use Rattle.job_laws.specs.declared.meter.Counts.{Counts}

-- One more, up to 2^64 - 1.
abbrev pub risen : ℕ → ℕ
risen n = max n (min (n + 1) (2 ^ 64 - 1))

-- A number more, up to 2^64 - 1.
abbrev pub risen_by : ℕ → ℕ → ℕ
risen_by more n = max n (min (n + more) (2 ^ 64 - 1))

-- The counts after one map more.
abbrev pub one_map : Counts → Counts
one_map c = record c { maps = risen c.maps }

-- The counts after one merge more.
abbrev pub one_merge : Counts → Counts
one_merge c = record c { merges = risen c.merges }

-- The counts after one join more.
abbrev pub one_join : Counts → Counts
one_join c = record c { joins = risen c.joins }

-- The count did not decrease, and increased by at most `most`.
abbrev pub RoseWithin : ℕ → ℕ → ℕ → Type 0
RoseWithin most before now = (before ≤ now) × (now ≤ before + most)

-- No count decreased, and they increased by at most this many maps, merges and joins. If all three are 0, the counts
-- are unchanged.
pub record RoseBy (most_maps most_merges most_joins : ℕ) (old new : Counts) : Type 0 where
  pub maps : RoseWithin most_maps old.maps new.maps
  pub merges : RoseWithin most_merges old.merges new.merges
  pub joins : RoseWithin most_joins old.joins new.joins

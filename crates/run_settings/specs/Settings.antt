-- The limits of settings.
use Rattle.std.specs.Prelude.{ℕ, ◌≤◌}
use Rattle.definitions.specs.Limits.{most_parts, most_places}
use Rattle.run_settings.specs.declared.settings.Settings.{Settings}

-- The tasks that may be done at the same time.
abbrev pub most_workers : ℕ
most_workers = 16

-- The shards of a memo.
abbrev pub most_shards : ℕ
most_shards = 8

-- The runs for which a memo keeps what nothing uses.
abbrev pub most_keep : ℕ
most_keep = 1000

-- The numbers are within their limits.
pub record AreWithin (s : Settings) : Type 0 where
  pub parts : (1 ≤ s.parts) × (s.parts ≤ most_parts)
  pub workers : (1 ≤ s.workers) × (s.workers ≤ most_workers)
  pub shards : (1 ≤ s.shards) × (s.shards ≤ most_shards)
  pub keep : s.keep ≤ most_keep
  pub places : (1 ≤ s.places) × (s.places ≤ most_places)

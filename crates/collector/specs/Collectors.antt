-- The model of a collector, and the horizon of its sweeps.
use Rattle.std.specs.Prelude.{ℕ, ◌-◌}
use Rattle.pin_table.specs.Views.{CallerView}

-- A collector: its caller, and for how many runs an entry that nobody holds is kept.
pub record CollectorView : Type 0 where
  pub caller : CallerView
  pub keep : ℕ

-- The first run whose entries stay; 0 if there are fewer runs.
abbrev pub horizon_of : ℕ → ℕ → ℕ
horizon_of keep run = run - keep

-- Pins that a caller gets, and pins that are given up for others.
use Rattle.std.specs.Prelude.{◌≡◌, List}
use Rattle.pin_table.specs.Views.{CallerView}
use Rattle.pin_table.specs.Covers.{PinName, AreGiven, Balanced, Got}

-- The caller got these pins in addition, and events of its own gave them.
abbrev pub Gets : CallerView → List PinName → CallerView → Type 0
Gets old ps new = Got old ps new × AreGiven new ps

-- Pins were replaced by others: what the caller holds beyond them stayed, or grew at a worn lock, and events of its own
-- gave the new ones if they gave the old ones.
pub record Trades (old : CallerView) (ps : List PinName) (new : CallerView) (qs : List PinName) : Type 0 where
  pub balanced : Balanced old ps new qs
  pub given : AreGiven old ps → AreGiven new qs

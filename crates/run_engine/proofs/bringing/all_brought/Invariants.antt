use Rattle.std.proofs.Common.{◌≡◌, false, All, take}
use Rattle.run_engine.proofs.bringing.all_brought.Given as goal

abbrev pub invariant-lanes : goal.invariant-lanes
invariant-lanes g l = All (λ s. s.failed ≡ false) (take l.i l.lanes.items)

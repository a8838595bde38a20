use Rattle.run_engine.specs.Finishing.{RevertsLane}
use Rattle.run_engine.proofs.InPlaceSteps.{Partly}
use Rattle.run_engine.proofs.finishing.revert_lanes.Given as goal

abbrev pub invariant-lanes : goal.invariant-lanes
invariant-lanes g l = Partly (λ k s t. RevertsLane s.lane t.lane t.fresh.items t.gone.items) l.i l.initial.lanes.items l.lanes.items

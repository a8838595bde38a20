use Rattle.std.proofs.Common.{◌≡◌, ◌++◌, take}
use Rattle.run_engine.specs.InPlace.{EachPair}
use Rattle.run_engine.specs.Inputs.{goes_to}
use Rattle.run_engine.proofs.dealing.deal_fresh.Given as goal

abbrev pub invariant-inputs : goal.invariant-inputs
invariant-inputs g l = EachPair (λ k s t. (t.lane ≡ s.lane) × (t.gone.items ≡ s.gone.items) × (t.fresh.items ≡ s.fresh.items ++ goes_to k (take l.i l.inputs.items))) l.initial.lanes.items l.lanes.items

use Rattle.std.proofs.Common.{◌≡◌, ◌++◌, map}
use Rattle.map_tasks.specs.Leaves.{sheet_for}
use Rattle.run_engine.proofs.InPlaceSteps.{Partly}
use Rattle.run_engine.proofs.handing.hand_sheets.Given as goal

abbrev pub invariant-parts : goal.invariant-parts
invariant-parts g l = Partly (λ p s t. (t.tree ≡ s.tree) × (t.caller ≡ s.caller) × (t.fresh.items ≡ s.fresh.items ++ map (λ i. sheet_for g.J.Job i p) l.inputs.items)) l.part l.initial.parts.items l.parts.items

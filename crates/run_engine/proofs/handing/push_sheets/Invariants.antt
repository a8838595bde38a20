use Rattle.std.proofs.Common.{◌≡◌, ◌++◌, map, take}
use Rattle.map_tasks.specs.Leaves.{sheet_for}
use Rattle.run_engine.proofs.handing.push_sheets.Given as goal

abbrev pub invariant-inputs : goal.invariant-inputs
invariant-inputs g l = l.sheets.items ≡ l.initial.sheets.items ++ map (λ i. sheet_for g.J.Job i l.part) (take l.i l.inputs.items)

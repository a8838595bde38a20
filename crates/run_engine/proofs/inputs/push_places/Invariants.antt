use Rattle.std.proofs.Common.{◌≡◌, [], ◌++◌, map, take}
use Rattle.std.specs.Prelude.{slice_index_or}
use Rattle.run_engine.specs.Inputs.{input_for}
use Rattle.run_engine.proofs.inputs.push_places.Given as goal

abbrev pub invariant-places : goal.invariant-places
invariant-places l = l.inputs.items ≡ l.initial.inputs.items ++ map (λ p. input_for l.parts l.setting (slice_index_or l.window.window.leaves p [])) (take l.i l.places)

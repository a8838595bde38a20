use Rattle.std.proofs.Common.{◌≡◌, ◌+◌, [], ◌++◌, map, take}
use Rattle.std.specs.Prelude.{slice_index_or}
use Rattle.run_engine.specs.Inputs.{texts_of}
use Rattle.run_engine.proofs.inputs.share_places.Given as goal

abbrev pub invariant-places : goal.invariant-places
invariant-places l = texts_of l.inputs.items ≡ texts_of l.initial.inputs.items ++ map (λ p. slice_index_or (texts_of l.leaves.items) (l.behind + p) []) (take l.i l.places)

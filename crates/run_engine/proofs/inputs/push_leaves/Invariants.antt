use Rattle.std.proofs.Common.{◌≡◌, ◌-◌, ◌++◌, map, take, drop}
use Rattle.run_engine.specs.Inputs.{input_for}
use Rattle.run_engine.proofs.inputs.push_leaves.Given as goal

abbrev pub invariant-leaves : goal.invariant-leaves
invariant-leaves l = l.inputs.items ≡ l.initial.inputs.items ++ map (input_for l.parts l.setting) (take (l.i - l.from) (drop l.from l.window.window.leaves))

use Rattle.std.proofs.Common.{◌≡◌, ◌-◌, ◌++◌, take, drop}
use Rattle.run_engine.proofs.inputs.share_span.Given as goal

abbrev pub invariant-leaves : goal.invariant-leaves
invariant-leaves l = l.inputs.items ≡ l.initial.inputs.items ++ take (l.i - l.from) (drop l.from l.leaves.items)

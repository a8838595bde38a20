use Rattle.std.proofs.Common.{◌≡◌}
use Rattle.script_generator.specs.Generated.{with_rounds}
use Rattle.script_generator.proofs.script.rounds.Given as goal

abbrev pub invariant-rounds : goal.invariant-rounds
invariant-rounds l = l.writer ≡ with_rounds l.job l.tree l.before l.initial.writer

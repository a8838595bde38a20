use Rattle.std.proofs.Common.{◌≡◌}
use Rattle.script_generator.specs.Generated.{times, with_edit}
use Rattle.script_generator.proofs.script.edits.Given as goal

abbrev pub invariant-edits : goal.invariant-edits
invariant-edits l = l.writer ≡ times l._written (with_edit l.job) l.initial.writer

use Rattle.std.proofs.Common.{◌≡◌}
use Rattle.std.specs.Prelude.{codes}
use Rattle.script_generator.specs.Generated.{times, with_field}
use Rattle.script_generator.proofs.writer.Writer.words.Given as goal

abbrev pub invariant-words : goal.invariant-words
invariant-words l = l.self ≡ times l._more (with_field (codes " w") 5000) l.initial.self

use Rattle.std.proofs.Common.{◌≡◌}
use Rattle.script_generator.specs.Generated.{times, with_record}
use Rattle.script_generator.proofs.writer.Writer.records.Given as goal

abbrev pub invariant-records : goal.invariant-records
invariant-records l = l.self ≡ times l._written (with_record l.job) l.initial.self

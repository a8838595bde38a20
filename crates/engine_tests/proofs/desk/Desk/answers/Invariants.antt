use Rattle.std.proofs.Common.{◌-◌, ◌^◌}
use Rattle.std.specs.Prelude.{Some}
use Rattle.record_text.specs.Reading.{Sound}
use Rattle.record_text.specs.Reader.{reading_of, source_of}
use Rattle.engine_tests.proofs.desk.Desk.answers.Given as goal

abbrev pub invariant-commands : goal.invariant-commands
invariant-commands g l = Sound (reading_of l.reader) (Some (source_of l.reader).now)

abbrev pub decreases-commands : goal.decreases-commands
decreases-commands g l = 2 ^ 62 - (reading_of l.reader).line

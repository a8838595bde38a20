use Rattle.record_text.specs.Reading.{Sound}
use Rattle.record_text.proofs.script_tests.some_answers.Given as goal

abbrev pub invariant-calls : goal.invariant-calls
invariant-calls g l = Sound l.reader.reading (g.S.Source.left l.reader.source.now)

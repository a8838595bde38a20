use Rattle.std.proofs.Common.{◌≡◌, ◌≤◌, ◌-◌, ◌^◌}
use Rattle.record_text.specs.Reading.{Sound}
use Rattle.record_text.specs.Reader.{reading_of, source_of}
use Rattle.slider_program.proofs.RunCounts.{RunsCounted}
use Rattle.slider_program.proofs.summary.count_runs.Given as goal

abbrev pub invariant-commands : goal.invariant-commands
invariant-commands g l = record {
  same : (source_of l.reader).ghost_name ≡ (source_of l.initial.reader).ghost_name;
  sound : Sound (reading_of l.reader) (g.S.Source.left (source_of l.reader).now);
  few : l.runs ≤ (reading_of l.reader).line;
  counts : RunsCounted l.runs (reading_of l.reader) (g.S.Source.left (source_of l.initial.reader).now) (g.S.Source.left (source_of l.reader).now);
}

abbrev pub decreases-commands : goal.decreases-commands
decreases-commands g l = 2 ^ 62 - (reading_of l.reader).line

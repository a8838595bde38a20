use Rattle.std.proofs.Common.{◌≡◌, ◌≤◌, ◌+◌, []}
use Rattle.std.specs.Prelude.{if◌then◌else◌}
use Rattle.record_text.specs.Reading.{Uses, Sound, SamePlace, TakenWhere, Lacks}
use Rattle.record_text.proofs.script_reader.ScriptReader.look_ahead.Given as goal

abbrev pub invariant-fills : goal.invariant-fills
invariant-fills g l = record {
  same : l.self.source.ghost_name ≡ l.initial.self.source.ghost_name;
  used : Uses l.initial.self.reading l.self.reading (g.S.Source.left l.initial.self.source.now) (g.S.Source.left l.self.source.now) [];
  sound : Sound l.self.reading (g.S.Source.left l.self.source.now);
  touch : TakenWhere Lacks l.initial.self.source.now l.self.source.now l.initial.self.reading l.self.reading [];
  place : SamePlace l.initial.self.reading l.self.reading;
  later : g.S.Source.faults l.initial.self.source.now ≤ g.S.Source.faults l.self.source.now;
}

abbrev pub decreases-fills : goal.decreases-fills
decreases-fills g l = l.self.reading.room + (if l.self.reading.ended then 0 else 1)

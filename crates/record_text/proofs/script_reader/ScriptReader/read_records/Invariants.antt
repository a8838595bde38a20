use Rattle.std.proofs.Common.{◌≡◌, ◌≤◌, ◌-◌, ◌+◌, length, List, ℕ}
use Rattle.record_text.specs.Reading.{Uses, Sound, TakenWhere, RecordsLack}
use Rattle.record_text.proofs.ReadLaws.{IsReading}
use Rattle.record_text.proofs.script_reader.ScriptReader.read_records.Given as goal

abbrev pub invariant-lines : goal.invariant-lines
invariant-lines g l = (bytes : List ℕ) × record {
  same : l.self.source.ghost_name ≡ l.initial.self.source.ghost_name;
  used : Uses l.initial.self.reading l.self.reading (g.S.Source.left l.initial.self.source.now) (g.S.Source.left l.self.source.now) bytes;
  reads : IsReading l.at l.n l.self.reading (l.n - l.counter) l.got bytes;
  touch : TakenWhere (RecordsLack l.at l.n) l.initial.self.source.now l.self.source.now l.initial.self.reading l.self.reading bytes;
  sound : Sound l.self.reading (g.S.Source.left l.self.source.now);
  count : l.self.reading.line + (l.self.reading.room + length l.self.reading.ahead) ≤ l.initial.self.reading.line + (l.initial.self.reading.room + length l.initial.self.reading.ahead);
  on : l.initial.self.reading.line ≤ l.self.reading.line;
  many : length l.got ≡ l.counter;
  last : l.self.reading.last ≡ l.initial.self.reading.last;
  fault : l.self.reading.fault ≡ l.initial.self.reading.fault;
  later : g.S.Source.faults l.initial.self.source.now ≤ g.S.Source.faults l.self.source.now;
}

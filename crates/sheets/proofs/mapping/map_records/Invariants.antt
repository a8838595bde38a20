use Rattle.std.proofs.Common.{◌≡◌, take}
use Rattle.definitions.specs.Answer.{pairs_of}
use Rattle.job_laws.specs.Counted.{risen_by, RoseBy}
use Rattle.sheets.proofs.mapping.map_records.Given as goal

abbrev pub invariant-records : goal.invariant-records
invariant-records g l = record {
  pairs : l.pairs ≡ pairs_of (g.J.Job.emits (g.J.Job.setting l.job)) (take l.i l.records);
  mapped : (g.J.Meter.Meter.counts l.m).maps ≡ risen_by l.i (g.J.Meter.Meter.counts l.initial.m).maps;
  counted : RoseBy l.i 0 0 (g.J.Meter.Meter.counts l.initial.m) (g.J.Meter.Meter.counts l.m);
}

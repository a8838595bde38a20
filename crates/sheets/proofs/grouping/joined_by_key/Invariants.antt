use Rattle.std.proofs.Common.{◌≡◌, ◌≤◌, ◌+◌, length, take}
use Rattle.job_laws.specs.Counted.{RoseBy}
use Rattle.sheets.specs.Groups.{FoundAreKeys, IsGroupOf}
use Rattle.sheets.proofs.grouping.joined_by_key.Given as goal

abbrev pub invariant-pairs : goal.invariant-pairs
invariant-pairs g l = record {
  found : IsGroupOf (g.J.Job.joined (g.J.Job.setting l.job)) (take l.i l.pairs) l.groups.entries;
  keys : FoundAreKeys l.groups.entries;
  saved : (g.J.Meter.Meter.counts l.m).joins + length l.groups.entries ≤ (g.J.Meter.Meter.counts l.initial.m).joins + l.i;
  counted : RoseBy 0 0 l.i (g.J.Meter.Meter.counts l.initial.m) (g.J.Meter.Meter.counts l.m);
}

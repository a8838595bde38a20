use Rattle.std.proofs.Common.{◌≡◌, ◌-◌, ◌*◌, ◌^◌, ◌≤◌, take}
use Rattle.job_laws.specs.Rows.{sum_of}
use Rattle.slider_session.proofs.work.Work.of.Given as goal

abbrev pub invariant-lanes : goal.invariant-lanes
invariant-lanes g l = record {
  maps : l.work.maps ≡ sum_of (λ m. (g.M.Meter.counts m).maps) (take l.lane-index l.lane-items);
  none : (l.work.merges ≡ 0) × (l.work.joins ≡ 0);
  few : l.work.maps ≤ l.lane-index * (2 ^ 64 - 1);
}

abbrev pub invariant-parts : goal.invariant-parts
invariant-parts g l = record {
  maps : l.work.maps ≡ l.initial.work.maps;
  merges : l.work.merges ≡ sum_of (λ m. (g.M.Meter.counts m).merges) (take l.part-index l.part-items);
  joins : l.work.joins ≡ sum_of (λ m. (g.M.Meter.counts m).joins) (take l.part-index l.part-items);
  few : (l.work.merges ≤ l.part-index * (2 ^ 64 - 1)) × (l.work.joins ≤ l.part-index * (2 ^ 64 - 1));
}

use Rattle.std.proofs.Common.{◌≡◌, false}
use Rattle.collector.specs.Collectors.{horizon_of}
use Rattle.run_engine.proofs.SweepSteps.{SweptUpTo}
use Rattle.run_engine.proofs.sweep_seat.sweep_all.Given as goal

abbrev pub invariant-shards : goal.invariant-shards
invariant-shards g l = record {
  going : l.seat.failed ≡ false;
  swept : SweptUpTo (horizon_of l.initial.seat.collector.keep l.run) l.shard l.initial.seat.collector l.seat.collector;
}

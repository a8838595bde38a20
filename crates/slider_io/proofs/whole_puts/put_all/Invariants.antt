use Rattle.std.proofs.Common.{length, take, ◌++◌, ◌-◌, ◌≡◌, ◌≤◌}
use Rattle.definitions.specs.Outside.{Told}
use Rattle.slider_io.proofs.whole_puts.put_all.Given as goal

abbrev pub invariant-puts : goal.invariant-puts
invariant-puts g l = record {
  within : l.at ≤ length l.bytes;
  bytes : Told (g.K.Sink.held l.initial.sink) (g.K.Sink.held l.sink) (λ old new. new ≡ old ++ take l.at l.bytes);
  later : g.K.Sink.faults l.initial.sink ≤ g.K.Sink.faults l.sink;
}

abbrev pub decreases-puts : goal.decreases-puts
decreases-puts g l = length l.bytes - l.at

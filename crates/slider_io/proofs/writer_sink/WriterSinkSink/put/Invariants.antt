use Rattle.std.proofs.Common.{◌≡◌}
use Rattle.std.specs.Io.KnownBytes.{Keeps}
use Rattle.slider_io.proofs.writer_sink.WriterSinkSink.put.Given as goal

abbrev pub invariant-tries : goal.invariant-tries
invariant-tries g l = (l.self-inside.faults ≡ l.initial.self-inside.faults) × Keeps (g.W.Write.contents l.initial.self-inside.inner) (g.W.Write.contents l.self-inside.inner)

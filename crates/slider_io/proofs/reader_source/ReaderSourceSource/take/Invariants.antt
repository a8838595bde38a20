use Rattle.std.proofs.Common.{◌≡◌}
use Rattle.std.specs.Io.KnownBytes.{Keeps}
use Rattle.slider_io.proofs.reader_source.ReaderSourceSource.take.Given as goal

abbrev pub invariant-tries : goal.invariant-tries
invariant-tries g l = (l.self-inside.faults ≡ l.initial.self-inside.faults) × Keeps (g.R.Read.remaining l.initial.self-inside.inner) (g.R.Read.remaining l.self-inside.inner)

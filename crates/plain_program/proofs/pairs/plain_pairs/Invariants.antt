use Rattle.std.proofs.Common.{◌≡◌, take}
use Rattle.definitions.specs.Answer.{pairs_of}
use Rattle.marker_chunker.specs.Cuts.{joined}
use Rattle.plain_program.proofs.pairs.plain_pairs.Given as goal

abbrev pub invariant-leaves : goal.invariant-leaves
invariant-leaves g l = l.pairs ≡ pairs_of (g.J.Job.emits (g.J.Job.setting l.job)) (joined (take l.i l.leaves))

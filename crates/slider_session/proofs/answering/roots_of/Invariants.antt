use Rattle.definitions.specs.Tables.{table_of}
use Rattle.definitions.specs.Answer.{pairs_of}
use Rattle.marker_chunker.specs.Cuts.{joined}
use Rattle.slider_session.proofs.PartRoots.{AreFirst}
use Rattle.slider_session.proofs.answering.roots_of.Given as goal

abbrev pub invariant-parts : goal.invariant-parts
invariant-parts g l =
    let s = g.J.Job.setting l.engine.job in
    AreFirst s l.parts (table_of (g.J.Job.joined s) (pairs_of (g.J.Job.emits s) (joined l.engine.leaves))) l.part l.roots.items

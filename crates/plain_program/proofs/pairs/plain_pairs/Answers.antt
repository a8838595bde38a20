use Rattle.std.proofs.Common.{◌++◌, take, sym, ap, ◌∙◌}
use Rattle.definitions.specs.Answer.{pairs_of}
use Rattle.definitions.proofs.AnswerLaws.{pairs_of-append}
use Rattle.marker_chunker.specs.Cuts.{joined}
use Rattle.plain_program.proofs.WindowLaws.{joined_more}
use Rattle.plain_program.proofs.pairs.plain_pairs.Goals as goal

pub leaves-preserved : goal.leaves-preserved
leaves-preserved g c =
    let emits = g.J.Job.emits (g.J.Job.setting c.args.job.now) in
    let before = joined (take c.leaves.i c.args.leaves.now) in
    c.in-Ok.ensures ∙ ap (λ l. l ++ pairs_of emits c.index-leaves-i.result) c.leaves.invariant
    ∙ sym (pairs_of-append emits before c.index-leaves-i.result)
    ∙ ap (λ l. pairs_of emits (before ++ l)) c.index-leaves-i.is
    ∙ ap (pairs_of emits) (sym (joined_more c.args.leaves.now c.leaves.i c.index-leaves-i.result c.leaves-test.true))

use Rattle.job_laws.specs.Meanings.{meaning_of}
use Rattle.slider_program.specs.Program.{outside, seen_of}
use Rattle.slider_program.proofs.Untouched.{planned_nothing}
use Rattle.slider_program.proofs.program.run_trees.Goals as goal

pub returns-in-Err : goal.returns-in-Err
returns-in-Err g c = record {
  ran = planned_nothing g.J.Meter.Meter.counts (seen_of g.S.Source g.K.Sink g.E.Sink) (meaning_of g.J.Job c.args.job) g.T.Tree.KIND g.T.Tree.bound g.T.Tree.shaped c.args.plan (outside c.args.source.now c.args.out.now c.args.err.now c.args.meters.now);
}

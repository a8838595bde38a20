use Rattle.std.specs.Prelude.{map, string_bytes}
use Rattle.program_words.specs.Plans.{plan_of}
use Rattle.slider_program.specs.Program.{jobs_of, outside, seen_of}
use Rattle.slider_program.proofs.Untouched.{untouched}
use Rattle.slider_program.proofs.program.run_program.Goals as goal

pub returns-in-Err-Mem : goal.returns-in-Err-Mem
returns-in-Err-Mem g c = record {
  ran = untouched g.B.Meter.Meter.counts (seen_of g.S.Source g.K.Sink g.E.Sink) (jobs_of g.B.Count.Job g.B.Index.Job g.B.Latest.Job g.B.TopK.Job) (plan_of (map string_bytes c.args.words.now))
      (outside c.args.source.now c.args.out.now c.args.err.now c.args.meters.now);
}

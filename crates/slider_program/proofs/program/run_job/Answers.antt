use Rattle.std.proofs.Common.{sym, subst}
use Rattle.job_laws.specs.Meanings.{meaning_of}
use Rattle.program_words.specs.declared.plan.TreeName.{TreeName}
use Rattle.program_words.specs.Plans.{kind_of}
use Rattle.slider_program.specs.Trees.{bound_for, shape_for}
use Rattle.slider_program.specs.Program.{Planned, outside, seen_of}
use Rattle.slider_program.proofs.program.run_job.Goals as goal

pub returns-in-Folding : goal.returns-in-Folding
returns-in-Folding g c =
    let see = seen_of g.S.Source g.K.Sink g.E.Sink in
    let old = outside c.args.source.now c.args.out.now c.args.err.now c.args.meters.now in
    let new = outside c.run_trees.new.source c.run_trees.new.out c.run_trees.new.err c.run_trees.new.meters in
    record { ran = subst (λ (t : TreeName). Planned g.J.Meter.Meter.counts see (meaning_of g.J.Job c.args.job) (kind_of t) (bound_for t) (shape_for t) c.args.plan old new c.run_trees.result) (sym c.in-Folding.is) c.run_trees.ensures.ran }

pub returns-in-Random : goal.returns-in-Random
returns-in-Random g c =
    let see = seen_of g.S.Source g.K.Sink g.E.Sink in
    let old = outside c.args.source.now c.args.out.now c.args.err.now c.args.meters.now in
    let new = outside c.run_trees-in-Random.new.source c.run_trees-in-Random.new.out c.run_trees-in-Random.new.err c.run_trees-in-Random.new.meters in
    record { ran = subst (λ (t : TreeName). Planned g.J.Meter.Meter.counts see (meaning_of g.J.Job c.args.job) (kind_of t) (bound_for t) (shape_for t) c.args.plan old new c.run_trees-in-Random.result) (sym c.in-Random.is) c.run_trees-in-Random.ensures.ran }

pub returns-in-Coalescing : goal.returns-in-Coalescing
returns-in-Coalescing g c =
    let see = seen_of g.S.Source g.K.Sink g.E.Sink in
    let old = outside c.args.source.now c.args.out.now c.args.err.now c.args.meters.now in
    let new = outside c.run_trees-in-Coalescing.new.source c.run_trees-in-Coalescing.new.out c.run_trees-in-Coalescing.new.err c.run_trees-in-Coalescing.new.meters in
    record { ran = subst (λ (t : TreeName). Planned g.J.Meter.Meter.counts see (meaning_of g.J.Job c.args.job) (kind_of t) (bound_for t) (shape_for t) c.args.plan old new c.run_trees-in-Coalescing.result) (sym c.in-Coalescing.is) c.run_trees-in-Coalescing.ensures.ran }

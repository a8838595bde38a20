use Rattle.std.proofs.Common.{◌+◌, sym, subst, ◌∙◌}
use Rattle.job_laws.specs.Meanings.{meaning_of}
use Rattle.marker_chunker.specs.Cuts.{joined}
use Rattle.slider_session.specs.Calls.{SessionView, RunAnswered, RunStands}
use Rattle.slider_session.specs.Devices.{sink_view}
use Rattle.slider_session.specs.Output.{piece_over}
use Rattle.slider_session.specs.WorkLines.{work_of, work_between, IsMoreWork}
use Rattle.slider_session.specs.declared.work.Work.{Work}
use Rattle.slider_session.proofs.Answered.{untried, said-halt, answered-line, piece-stands}
use Rattle.slider_session.proofs.Sessions.{run-session}
use Rattle.slider_session.proofs.WorkLaws.{more-work}
use Rattle.slider_session.proofs.session.Session.answer.Goals as goal

pub returns-in-Err-clause-said : goal.returns-in-Err-clause-said
returns-in-Err-clause-said g c = untried _ (sink_view g.E.Sink c.args.err.now)

pub returns-in-Err-clause-more : goal.returns-in-Err-clause-more
returns-in-Err-clause-more g c =
    more-work g.J.Meter.Meter.counts 16 c.args.meters.now c.run-ran.new.meters c.of-before.ensures.counts c.of-now.ensures.counts c.run-ran.ensures.worked.rose

pub invariant_of-self-2 : goal.invariant_of-self-2
invariant_of-self-2 g c =
    let s = c.self.inside in
    run-session g.T.Tree.KIND (meaning_of g.J.Job) g.T.Tree.view s.engine c.run-ran.new.self s.window c.self.invariant.0 c.run-ran.ensures.worked.same g.T.Tree.shaped c.run_done.new.self s.settings c.in-Ok.ensures.ok c.run_done.ensures c.self.invariant.1

pub invariant_of-self-in-Err-write_answer : goal.invariant_of-self-in-Err-write_answer
invariant_of-self-in-Err-write_answer g c =
    let s = c.self.inside in
    run-session g.T.Tree.KIND (meaning_of g.J.Job) g.T.Tree.view s.engine c.run-ran.new.self s.window c.self.invariant.0 c.run-ran.ensures.worked.same g.T.Tree.shaped c.run_done.new.self s.settings c.in-Ok.ensures.ok c.run_done.ensures c.self.invariant.1

pub returns-in-Err-write_answer-clause-said : goal.returns-in-Err-write_answer-clause-said
returns-in-Err-write_answer-clause-said g c =
    let new = c.run-ran.new.self in
    said-halt (c.args.self.now.engine.runs + 1) (work_between (work_of g.J.Meter.Meter.counts c.args.meters.now) (work_of g.J.Meter.Meter.counts c.run-ran.new.meters)) (sink_view g.E.Sink c.args.err.now) c.args.self.now.engine.settings.work
    (piece_over (meaning_of g.J.Job new.job) new.runs (joined new.leaves)) (sink_view g.K.Sink c.args.out.now) (sink_view g.K.Sink c.write_answer.new.out) c.in-Err-write_answer.halt c.in-Err-write_answer.ensures.written

pub returns-in-Err-write_answer-clause-more : goal.returns-in-Err-write_answer-clause-more
returns-in-Err-write_answer-clause-more g c =
    more-work g.J.Meter.Meter.counts 16 c.args.meters.now c.run-ran.new.meters c.of-before.ensures.counts c.of-now.ensures.counts c.run-ran.ensures.worked.rose

pub invariant_of-self-then-not-self : goal.invariant_of-self-then-not-self
invariant_of-self-then-not-self g c =
    let s = c.self.inside in
    run-session g.T.Tree.KIND (meaning_of g.J.Job) g.T.Tree.view s.engine c.run-ran.new.self s.window c.self.invariant.0 c.run-ran.ensures.worked.same g.T.Tree.shaped c.run_done.new.self s.settings c.in-Ok.ensures.ok c.run_done.ensures c.self.invariant.1

pub returns-then-not-self-clause-more : goal.returns-then-not-self-clause-more
returns-then-not-self-clause-more g c =
    more-work g.J.Meter.Meter.counts 16 c.args.meters.now c.run-ran.new.meters c.of-before.ensures.counts c.of-now.ensures.counts c.run-ran.ensures.worked.rose

pub invariant_of-self-3 : goal.invariant_of-self-3
invariant_of-self-3 g c =
    let s = c.self.inside in
    run-session g.T.Tree.KIND (meaning_of g.J.Job) g.T.Tree.view s.engine c.run-ran.new.self s.window c.self.invariant.0 c.run-ran.ensures.worked.same g.T.Tree.shaped c.run_done.new.self s.settings c.in-Ok.ensures.ok c.run_done.ensures c.self.invariant.1

pub try_work-requires : goal.try_work-requires
try_work-requires g c =
    let old = c.of-before.ensures in
    let new = c.of-now.ensures in
    let more = more-work g.J.Meter.Meter.counts 16 c.args.meters.now c.run-ran.new.meters old.counts new.counts c.run-ran.ensures.worked.rose in
    subst (λ (w : Work). IsMoreWork w c.of-now.result) (sym old.work) (subst (IsMoreWork (work_of g.J.Meter.Meter.counts c.args.meters.now)) (sym new.work) more)

pub returns-clause-answered : goal.returns-clause-answered
returns-clause-answered g c =
    let s = c.self.inside in
    let j = meaning_of g.J.Job s.engine.job in
    let old : SessionView _ _ = record { engine = s.engine; window = s.window } in
    let new : SessionView _ _ = record { engine = c.run-ran.new.self; window = c.run_done.new.self } in
    let before = sink_view g.K.Sink c.args.out.now in
    let now = sink_view g.K.Sink c.write_answer.new.out in
    let stands : RunStands j g.T.Tree.view g.T.Tree.shaped old new = record { engine = c.in-Ok.ensures.ok; window = c.run_done.ensures } in
    let bytes = piece_over (meaning_of g.J.Job new.engine.job) new.engine.runs (joined new.engine.leaves) in
    let piece = (λ i. piece_over (meaning_of g.J.Job (c.run-ran.ensures.worked.same.job i)) new.engine.runs (joined new.engine.leaves)) ∙ piece-stands j g.T.Tree.view g.T.Tree.shaped old new stands in
    subst (λ (h : SessionView _ _). RunAnswered (meaning_of g.J.Job h.engine.job) g.T.Tree.view g.T.Tree.shaped h new before now c.try_work.result) c.self.view_is
    (answered-line j g.T.Tree.view g.T.Tree.shaped old new stands before now bytes piece _ (sink_view g.E.Sink c.args.err.now) (sink_view g.E.Sink c.try_work.new.err) c.try_work.result c.in-Ok-write_answer.ensures.written c.try_work.ensures.tried)

pub returns-clause-more : goal.returns-clause-more
returns-clause-more g c =
    more-work g.J.Meter.Meter.counts 16 c.args.meters.now c.run-ran.new.meters c.of-before.ensures.counts c.of-now.ensures.counts c.run-ran.ensures.worked.rose

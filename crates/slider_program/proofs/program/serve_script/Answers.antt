use Rattle.std.proofs.Common.{refl}
use Rattle.job_laws.specs.Meanings.{meaning_of}
use Rattle.window_manager.specs.Windows.{empty_window}
use Rattle.slider_session.specs.Devices.{sink_view}
use Rattle.slider_session.specs.declared.halt.Halt.TheVariants as Halts
use Rattle.std.specs.Prelude.{Ok, Err}
use Rattle.slider_program.specs.Program.{outside, seen_of}
use Rattle.slider_program.proofs.Statuses.{done_answered, fault_answered, read_answered, write_answered, memory_answered}
use Rattle.slider_program.proofs.ErrLines.{unanswered, said_works, said_fault}
use Rattle.slider_program.proofs.program.serve_script.Goals as goal

pub returns-in-Ok-clause-answered : goal.returns-in-Ok-clause-answered
returns-in-Ok-clause-answered g c =
    let see = seen_of g.S.Source g.K.Sink g.E.Sink in
    done_answered (meaning_of g.J.Job c.args.job) (empty_window g.T.Tree.KIND c.args.settings.places) (see (outside c.args.source.now c.args.out.now c.args.err.now c.args.meters.now)) (see (outside c.serve.new.source c.serve.new.out c.serve.new.err c.serve.new.meters)) c.in-Ok.ensures.serves.ends

pub returns-in-Ok-clause-said : goal.returns-in-Ok-clause-said
returns-in-Ok-clause-said g c =
    said_works (meaning_of g.J.Job c.args.job) (empty_window g.T.Tree.KIND c.args.settings.places) g.J.Meter.Meter.counts c.args.settings.work (g.S.Source.left c.args.source.now) c.args.meters.now (sink_view g.E.Sink c.args.err.now) c.serve.new.meters (sink_view g.E.Sink c.serve.new.err)
    (Ok tt) 0 c.in-Ok.ensures.said (λ answered. tt) (λ e. cc)

pub returns-in-Err-Script-clause-answered : goal.returns-in-Err-Script-clause-answered
returns-in-Err-Script-clause-answered g c =
    let see = seen_of g.S.Source g.K.Sink g.E.Sink in
    let ends = (rw c.in-Err-Script.field-0-is at c.in-Err-Script.ensures.serves).ends in
    fault_answered (meaning_of g.J.Job c.args.job) (empty_window g.T.Tree.KIND c.args.settings.places) (see (outside c.args.source.now c.args.out.now c.args.err.now c.args.meters.now)) (see (outside c.serve.new.source c.serve.new.out c.status_of_fault.new.err c.serve.new.meters)) c.status_of_fault.result c.in-Err-Script.fault.line c.in-Err-Script.fault.why ends.0 c.status_of_fault.ensures.status

pub returns-in-Err-Script-clause-said : goal.returns-in-Err-Script-clause-said
returns-in-Err-Script-clause-said g c =
    let f = c.status_of_fault.ensures in
    let ends = (rw c.in-Err-Script.field-0-is at c.in-Err-Script.ensures.serves).ends in
    said_fault (meaning_of g.J.Job c.args.job) (empty_window g.T.Tree.KIND c.args.settings.places) g.J.Meter.Meter.counts c.args.settings.work (g.S.Source.left c.args.source.now) c.args.meters.now (sink_view g.E.Sink c.args.err.now) c.serve.new.meters (sink_view g.E.Sink c.status_of_fault.new.err)
    c.in-Err-Script.fault (sink_view g.E.Sink c.serve.new.err) (rw c.in-Err-Script.field-0-is at c.in-Err-Script.ensures.said) c.status_of_fault.result (g.S.Source.left c.serve.new.source) (g.K.Sink.held c.args.out.now) (g.K.Sink.held c.serve.new.out) ends.0 f.status f.tried f.prefix f.later

pub returns-in-Err-Read-clause-answered : goal.returns-in-Err-Read-clause-answered
returns-in-Err-Read-clause-answered g c =
    let see = seen_of g.S.Source g.K.Sink g.E.Sink in
    let ends = (rw c.in-Err-Read.field-0-is at c.in-Err-Read.ensures.serves).ends in
    read_answered (meaning_of g.J.Job c.args.job) (empty_window g.T.Tree.KIND c.args.settings.places) (see (outside c.args.source.now c.args.out.now c.args.err.now c.args.meters.now)) (see (outside c.serve.new.source c.serve.new.out c.serve.new.err c.serve.new.meters)) ends.1 ends.0

pub returns-in-Err-Read-clause-said : goal.returns-in-Err-Read-clause-said
returns-in-Err-Read-clause-said g c =
    said_works (meaning_of g.J.Job c.args.job) (empty_window g.T.Tree.KIND c.args.settings.places) g.J.Meter.Meter.counts c.args.settings.work (g.S.Source.left c.args.source.now) c.args.meters.now (sink_view g.E.Sink c.args.err.now) c.serve.new.meters (sink_view g.E.Sink c.serve.new.err)
    (Err Halts.Read) 4 (rw c.in-Err-Read.field-0-is at c.in-Err-Read.ensures.said) (unanswered 4 (λ e. cc) (λ e. cc)) (λ e. cc)

pub returns-in-Err-Write-clause-answered : goal.returns-in-Err-Write-clause-answered
returns-in-Err-Write-clause-answered g c =
    let see = seen_of g.S.Source g.K.Sink g.E.Sink in
    let ends = (rw c.in-Err-Write.field-0-is at c.in-Err-Write.ensures.serves).ends in
    write_answered (meaning_of g.J.Job c.args.job) (empty_window g.T.Tree.KIND c.args.settings.places) (see (outside c.args.source.now c.args.out.now c.args.err.now c.args.meters.now)) (see (outside c.serve.new.source c.serve.new.out c.serve.new.err c.serve.new.meters)) ends.0 ends.1

pub returns-in-Err-Write-clause-said : goal.returns-in-Err-Write-clause-said
returns-in-Err-Write-clause-said g c =
    said_works (meaning_of g.J.Job c.args.job) (empty_window g.T.Tree.KIND c.args.settings.places) g.J.Meter.Meter.counts c.args.settings.work (g.S.Source.left c.args.source.now) c.args.meters.now (sink_view g.E.Sink c.args.err.now) c.serve.new.meters (sink_view g.E.Sink c.serve.new.err)
    (Err Halts.Write) 5 (rw c.in-Err-Write.field-0-is at c.in-Err-Write.ensures.said) (unanswered 5 (λ e. cc) (λ e. cc)) (λ e. cc)

pub returns-in-Err-Mem-clause-answered : goal.returns-in-Err-Mem-clause-answered
returns-in-Err-Mem-clause-answered g c =
    let see = seen_of g.S.Source g.K.Sink g.E.Sink in
    let ends = (rw c.in-Err-Mem.field-0-is at c.in-Err-Mem.ensures.serves).ends in
    memory_answered (meaning_of g.J.Job c.args.job) (empty_window g.T.Tree.KIND c.args.settings.places) (see (outside c.args.source.now c.args.out.now c.args.err.now c.args.meters.now)) (see (outside c.serve.new.source c.serve.new.out c.serve.new.err c.serve.new.meters)) ends

pub returns-in-Err-Mem-clause-said : goal.returns-in-Err-Mem-clause-said
returns-in-Err-Mem-clause-said g c =
    said_works (meaning_of g.J.Job c.args.job) (empty_window g.T.Tree.KIND c.args.settings.places) g.J.Meter.Meter.counts c.args.settings.work (g.S.Source.left c.args.source.now) c.args.meters.now (sink_view g.E.Sink c.args.err.now) c.serve.new.meters (sink_view g.E.Sink c.serve.new.err)
    (Err Halts.Mem) 6 (rw c.in-Err-Mem.field-0-is at c.in-Err-Mem.ensures.said) (unanswered 6 (λ e. cc) (λ e. cc)) (λ e. cc)

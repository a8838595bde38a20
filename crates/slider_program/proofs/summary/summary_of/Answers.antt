use Rattle.std.proofs.Common.{ℕ, sym, ap, subst}
use Rattle.std.specs.Prelude.{Ok, Err}
use Rattle.std.specs.declared.option.Option.TheVariants.{Some}
use Rattle.std.proofs.lemmas.Result.{err_from_is_err_and}
use Rattle.definitions.specs.Limits.{most_script}
use Rattle.record_text.specs.Script.{commands}
use Rattle.job_laws.specs.Meanings.{meaning_of}
use Rattle.window_manager.specs.Windows.{empty_window}
use Rattle.window_manager.specs.Views.{no_leaves}
use Rattle.slider_session.specs.Devices.{sink_view}
use Rattle.slider_program.specs.Program.{ErrSaid, status_if_ok}
use Rattle.slider_program.proofs.ErrLines.{unanswered, never_three, unsaid, said_works}
use Rattle.slider_program.proofs.Untouched.{cost_nothing}
use Rattle.slider_program.proofs.summary.summary_of.Goals as goal

pub returns-in_err-from_slice-clause-said : goal.returns-in_err-from_slice-clause-said
returns-in_err-from_slice-clause-said g c =
    let j = meaning_of g.J.Job c.args.job in
    let w = empty_window g.T.Tree.KIND c.args.settings.places in
    let err = sink_view g.E.Sink c.args.err.now in
    subst (λ (status : ℕ). ErrSaid j w g.J.Meter.Meter.counts c.args.settings.work (Some c.args.script.items) c.args.meters.now c.args.meters.now err err status)
    (sym (ap status_if_ok (err_from_is_err_and c.from_residual.result c.from_residual.ensures.1).1))
    (unsaid j w g.J.Meter.Meter.counts c.args.settings.work (Some c.args.script.items) c.args.meters.now err)

pub returns-in_err-from_slice-clause-costs : goal.returns-in_err-from_slice-clause-costs
returns-in_err-from_slice-clause-costs g c = cost_nothing (meaning_of g.J.Job c.args.job) g.T.Tree.bound g.T.Tree.shaped g.J.Meter.Meter.counts (no_leaves g.T.Tree.KIND c.args.settings.places) (commands most_script c.args.script.items).0 c.args.meters.now

pub returns-in_default-clause-said : goal.returns-in_default-clause-said
returns-in_default-clause-said g c = unsaid (meaning_of g.J.Job c.args.job) (empty_window g.T.Tree.KIND c.args.settings.places) g.J.Meter.Meter.counts c.args.settings.work (Some c.args.script.items) c.args.meters.now (sink_view g.E.Sink c.args.err.now)

pub returns-in_default-clause-costs : goal.returns-in_default-clause-costs
returns-in_default-clause-costs g c = cost_nothing (meaning_of g.J.Job c.args.job) g.T.Tree.bound g.T.Tree.shaped g.J.Meter.Meter.counts (no_leaves g.T.Tree.KIND c.args.settings.places) (commands most_script c.args.script.items).0 c.args.meters.now

pub returns-in-Ok-serve-clause-said : goal.returns-in-Ok-serve-clause-said
returns-in-Ok-serve-clause-said g c =
    let said = rw c.new-source.ensures at c.in-Ok-serve.ensures.said in
    said_works (meaning_of g.J.Job c.args.job) (empty_window g.T.Tree.KIND c.args.settings.places) g.J.Meter.Meter.counts c.args.settings.work (Some c.args.script.items) c.args.meters.now (sink_view g.E.Sink c.args.err.now) c.serve.new.meters (sink_view g.E.Sink c.serve.new.err)
    (Ok tt) (status_if_ok c.line_of_output.result) said (λ answered. tt) (never_three c.line_of_output.result)

pub returns-clause-said : goal.returns-clause-said
returns-clause-said g c =
    let said = rw c.new-source.ensures at c.in-Err.ensures.said in
    said_works (meaning_of g.J.Job c.args.job) (empty_window g.T.Tree.KIND c.args.settings.places) g.J.Meter.Meter.counts c.args.settings.work (Some c.args.script.items) c.args.meters.now (sink_view g.E.Sink c.args.err.now) c.serve.new.meters (sink_view g.E.Sink c.serve.new.err)
    (Err c.in-Err.field-0) 6 said (λ answered. absurd (unanswered 6 (λ e. cc) (λ e. cc) answered)) (λ e. cc)

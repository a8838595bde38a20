use Rattle.std.proofs.Common.{◌≡◌, ◌≤◌, ◌-◌, ◌^◌, None, false}
use Rattle.definitions.specs.Limits.{most_script}
use Rattle.record_text.specs.Reading.{Sound}
use Rattle.record_text.specs.Reader.{reading_of, source_of}
use Rattle.job_laws.specs.Meanings.{meaning_of}
use Rattle.window_manager.specs.Windows.{empty_window}
use Rattle.window_manager.specs.Views.{no_leaves}
use Rattle.slider_session.specs.Calls.{accepted_of}
use Rattle.slider_session.specs.Devices.{sink_view}
use Rattle.slider_session.proofs.CostLaws.{Costing}
use Rattle.slider_session.proofs.Sayings.{Saying}
use Rattle.slider_session.proofs.Walks.{Stands}
use Rattle.slider_session.proofs.serving.serve.Given as goal

abbrev pub invariant-commands : goal.invariant-commands
invariant-commands g l =
    let j = meaning_of g.J.Job l.fn.job in
    let places = l.fn.settings.places in
    let first = g.S.Source.left (source_of l.initial.reader).now in
    let left = g.S.Source.left (source_of l.reader).now in
    record {
      same : (source_of l.reader).ghost_name ≡ (source_of l.initial.reader).ghost_name;
      sound : Sound (reading_of l.reader) left;
      clear : (reading_of l.reader).fault ≡ None;
      job : l.session.engine.job ≡ l.fn.job;
      settings : l.session.engine.settings ≡ l.fn.settings;
      runs : l.session.engine.runs ≤ (reading_of l.reader).line;
      accepted : accepted_of l.session ≤ (reading_of l.reader).line;
      source_later : g.S.Source.faults (source_of l.initial.reader).now ≤ g.S.Source.faults (source_of l.reader).now;
      sink_later : g.K.Sink.faults l.initial.out ≤ g.K.Sink.faults l.out;
      quiet : l.fn.settings.work ≡ false → l.err ≡ l.initial.err;
      stands : Stands j (empty_window g.T.Tree.KIND places) most_script (reading_of l.initial.reader) l.session (reading_of l.reader) first left (g.K.Sink.held l.initial.out) (g.K.Sink.held l.out);
      costs : Costing j g.T.Tree.bound g.T.Tree.tight g.T.Tree.shaped g.T.Tree.view g.J.Meter.Meter.counts (no_leaves g.T.Tree.KIND places) most_script l.session (reading_of l.reader) l.initial.meters l.meters first left;
      said : Saying j g.T.Tree.view g.T.Tree.shaped g.J.Meter.Meter.counts l.fn.settings.work (empty_window g.T.Tree.KIND places) most_script l.session (reading_of l.reader) l.initial.meters l.meters first left (sink_view g.E.Sink l.initial.err) (sink_view g.E.Sink l.err);
    }

abbrev pub decreases-commands : goal.decreases-commands
decreases-commands g l = 2 ^ 62 - (reading_of l.reader).line

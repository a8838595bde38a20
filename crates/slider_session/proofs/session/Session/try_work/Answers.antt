use Rattle.std.proofs.Common.{◌≡◌, ℕ, List, [], ◌∷◌, ap, subst, ◌∙◌}
use Rattle.slider_session.specs.Calls.{SessionView}
use Rattle.slider_session.specs.Devices.{AreTried, sink_view}
use Rattle.slider_session.specs.WorkLines.{work_between, work_line}
use Rattle.slider_session.proofs.Answered.{tried-whole}
use Rattle.slider_session.proofs.session.Session.try_work.Goals as goal

pub returns-in-Ok-put_all : goal.returns-in-Ok-put_all
returns-in-Ok-put_all g c =
    let before = sink_view g.E.Sink c.args.err.now in
    let now = sink_view g.E.Sink c.put_all.new.sink in
    let work = work_between c.args.before.now c.args.now.now in
    let run : c.runs.result ≡ c.args.self.now.engine.runs = c.runs.ensures ∙ ap (λ (h : SessionView _ _). h.engine.runs) c.self.view_is in
    let line : c.as_bytes.result.now ≡ work_line c.args.self.now.engine.runs work = c.as_bytes.ensures.value ∙ c.in-Ok.ensures ∙ ap (λ (n : ℕ). work_line n work) run in
    record {
      tried = subst (λ (l : List ℕ). AreTried (Unit {0}) (l ∷ []) before now) line
          (tried-whole c.as_bytes.result.now before now c.in-Ok-put_all.ensures.bytes c.in-Ok-put_all.ensures.later);
    }

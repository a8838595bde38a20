use Rattle.std.proofs.Common.{◌≡◌, ℕ, sym, subst, ◌∙◌}
use Rattle.definitions.specs.Tables.{table_of}
use Rattle.definitions.specs.Answer.{pairs_of}
use Rattle.job_laws.specs.Meanings.{meaning_of}
use Rattle.marker_chunker.specs.Cuts.{joined}
use Rattle.slider_session.proofs.PartRoots.{sheet_of, one_more, empty_part}
use Rattle.slider_session.proofs.answering.roots_of.Goals as goal
use Rattle.slider_session.proofs.answering.roots_of.Goals.{in-Some+in_ok-share-in-Some+in_ok-push-in-Some, in-None+in_ok-empty-in-None+in_ok-push-in-None}

pub parts-preserved : goal.parts-preserved
parts-preserved g c =
    let e = c.args.engine.now in
    let s = g.J.Job.setting e.job in
    let t = table_of (g.J.Job.joined s) (pairs_of (g.J.Job.emits s) (joined e.leaves)) in
    elim c.match-root.branch [
      | in-Some+in_ok-share-in-Some+in_ok-push-in-Some w ↦
          let root = subst (λ (n : ℕ). w.in-Some.root.now ≡ sheet_of s n t c.parts.part) (sym c.requires.parts) w.in-Some.ensures.1 in
          one_more s c.args.parts t c.parts.part c.parts.roots.items c.match-root.roots.items w.in_ok-share-in-Some.field-0 c.parts.invariant (w.in_ok-share-in-Some.ensures.same ∙ root) ((λ i. (w.roots-is i).items) ∙ w.in_ok-push-in-Some.ensures.items)
      | in-None+in_ok-empty-in-None+in_ok-push-in-None w ↦
          let made = w.in_ok-empty-in-None.ensures in
          let sheet = empty_part (meaning_of g.J.Job e.job) s c.args.parts c.parts.part e.leaves w.in_ok-empty-in-None.field-0 w.in-None.ensures (made.setting ∙ w.setting.ensures ∙ (λ i. g.J.Job.setting (w.job.ensures i))) made.entries in
          one_more s c.args.parts t c.parts.part c.parts.roots.items c.match-root.roots.items w.in_ok-empty-in-None.field-0 c.parts.invariant sheet ((λ i. (w.roots-is i).items) ∙ w.in_ok-push-in-None.ensures.items)
    ]

use Rattle.std.proofs.Common.{sym, ap, ◌∙◌, subst}
use Rattle.window_manager.specs.Views.{FitsKind, view_of}
use Rattle.window_manager.specs.declared.content.Content.{Content}
use Rattle.window_manager.specs.declared.content.Content.TheVariants.{OfBuckets, OfDocument}
use Rattle.window_manager.proofs.SinceSteps.{IsLed, buckets_kept, document_kept}
use Rattle.window_manager.proofs.ViewLaws.{done_buckets, done_document, seen_as}
use Rattle.window_manager.proofs.window.Window.apply.Goals.{in-OfBuckets, in-OfDocument}
use Rattle.window_manager.proofs.window.Window.apply.Goals as goal

pub returns : goal.returns
returns g c =
    let accepts = g.J.Job.accepts (g.J.Job.setting c.args.job.now) in
    elim c.match-self.branch [
      | in-OfBuckets w ↦
          let b = w.in-OfBuckets.buckets in let next = w.apply.new.self in
          seen_as accepts c.args.c (OfBuckets b) (OfBuckets next) c.args.self.now c.match-self.result w.apply.result c.match-self.self-inside.content
          (ap view_of (sym w.in-OfBuckets.is) ∙ c.self.view_is) (λ i. (w.self-inside-is i).content) w.result-is
          (done_buckets accepts c.args.c b next w.apply.result (subst FitsKind w.in-OfBuckets.is c.self.invariant.0) w.apply.ensures)
      | in-OfDocument w ↦
          let d = w.in-OfDocument.document in let next = w.apply-in-OfDocument.new.self in
          seen_as accepts c.args.c (OfDocument d) (OfDocument next) c.args.self.now c.match-self.result w.apply-in-OfDocument.result c.match-self.self-inside.content
          (ap view_of (sym w.in-OfDocument.is) ∙ c.self.view_is) (λ i. (w.self-inside-is i).content) w.result-is
          (done_document accepts c.args.c d next w.apply-in-OfDocument.result (subst FitsKind w.in-OfDocument.is c.self.invariant.0) w.apply-in-OfDocument.ensures)
    ]

pub invariant_of-self : goal.invariant_of-self
invariant_of-self g c =
    let accepts = g.J.Job.accepts (g.J.Job.setting c.args.job.now) in
    elim c.match-self.branch [
      | in-OfBuckets w ↦
          subst IsLed (sym (λ i. (w.self-inside-is i).content))
          (buckets_kept accepts c.args.c w.apply.result w.in-OfBuckets.buckets w.apply.new.self (subst IsLed w.in-OfBuckets.is c.self.invariant) w.apply.ensures)
      | in-OfDocument w ↦
          subst IsLed (sym (λ i. (w.self-inside-is i).content))
          (document_kept accepts c.args.c w.apply-in-OfDocument.result w.in-OfDocument.document w.apply-in-OfDocument.new.self (subst IsLed w.in-OfDocument.is c.self.invariant) w.apply-in-OfDocument.ensures)
    ]

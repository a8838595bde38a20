use Rattle.std.proofs.Common.{sym, subst}
use Rattle.window_manager.proofs.SinceSteps.{IsLed, buckets_anewed, document_anewed}
use Rattle.window_manager.proofs.window.Window.run_done.Goals.{in-OfBuckets, in-OfDocument}
use Rattle.window_manager.proofs.window.Window.run_done.Goals as goal

pub invariant_of-self : goal.invariant_of-self
invariant_of-self c =
    elim c.match-self.branch [
      | in-OfBuckets w ↦
          subst IsLed (sym (λ i. (w.self-inside-is i).content))
          (buckets_anewed w.in-OfBuckets.buckets w.run_done.new.self w.run_done.ensures (subst IsLed w.in-OfBuckets.is c.self.invariant))
      | in-OfDocument w ↦
          subst IsLed (sym (λ i. (w.self-inside-is i).content))
          (document_anewed w.in-OfDocument.document w.run_done-in-OfDocument.new.self w.run_done-in-OfDocument.ensures (subst IsLed w.in-OfDocument.is c.self.invariant))
    ]

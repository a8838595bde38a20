-- A window of any kind, by what it is made of.
use Rattle.std.proofs.Common.{◌≡◌, ◌≢◌, ℕ, Bool, true, false, List, [], refl, sym, ap, ◌∙◌, subst}
use Rattle.std.specs.Prelude.{Option, Result, Ok, Err}
use Rattle.std.specs.declared.option.Option.TheVariants.{None}
use Rattle.record_text.specs.declared.command.Command.{Command}
use Rattle.record_text.specs.declared.command.Command.TheVariants.{Bucket, Drop, Late, File, Remove, Edit, Load, Run}
use Rattle.record_text.specs.declared.kind.Kind.{Kind}
use Rattle.record_text.specs.declared.kind.Kind.TheVariants as Kinds
use Rattle.window_manager.specs.Windows.{WindowState, asks_too_many, brought, first_refused, has_command, is_large, refusal_of, window_after}
use Rattle.window_manager.specs.Slides.{Slid, slid_after}
use Rattle.window_manager.specs.Buckets.{Applied, BucketView}
use Rattle.window_manager.specs.Splices.{DocumentView, Edits, IsChangeOf}
use Rattle.window_manager.specs.Views.{Done, WindowView, view_of}
use Rattle.window_manager.specs.declared.fault.WindowFault.{WindowFault}
use Rattle.window_manager.specs.declared.fault.WindowFault.TheVariants.{NotHere, TooMany, BadRecord, WindowLarge, Mem}
use Rattle.window_manager.specs.declared.content.Content.{Content}
use Rattle.window_manager.specs.declared.content.Content.TheVariants.{OfBuckets, OfDocument}
use Rattle.window_manager.proofs.DocumentLaws.{by_tests, not_none, IsTrueTest}

has_if : (h m : Bool) (r : Option ℕ) (l : Bool) → by_tests h m r l ≡ None → h ≡ true
has_if true m r l e = refl
has_if false m r l e = absurd (not_none NotHere (sym e))

-- a command that is not refused is one of the kind's
pub has : (accepts : List ℕ → Bool) (w : WindowState) (c : Command) → refusal_of accepts w c ≡ None → has_command w.kind c ≡ true
has accepts w c e = has_if (has_command w.kind c) (asks_too_many w c) (first_refused accepts (brought c)) (is_large (window_after w c)) e

pub not_true : {A : Type 0} → false ≡ true → A
not_true e = absurd (subst IsTrueTest (sym e) tt)

-- a command of buckets changes no file
no_change : (w : WindowState) (kind : Kind) (c : Command) → kind ≢ Kinds.Document → has_command kind c ≡ true → IsChangeOf w c (record { first = 0; gone = 0; fresh = 0 })
no_change w kind (Bucket records) is here = (refl, refl)
no_change w kind (Drop n) is here = (refl, refl)
no_change w kind (Late place more) is here = (refl, refl)
no_change w kind (File name) is here = (refl, refl)
no_change w kind Run is here = (refl, refl)
no_change w Kinds.Document c is here = absurd (is refl)
no_change w Kinds.Buckets (Remove name) is here = not_true here
no_change w Kinds.Circle (Remove name) is here = not_true here
no_change w Kinds.Growing (Remove name) is here = not_true here
no_change w Kinds.Buckets (Edit at del ins) is here = not_true here
no_change w Kinds.Circle (Edit at del ins) is here = not_true here
no_change w Kinds.Growing (Edit at del ins) is here = not_true here
no_change w Kinds.Buckets (Load records) is here = not_true here
no_change w Kinds.Circle (Load records) is here = not_true here
no_change w Kinds.Growing (Load records) is here = not_true here

-- and one of a document lets no bucket slide
no_slide : (w : WindowState) (c : Command) (s : Slid) → has_command Kinds.Document c ≡ true → s ≡ slid_after w c s
no_slide w (Bucket records) s here = not_true here
no_slide w (Drop n) s here = not_true here
no_slide w (Late place more) s here = not_true here
no_slide w (File name) s here = refl
no_slide w (Remove name) s here = refl
no_slide w (Edit at del ins) s here = refl
no_slide w (Load records) s here = refl
no_slide w Run s here = refl

module _ (accepts : List ℕ → Bool) (c : Command) where
  pub done_buckets : (old new : BucketView) (result : Result (Unit {0}) WindowFault) → old.window.kind ≢ Kinds.Document → Applied accepts old new c result → Done (refusal_of accepts old.window c) (view_of (OfBuckets old)) (view_of (OfBuckets new)) c result
  done_buckets old new (Ok done) is a = (
    a.0,
    record {
      window = ap (λ (v : BucketView). v.window) a.1;
      slid = ap (λ (v : BucketView). v.slid) a.1;
      change = record { first = 0; gone = 0; fresh = 0 };
      changes = no_change old.window old.window.kind c is (has accepts old.window c a.0);
      spliced = λ document. absurd (is document);
      splice = refl;
    },
  )
  done_buckets old new (Err NotHere) is a = (a.0, ap (λ (v : BucketView). view_of (OfBuckets v)) a.1)
  done_buckets old new (Err TooMany) is a = (a.0, ap (λ (v : BucketView). view_of (OfBuckets v)) a.1)
  done_buckets old new (Err (BadRecord i)) is a = (a.0, ap (λ (v : BucketView). view_of (OfBuckets v)) a.1)
  done_buckets old new (Err WindowLarge) is a = (a.0, ap (λ (v : BucketView). view_of (OfBuckets v)) a.1)
  done_buckets old new (Err Mem) is a = (a.0, ap (λ (v : BucketView). view_of (OfBuckets v)) a.1)

  pub done_document : (old new : DocumentView) (result : Result (Unit {0}) WindowFault) → old.window.kind ≡ Kinds.Document → Edits (refusal_of accepts old.window c) old new c result → Done (refusal_of accepts old.window c) (view_of (OfDocument old)) (view_of (OfDocument new)) c result
  done_document old new (Ok done) is a =
      let here : has_command Kinds.Document c ≡ true = ap (λ (k : Kind). has_command k c) (sym is) ∙ has accepts old.window c a.0 in (
        a.0,
        record {
          window = a.1.window;
          slid = (λ i. record { accepted = 0; stood = a.1.stood i; fresh = 0; late = [] }) ∙ no_slide old.window c (record { accepted = 0; stood = old.stood; fresh = 0; late = [] }) here;
          change = a.1.change;
          changes = a.1.changes;
          spliced = λ document. a.1.spliced;
          splice = a.1.splice;
        },
      )
  done_document old new (Err NotHere) is a = (a.0, ap (λ (v : DocumentView). view_of (OfDocument v)) a.1)
  done_document old new (Err TooMany) is a = (a.0, ap (λ (v : DocumentView). view_of (OfDocument v)) a.1)
  done_document old new (Err (BadRecord i)) is a = (a.0, ap (λ (v : DocumentView). view_of (OfDocument v)) a.1)
  done_document old new (Err WindowLarge) is a = (a.0, ap (λ (v : DocumentView). view_of (OfDocument v)) a.1)
  done_document old new (Err Mem) is a = (a.0, ap (λ (v : DocumentView). view_of (OfDocument v)) a.1)

  -- the window that holds these is modelled as they are
  pub seen_as : (before after : Content) (old : WindowView) (result given : Result (Unit {0}) WindowFault) (next : Content) → view_of before ≡ old → next ≡ after → result ≡ given → Done (refusal_of accepts (view_of before).window c) (view_of before) (view_of after) c given → Done (refusal_of accepts old.window c) old (view_of next) c result
  seen_as before after old result given next was is same done =
      subst (λ (v : WindowView). Done (refusal_of accepts v.window c) v (view_of next) c result) was
      (subst (λ (h : Content). Done (refusal_of accepts (view_of before).window c) (view_of before) (view_of h) c result) (sym is)
      (subst (λ (r : Result (Unit {0}) WindowFault). Done (refusal_of accepts (view_of before).window c) (view_of before) (view_of after) c r) (sym same) done))

-- A window of any kind, and what its calls promise.
use Rattle.std.specs.Prelude.{◌≡◌, ◌≢◌, ℕ, [], length, Option, Result, Ok, Err}
use Rattle.std.specs.declared.option.Option.TheVariants.{Some, None}
use Rattle.chunk_store.specs.declared.change.Change.{Change}
use Rattle.chunk_store.specs.Documents.{IsSplice}
use Rattle.record_text.specs.declared.command.Command.{Command}
use Rattle.record_text.specs.declared.kind.Kind.{Kind}
use Rattle.record_text.specs.declared.kind.Kind.TheVariants as Kinds
use Rattle.record_text.specs.declared.shift.Shift.{Shift}
use Rattle.record_text.specs.declared.shift.Shift.TheVariants.{Splice}
use Rattle.window_manager.specs.Windows.{WindowState, empty_window, window_after}
use Rattle.window_manager.specs.Slides.{Slid, not_slid, slid_after, slid_anew, slide_of}
use Rattle.window_manager.specs.Splices.{IsChangeOf, splice_after}
use Rattle.window_manager.specs.declared.fault.WindowFault.{WindowFault}
use Rattle.window_manager.specs.declared.fault.WindowFault.TheVariants.{Mem}
use Rattle.window_manager.specs.declared.content.Content.{Content}
use Rattle.window_manager.specs.declared.content.Content.TheVariants.{OfBuckets, OfDocument}

-- A window: what it holds, what is known of its leaves since the last run, and of a document the splice since then.
pub record WindowView : Type 0 where
  pub window : WindowState
  pub slid : Slid
  pub splice : Shift

-- No change.
abbrev pub no_splice : Shift
no_splice = Splice 0 0 0

-- Before the first command.
abbrev pub no_leaves : Kind → ℕ → WindowView
no_leaves kind places = record { window = empty_window kind places; slid = not_slid; splice = no_splice }

-- After a run.
abbrev pub view_anew : WindowView → WindowView
view_anew v = record { window = v.window; slid = slid_anew (length v.window.leaves) v.slid; splice = no_splice }

-- How the leaves changed since the last run: a document by its splice, buckets by their slide.
abbrev pub shift_by : Kind → ℕ → Slid → Shift → Shift
shift_by Kinds.Document count slid splice = splice
shift_by kind count slid splice = slide_of count slid

-- The shift of a window.
abbrev pub shift_of : WindowView → Shift
shift_of v = shift_by v.window.kind (length v.window.leaves) v.slid v.splice

-- After a command that a window carried out.
pub record IsDone (old new : WindowView) (c : Command) : Type 0 where
  pub window : new.window ≡ window_after old.window c
  pub slid : new.slid ≡ slid_after old.window c old.slid
  pub change : Change
  pub changes : IsChangeOf old.window c change
  pub spliced : old.window.kind ≡ Kinds.Document → IsSplice old.window.leaves new.window.leaves change
  pub splice : new.splice ≡ splice_after old.slid.stood (length old.window.leaves) (length new.window.leaves) old.splice change

-- A command was carried out, or refused with the window unchanged; out of memory comes only if nothing refuses it.
abbrev pub Done : Option WindowFault → WindowView → WindowView → Command → Result (Unit {0}) WindowFault → Type 0
Done refusal old new c (Ok done) = (refusal ≡ None) × IsDone old new c
Done refusal old new c (Err Mem) = (refusal ≡ None) × (new ≡ old)
Done refusal old new c (Err fault) = (refusal ≡ Some fault) × (new ≡ old)

-- The model of a window, by its content.
abbrev pub view_of : Content → WindowView
view_of (OfBuckets b) = record { window = b.window; slid = b.slid; splice = no_splice }
view_of (OfDocument d) = record { window = d.window; slid = record { accepted = 0; stood = d.stood; fresh = 0; late = [] }; splice = d.splice }

-- The content fits the kind.
abbrev pub FitsKind : Content → Type 0
FitsKind (OfBuckets b) = b.window.kind ≢ Kinds.Document
FitsKind (OfDocument d) = d.window.kind ≡ Kinds.Document

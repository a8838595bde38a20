-- The model of a window of buckets, and what its calls promise.
use Rattle.std.specs.Prelude.{◌≡◌, ◌≢◌, ℕ, ◌≤◌, Bool, true, false, ◌&&◌, nat_le, if◌then◌else◌, List, length, Result, Ok, Err}
use Rattle.std.specs.declared.option.Option.TheVariants.{Some, None}
use Rattle.definitions.specs.Limits.{most_buckets, most_places, most_text}
pub use Rattle.chunk_store.specs.Documents.{text_size}
use Rattle.record_text.specs.declared.kind.Kind.{Kind}
use Rattle.record_text.specs.declared.kind.Kind.TheVariants as Kinds
use Rattle.record_text.specs.declared.command.Command.{Command}
use Rattle.record_text.specs.declared.shift.Shift.{Shift}
use Rattle.window_manager.specs.Windows.{WindowState, empty_window, window_after, has_command, asks_too_many, is_large, is_circle, refusal_of}
use Rattle.window_manager.specs.Slides.{Slid, not_slid, slid_after, slid_anew, FitsCount}
use Rattle.window_manager.specs.declared.fault.WindowFault.{WindowFault}
use Rattle.window_manager.specs.declared.fault.WindowFault.TheVariants.{Mem}

-- A window of buckets: what it holds, and what is known of its change since the last run.
pub record BucketView : Type 0 where
  pub window : WindowState
  pub slid : Slid

-- Before the first command.
abbrev pub no_buckets : Kind → ℕ → BucketView
no_buckets kind places = record { window = empty_window kind places; slid = not_slid }

-- After a command.
abbrev pub buckets_after : BucketView → Command → BucketView
buckets_after v c = record { window = window_after v.window c; slid = slid_after v.window c v.slid }

-- After a run.
abbrev pub buckets_anew : BucketView → BucketView
buckets_anew v = record { window = v.window; slid = slid_anew (length v.window.leaves) v.slid }

-- How many leaves go when a new one comes: the oldest of a full circle.
abbrev pub leaving : Kind → ℕ → ℕ → ℕ
leaving kind places count = if is_circle kind && nat_le places count then 1 else 0

-- What holds of every window of buckets.
pub record IsOfBuckets (w : WindowState) : Type 0 where
  pub buckets : w.kind ≢ Kinds.Document
  pub some : 1 ≤ w.places
  pub few : w.places ≤ most_places
  pub small : text_size w.leaves ≤ most_text
  pub count : length w.leaves ≤ most_buckets
  pub circle : w.kind ≡ Kinds.Circle → length w.leaves ≤ w.places

-- What a window keeps with its buckets: the size of their text, and how they changed.
pub record AreKept (w : WindowState) (size : ℕ) (shift : Shift) : Type 0 where
  pub window : IsOfBuckets w
  pub sized : size ≡ text_size w.leaves
  pub fits : FitsCount shift (length w.leaves)

-- Nothing refuses a command whose records are accepted.
pub record IsAllowed (w : WindowState) (c : Command) : Type 0 where
  pub has : has_command w.kind c ≡ true
  pub few : asks_too_many w c ≡ false
  pub small : is_large (window_after w c) ≡ false

-- A command was carried out, or refused with the window unchanged; out of memory comes only if nothing refuses it.
abbrev pub Applied : (List ℕ → Bool) → BucketView → BucketView → Command → Result (Unit {0}) WindowFault → Type 0
Applied accepts old new c (Ok done) = (refusal_of accepts old.window c ≡ None) × (new ≡ buckets_after old c)
Applied accepts old new c (Err Mem) = (refusal_of accepts old.window c ≡ None) × (new ≡ old)
Applied accepts old new c (Err fault) = (refusal_of accepts old.window c ≡ Some fault) × (new ≡ old)

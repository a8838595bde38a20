-- How the leaves of a document changed since its last run.
use Rattle.std.specs.Prelude.{◌≡◌, ℕ, ◌+◌, ◌-◌, ◌≤◌, Bool, true, false, not, ◌==◌, ◌&&◌, min, if◌then◌else◌, List, [], length, Option, Result, Ok, Err}
use Rattle.std.specs.declared.option.Option.TheVariants.{Some, None}
use Rattle.marker_chunker.specs.Cuts.{chunks_of}
use Rattle.chunk_store.specs.declared.change.Change.{Change}
use Rattle.chunk_store.specs.declared.change.EditFault.{EditFault}
use Rattle.chunk_store.specs.declared.change.EditFault.TheVariants as EditFaults
use Rattle.chunk_store.specs.Documents.{IsSplice}
use Rattle.chunk_store.specs.Files.{IsEditOf, IsLoadOf}
use Rattle.record_text.specs.declared.command.Command.{Command}
use Rattle.record_text.specs.declared.command.Command.TheVariants.{Remove, Edit, Load}
use Rattle.record_text.specs.declared.shift.Shift.{Shift}
use Rattle.record_text.specs.declared.shift.Shift.TheVariants.{Slide, Splice}
use Rattle.record_text.specs.declared.kind.Kind.TheVariants as Kinds
use Rattle.window_manager.specs.Windows.{Leaf, WindowState, empty_window, window_after, has_command, asks_too_many, brought, first_refused, record_refusal}
use Rattle.window_manager.specs.declared.fault.WindowFault.{WindowFault}
use Rattle.window_manager.specs.declared.fault.WindowFault.TheVariants.{NotHere, TooMany, WindowLarge, Mem}

-- The splice between the leaves kept before it and those kept after it, of `stood` old leaves and `count` new ones.
abbrev pub between : ℕ → ℕ → ℕ → ℕ → Shift
between stood count first kept = Splice first (stood - kept - first) (count - kept - first)

-- The composition of a splice with a change: `stood` leaves were there at the last run, `old` before the change and
-- `new` after it.
abbrev pub splice_after : ℕ → ℕ → ℕ → Shift → Change → Shift
splice_after stood old new (Splice first gone fresh) change =
    if (change.gone == 0) && (change.fresh == 0) then Splice first gone fresh
    else if (gone == 0) && (fresh == 0) then Splice change.first change.gone change.fresh
    else between stood new (min first change.first) (min (stood - (first + gone)) (old - (change.first + change.gone)))
splice_after stood old new (Slide first gone places fresh) change = Slide first gone places fresh

-- The change that a command makes of the chunks of a window's files: none but by an edit, a load or a removal.
abbrev pub IsChangeOf : WindowState → Command → Change → Type 0
IsChangeOf w (Edit at del ins) change = IsEditOf at del ins w.current w.files change
IsChangeOf w (Load records) change = IsLoadOf (chunks_of records) w.current w.files change
IsChangeOf w (Remove name) change = IsLoadOf [] name w.files change
IsChangeOf w c change = (change.gone ≡ 0) × (change.fresh ≡ 0)

-- A splice from `stood` leaves to `count`: as many are kept at the end of both.
abbrev pub FitsSplice : ℕ → Shift → ℕ → Type 0
FitsSplice stood (Splice first gone fresh) count = (first + gone ≤ stood) × (first + fresh ≤ count) × (stood + fresh ≡ count + gone)
FitsSplice stood (Slide first gone places fresh) count = ⊥

-- A document: what it holds, how many leaves there were at the last run, and the splice since then.
pub record DocumentView : Type 0 where
  pub window : WindowState
  pub stood : ℕ
  pub splice : Shift

-- Before the first command.
abbrev pub no_document : ℕ → DocumentView
no_document places = record { window = empty_window Kinds.Document places; stood = 0; splice = Splice 0 0 0 }

-- After a run.
abbrev pub document_anew : DocumentView → DocumentView
document_anew v = record { window = v.window; stood = length v.window.leaves; splice = Splice 0 0 0 }

-- The leaves became others by this splice: those before it and those after it are the old ones.
abbrev pub Leads : List Leaf → List Leaf → Shift → Type 0
Leads olds news (Splice first gone fresh) = IsSplice olds news (record { first = first; gone = gone; fresh = fresh })
Leads olds news (Slide first gone places fresh) = ⊥

-- If a splice leads to some leaves and a change leads on from them, their composition leads all the way.
abbrev pub SplicesJoin : Type 0
SplicesJoin = (olds mids news : List Leaf) (splice : Shift) (change : Change) → Leads olds mids splice → IsSplice mids news change → Leads olds news (splice_after (length olds) (length mids) (length news) splice change)

-- After a command that a document carried out.
pub record IsAfter (old new : DocumentView) (c : Command) : Type 0 where
  pub window : new.window ≡ window_after old.window c
  pub stood : new.stood ≡ old.stood
  pub change : Change
  pub changes : IsChangeOf old.window c change
  pub spliced : IsSplice old.window.leaves new.window.leaves change
  pub splice : new.splice ≡ splice_after old.stood (length old.window.leaves) (length new.window.leaves) old.splice change

-- A command was carried out, or refused with the document unchanged; out of memory comes only if nothing refuses it.
abbrev pub Edits : Option WindowFault → DocumentView → DocumentView → Command → Result (Unit {0}) WindowFault → Type 0
Edits refusal old new c (Ok done) = (refusal ≡ None) × IsAfter old new c
Edits refusal old new c (Err Mem) = (refusal ≡ None) × (new ≡ old)
Edits refusal old new c (Err fault) = (refusal ≡ Some fault) × (new ≡ old)

-- The refusal, apart from the size of the text.
abbrev pub early_refusal : (List ℕ → Bool) → WindowState → Command → Option WindowFault
early_refusal accepts w c =
    if not (has_command w.kind c) then Some NotHere
    else if asks_too_many w c then Some TooMany
    else record_refusal (first_refused accepts (brought c)) false

-- The refusal of an edit or a load by the files, as one of the window.
abbrev pub fault_of : EditFault → WindowFault
fault_of EditFaults.TooMany = TooMany
fault_of EditFaults.WindowLarge = WindowLarge
fault_of EditFaults.Mem = Mem

-- The result of a command that can be refused only for the size of the text.
abbrev pub Carried : Bool → Result (Unit {0}) WindowFault → Type 0
Carried large (Ok done) = large ≡ false
Carried large (Err WindowLarge) = large ≡ true
Carried large (Err Mem) = large ≡ false
Carried large (Err fault) = ⊥

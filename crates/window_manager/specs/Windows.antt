-- Windows: what they hold, what a command makes of them, and what they refuse.
use Rattle.std.specs.Prelude.{ℕ, zero, suc, ◌+◌, ◌-◌, Bool, true, false, not, ◌&&◌, ◌||◌, ◌==◌, nat_le, nat_lt, if◌then◌else◌, List, [], ◌∷◌, ◌++◌, length, drop, Option}
use Rattle.std.specs.declared.option.Option.TheVariants.{Some, None}
use Rattle.definitions.specs.Limits.{most_buckets, most_files, most_text}
use Rattle.definitions.specs.Records.{text_of}
use Rattle.marker_chunker.specs.Cuts.{chunks_of, joined}
use Rattle.chunk_store.specs.Documents.{spliced}
use Rattle.chunk_store.specs.Files.{File as NamedFile, all_chunks, file_at, with_file}
use Rattle.record_text.specs.declared.kind.Kind.{Kind}
use Rattle.record_text.specs.declared.kind.Kind.TheVariants as Kinds
use Rattle.record_text.specs.declared.command.Command.{Command}
use Rattle.record_text.specs.declared.command.Command.TheVariants.{Bucket, Drop, Late, File, Remove, Edit, Load, Run}
use Rattle.window_manager.specs.declared.fault.WindowFault.{WindowFault}
use Rattle.window_manager.specs.declared.fault.WindowFault.TheVariants.{NotHere, TooMany, BadRecord, WindowLarge}

-- A leaf: a list of records.
abbrev pub Leaf : Type 0
Leaf = List (List ℕ)

-- What a window holds: its kind, how many places a circle has, its leaves, and of a document its files, each with the
-- chunks into which its records are cut, and the name of the current one. The leaves of a document are these chunks.
pub record WindowState : Type 0 where
  pub kind : Kind
  pub places : ℕ
  pub leaves : List Leaf
  pub files : List NamedFile
  pub current : List ℕ

-- A window before its first command.
abbrev pub empty_window : Kind → ℕ → WindowState
empty_window kind places = record { kind = kind; places = places; leaves = []; files = []; current = [] }

-- The records of a window: those of its leaves, end to end.
abbrev pub present : WindowState → List (List ℕ)
present w = joined w.leaves

-- The last `n` of a list, or all if there are fewer.
abbrev pub last_of : {A : Type 0} → ℕ → List A → List A
last_of n xs = drop (length xs - n) xs

-- The leaves with one more at the end: a circle keeps as many of the last ones as it has places.
abbrev pub with_leaf : Kind → ℕ → List Leaf → Leaf → List Leaf
with_leaf Kinds.Circle places leaves leaf = last_of places (leaves ++ leaf ∷ [])
with_leaf kind places leaves leaf = leaves ++ leaf ∷ []

-- The leaves with records added at the end of one, by its place.
abbrev pub with_late : ℕ → List (List ℕ) → List Leaf → List Leaf
with_late place more [] = []
with_late zero more (leaf ∷ leaves) = (leaf ++ more) ∷ leaves
with_late (suc place) more (leaf ∷ leaves) = leaf ∷ with_late place more leaves

-- The document with these files.
abbrev pub with_files : WindowState → List NamedFile → WindowState
with_files w files = record w { leaves = all_chunks files; files = files }

-- The records of the current file.
abbrev pub current_records : WindowState → List (List ℕ)
current_records w = joined (file_at w.current w.files)

-- The document whose current file has these records, cut from nothing.
abbrev pub with_current : WindowState → List (List ℕ) → WindowState
with_current w records = with_files w (with_file w.current (chunks_of records) w.files)

-- The window after a command.
abbrev pub window_after : WindowState → Command → WindowState
window_after w (Bucket records) = record w { leaves = with_leaf w.kind w.places w.leaves records }
window_after w (Drop n) = record w { leaves = drop n w.leaves }
window_after w (Late place more) = record w { leaves = with_late place more w.leaves }
window_after w (File name) = record w { current = name }
window_after w (Remove name) = with_files w (with_file name [] w.files)
window_after w (Edit at del ins) = with_current w (spliced at del ins (current_records w))
window_after w (Load records) = with_current w records
window_after w Run = w

-- Which commands a kind has.
abbrev pub has_command : Kind → Command → Bool
has_command Kinds.Buckets (Bucket records) = true
has_command Kinds.Buckets (Drop n) = true
has_command Kinds.Buckets (Late place more) = true
has_command Kinds.Circle (Bucket records) = true
has_command Kinds.Circle (Late place more) = true
has_command Kinds.Growing (Bucket records) = true
has_command Kinds.Document (File name) = true
has_command Kinds.Document (Remove name) = true
has_command Kinds.Document (Edit at del ins) = true
has_command Kinds.Document (Load records) = true
has_command kind command = false

-- Whether a kind drops its oldest leaf for a new one.
abbrev pub is_circle : Kind → Bool
is_circle Kinds.Circle = true
is_circle kind = false

-- Whether these records would make the current file one too many: it has none, and as many files as may have records.
abbrev pub is_one_too_many : WindowState → List (List ℕ) → Bool
is_one_too_many w records = (length (current_records w) == 0) && nat_lt 0 (length records) && nat_le most_files (length w.files)

-- Whether a command asks for more than there is, or than there may be.
abbrev pub asks_too_many : WindowState → Command → Bool
asks_too_many w (Bucket records) = not (is_circle w.kind) && nat_le most_buckets (length w.leaves)
asks_too_many w (Drop n) = nat_lt (length w.leaves) n
asks_too_many w (Late place more) = nat_le (length w.leaves) place
asks_too_many w (Edit at del ins) = nat_lt (length (current_records w)) (at + del) || is_one_too_many w ins
asks_too_many w (Load records) = is_one_too_many w records
asks_too_many w command = false

-- The records that a command brings.
abbrev pub brought : Command → List (List ℕ)
brought (Bucket records) = records
brought (Late place more) = more
brought (Edit at del ins) = ins
brought (Load records) = records
brought command = []

-- The index of the first record that is not accepted, if the first of these has the index `at`.
abbrev pub refused_from : (List ℕ → Bool) → ℕ → List (List ℕ) → Option ℕ
refused_from accepts at [] = None
refused_from accepts at (r ∷ rs) = if accepts r then refused_from accepts (at + 1) rs else Some at

-- The index of the first record that is not accepted.
abbrev pub first_refused : (List ℕ → Bool) → List (List ℕ) → Option ℕ
first_refused accepts records = refused_from accepts 0 records

-- Whether a window has more than 268,435,456 bytes of text.
abbrev pub is_large : WindowState → Bool
is_large w = nat_lt most_text (length (text_of (present w)))

-- The refusal of a record, or else of the size of the text.
abbrev pub record_refusal : Option ℕ → Bool → Option WindowFault
record_refusal (Some index) large = Some (BadRecord index)
record_refusal None large = if large then Some WindowLarge else None

-- Why a command is refused: the first reason in this order.
abbrev pub refusal_of : (List ℕ → Bool) → WindowState → Command → Option WindowFault
refusal_of accepts w c =
    if not (has_command w.kind c) then Some NotHere
    else if asks_too_many w c then Some TooMany
    else record_refusal (first_refused accepts (brought c)) (is_large (window_after w c))

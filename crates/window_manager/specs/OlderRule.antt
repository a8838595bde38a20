-- The rule of windows without names of files: a document is one list of records. It has no commands that name a file.
use Rattle.std.specs.Prelude.{◌≡◌, ℕ, ◌+◌, Bool, true, false, not, ◌&&◌, nat_le, nat_lt, if◌then◌else◌, List, [], ◌∷◌, length, drop, All, Result, Ok, Err, Option}
use Rattle.std.specs.declared.option.Option.TheVariants.{Some, None}
use Rattle.definitions.specs.Limits.{most_buckets, most_text}
use Rattle.definitions.specs.Records.{text_of}
use Rattle.marker_chunker.specs.Cuts.{chunks_of, joined}
use Rattle.chunk_store.specs.Documents.{spliced}
use Rattle.record_text.specs.declared.kind.Kind.{Kind}
use Rattle.record_text.specs.declared.kind.Kind.TheVariants as Kinds
use Rattle.record_text.specs.declared.command.Command.{Command}
use Rattle.record_text.specs.declared.command.Command.TheVariants.{Bucket, Drop, Late, File, Remove, Edit, Load}
use Rattle.window_manager.specs.Windows.{Leaf, WindowState, empty_window, with_leaf, with_late, window_after, is_circle, brought, first_refused, record_refusal, refusal_of}
use Rattle.window_manager.specs.declared.fault.WindowFault.{WindowFault}
use Rattle.window_manager.specs.declared.fault.WindowFault.TheVariants.{NotHere, TooMany}

-- What a window holds: its kind, how many places a circle has, and its leaves.
pub record OlderState : Type 0 where
  pub kind : Kind
  pub places : ℕ
  pub leaves : List Leaf

-- The leaves after a command.
abbrev pub older_leaves : OlderState → Command → List Leaf
older_leaves w (Bucket records) = with_leaf w.kind w.places w.leaves records
older_leaves w (Drop n) = drop n w.leaves
older_leaves w (Late place more) = with_late place more w.leaves
older_leaves w (Edit at del ins) = chunks_of (spliced at del ins (joined w.leaves))
older_leaves w (Load records) = chunks_of records
older_leaves w command = w.leaves

-- The window after a command.
abbrev pub older_after : OlderState → Command → OlderState
older_after w c = record w { leaves = older_leaves w c }

-- Which commands a kind has.
abbrev pub older_has : Kind → Command → Bool
older_has Kinds.Buckets (Bucket records) = true
older_has Kinds.Buckets (Drop n) = true
older_has Kinds.Buckets (Late place more) = true
older_has Kinds.Circle (Bucket records) = true
older_has Kinds.Circle (Late place more) = true
older_has Kinds.Growing (Bucket records) = true
older_has Kinds.Document (Edit at del ins) = true
older_has Kinds.Document (Load records) = true
older_has kind command = false

-- Whether a command asks for more than there is, or than there may be.
abbrev pub older_asks_too_many : OlderState → Command → Bool
older_asks_too_many w (Bucket records) = not (is_circle w.kind) && nat_le most_buckets (length w.leaves)
older_asks_too_many w (Drop n) = nat_lt (length w.leaves) n
older_asks_too_many w (Late place more) = nat_le (length w.leaves) place
older_asks_too_many w (Edit at del ins) = nat_lt (length (joined w.leaves)) (at + del)
older_asks_too_many w command = false

-- Why a command is refused: the first reason in this order.
abbrev pub older_refusal : (List ℕ → Bool) → OlderState → Command → Option WindowFault
older_refusal accepts w c =
    if not (older_has w.kind c) then Some NotHere
    else if older_asks_too_many w c then Some TooMany
    else record_refusal (first_refused accepts (brought c)) (nat_lt most_text (length (text_of (joined (older_leaves w c)))))

-- How a script goes on after a command that is not refused.
abbrev pub unless_refused : Option WindowFault → Result (List Leaf) WindowFault → Result (List Leaf) WindowFault
unless_refused None more = more
unless_refused (Some fault) more = Err fault

-- The leaves after commands, or the first refusal.
abbrev pub leaves_after : (List ℕ → Bool) → WindowState → List Command → Result (List Leaf) WindowFault
leaves_after accepts w [] = Ok w.leaves
leaves_after accepts w (c ∷ cs) = unless_refused (refusal_of accepts w c) (leaves_after accepts (window_after w c) cs)

-- The same by the rule without files.
abbrev pub older_leaves_after : (List ℕ → Bool) → OlderState → List Command → Result (List Leaf) WindowFault
older_leaves_after accepts w [] = Ok w.leaves
older_leaves_after accepts w (c ∷ cs) = unless_refused (older_refusal accepts w c) (older_leaves_after accepts (older_after w c) cs)

-- A command that names no file.
abbrev pub NamesNoFile : Command → Type 0
NamesNoFile (File name) = ⊥
NamesNoFile (Remove name) = ⊥
NamesNoFile command = Unit {0}

-- Over commands that name no file both rules give the same leaves and the same refusals.
abbrev pub SameWithoutFiles : Type 0
SameWithoutFiles = (accepts : List ℕ → Bool) (kind : Kind) (places : ℕ) (cs : List Command) → All NamesNoFile cs →
    leaves_after accepts (empty_window kind places) cs ≡ older_leaves_after accepts (record { kind = kind; places = places; leaves = [] }) cs

-- The table of commands: what a command line asks for.
use Rattle.std.specs.Prelude.{ℕ, if◌then◌else◌, List, [], ◌∷◌, codes, bytes_eq, Option, Result, Ok, Err}
use Rattle.std.specs.declared.option.Option.TheVariants.{Some, None}
use Rattle.record_text.specs.Fields.{fields_of, no_field, one_number, two_numbers, three_numbers, one_name, IsForm}
use Rattle.record_text.specs.declared.command.Command.{Command}
use Rattle.record_text.specs.declared.command.Command.TheVariants.{Bucket, Drop, Late, File, Remove, Edit, Load, Run}
use Rattle.record_text.specs.declared.script_fault.Why.{Why}
use Rattle.record_text.specs.declared.script_fault.Why.TheVariants.{Unknown}
use Rattle.record_text.specs.declared.words.Word.{Word}
use Rattle.record_text.specs.declared.words.Word.TheVariants as Words
use Rattle.record_text.specs.declared.table.Head.{Head}
use Rattle.record_text.specs.declared.table.Head.TheVariants.{OfBucket, OfDrop, OfLate, OfFile, OfRemove, OfEdit, OfLoad, OfRun}
use Rattle.record_text.specs.declared.table.Asked.{Asked}
use Rattle.record_text.specs.declared.table.Asked.TheVariants.{Asks, Refuses}

-- The command words.
abbrev pub word_of : List ℕ → Option Word
word_of bytes =
    if bytes_eq bytes (codes "bucket") then Some Words.Bucket
    else if bytes_eq bytes (codes "drop") then Some Words.Drop
    else if bytes_eq bytes (codes "late") then Some Words.Late
    else if bytes_eq bytes (codes "file") then Some Words.File
    else if bytes_eq bytes (codes "remove") then Some Words.Remove
    else if bytes_eq bytes (codes "edit") then Some Words.Edit
    else if bytes_eq bytes (codes "load") then Some Words.Load
    else if bytes_eq bytes (codes "run") then Some Words.Run
    else None

-- A row asks for a command by its fields, or refuses them.
abbrev pub row : {A : Type 0} → Result A Why → (A → Asked) → Asked
row (Ok fields) asks = asks fields
row (Err why) asks = Refuses why

-- The table: a command word and its fields ask for a command with a number of record lines.
abbrev pub row_of : Word → List (List ℕ) → Asked
row_of Words.Bucket fields = row (one_number fields) (λ n. Asks OfBucket n)
row_of Words.Drop fields = row (one_number fields) (λ n. Asks (OfDrop n) 0)
row_of Words.Late fields = row (two_numbers fields) (λ place_n. Asks (OfLate place_n.0) place_n.1)
row_of Words.File fields = row (one_name fields) (λ name. Asks (OfFile name) 0)
row_of Words.Remove fields = row (one_name fields) (λ name. Asks (OfRemove name) 0)
row_of Words.Edit fields = row (three_numbers fields) (λ at_del_n. Asks (OfEdit at_del_n.0 at_del_n.1) at_del_n.2)
row_of Words.Load fields = row (one_number fields) (λ n. Asks OfLoad n)
row_of Words.Run fields = row (no_field fields) (λ none. Asks OfRun 0)

-- The row of a word, if the table has it.
abbrev pub row_at : Option Word → List (List ℕ) → Asked
row_at None fields = Refuses Unknown
row_at (Some word) fields = row_of word fields

-- The first field is the command word.
abbrev pub asked_by : List (List ℕ) → Asked
asked_by [] = Refuses Unknown
asked_by (word ∷ fields) = row_at (word_of word) fields

-- What a command line asks for.
unfoldable pub asked : List ℕ → Asked
asked line = asked_by (fields_of line)

-- The command, once all its record lines were read.
abbrev pub command_of : Head → List (List ℕ) → Command
command_of OfBucket got = Bucket got
command_of (OfDrop n) got = Drop n
command_of (OfLate place) got = Late place got
command_of (OfFile name) got = File name
command_of (OfRemove name) got = Remove name
command_of (OfEdit at del) got = Edit at del got
command_of OfLoad got = Load got
command_of OfRun got = Run

-- A command line is refused only for its form.
abbrev pub RefusesForm : Asked → Type 0
RefusesForm (Asks head n) = Unit {0}
RefusesForm (Refuses why) = IsForm why

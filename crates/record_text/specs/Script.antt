-- The commands of a script, each with its line, and how the script ends.
use Rattle.std.specs.Prelude.{ℕ, zero, suc, ◌+◌, Bool, ◌==◌, nat_le, nat_lt, if◌then◌else◌, List, [], ◌∷◌, ◌++◌, length, take}
use Rattle.definitions.specs.Limits.{most_record, most_text}
use Rattle.definitions.specs.Records.{text_of}
use Rattle.record_text.specs.Lines.{pieces}
use Rattle.record_text.specs.Table.{asked, command_of}
use Rattle.record_text.specs.declared.command.Command.{Command}
use Rattle.record_text.specs.declared.script_fault.Why.{Why}
use Rattle.record_text.specs.declared.script_fault.Why.TheVariants.{ShortInput, LongLine, LongScript, WindowLarge}
use Rattle.record_text.specs.declared.table.Head.{Head}
use Rattle.record_text.specs.declared.table.Asked.TheVariants.{Asks, Refuses}

-- The end of the whole script, or the first fault with its line.
pub data Ending : Type 0 where
  Done : Ending
  Faulty : ℕ → Why → Ending

-- Commands, each with its line, and what ends them.
abbrev pub Script : Type 0
Script = List (Command × ℕ) × Ending

-- A script with one command more at its head.
abbrev pub with_command : Command × ℕ → Script → Script
with_command c s = (c ∷ s.0, s.1)

-- The records of one command have at most 268,435,456 bytes of text.
abbrev pub fits_command : List (List ℕ) → Bool
fits_command records = nat_le (length (text_of records)) most_text

-- What comes next: a command line, or a record line of the command on line `at`, which waits for `others` more after
-- it.
pub data Awaits : Type 0 where
  ACommand : Awaits
  ARecord : (at : ℕ) (head : Head) (others : ℕ) (got : List (List ℕ)) → Awaits

-- The command on line `at` is whole once it waits for no record line.
abbrev pub after_records : ℕ → Head → ℕ → List (List ℕ) → (Awaits → Script) → Script
after_records at head zero got go = with_command (command_of head got, at) (go ACommand)
after_records at head (suc n) got go = go (ARecord at head n got)

-- A line, where `go` says how the script continues after it.
abbrev pub step : Awaits → ℕ → List ℕ → (Awaits → Script) → Script
step ACommand num line go = elim (asked line) [
  | Asks head n ↦ after_records num head n [] go
  | Refuses why ↦ ([], Faulty num why)
]
step (ARecord at head others got) num line go =
    if fits_command (got ++ line ∷ []) then after_records at head others (got ++ line ∷ []) go else ([], Faulty at WindowLarge)

-- The script ends where a line would come.
abbrev pub finish : Awaits → Script
finish ACommand = ([], Done)
finish (ARecord at head others got) = ([], Faulty at ShortInput)

-- The commands of lines from line `num` on and of the rest after the last LF. `full`: the script goes on past these
-- bytes, of which only the first `most` count.
abbrev pub walk : Bool → Awaits → ℕ → List (List ℕ) → List ℕ → Script
walk full awaits num [] rest =
    if nat_lt most_record (length rest) then ([], Faulty num LongLine)
    else if full then ([], Faulty num LongScript)
    else if length rest == 0 then finish awaits
    else step awaits num rest finish
walk full awaits num (line ∷ lines) rest =
    if nat_lt most_record (length line) then ([], Faulty num LongLine)
    else step awaits num line (λ next. walk full next (num + 1) lines rest)

-- The commands of these bytes, whose first line has the number `num`.
unfoldable pub from_line : Bool → Awaits → ℕ → List ℕ → Script
from_line full awaits num bytes = walk full awaits num (pieces bytes).0 (pieces bytes).1

-- The commands of a script of which the first `most` bytes count.
unfoldable pub commands : ℕ → List ℕ → Script
commands most script = from_line (nat_le most (length script)) ACommand 1 (take most script)

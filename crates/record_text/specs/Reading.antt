-- What a reader that holds a prefix of a script knows about the rest.
use Rattle.std.specs.Prelude.{◌≡◌, ◌≢◌, ℕ, ◌+◌, ◌^◌, ◌<◌, ◌≤◌, Bool, true, false, nat_le, List, [], ◌++◌, length, take, drop, Option, Result, Ok, Err, ◌⊎◌}
use Rattle.std.specs.declared.option.Option.TheVariants.{Some, None}
use Rattle.definitions.specs.Outside.{Told}
use Rattle.definitions.specs.Records.{IsRecord}
use Rattle.record_text.specs.Ahead.{most_piece}
use Rattle.record_text.specs.Lines.{EndsLine, HasNoLine}
use Rattle.record_text.specs.Table.{command_of}
use Rattle.record_text.specs.Script.{Awaits, ACommand, Script, Done, Faulty, from_line, step, with_command, after_records}
use Rattle.record_text.specs.declared.command.Command.{Command}
use Rattle.record_text.specs.declared.script_fault.ScriptFault.{ScriptFault}
use Rattle.record_text.specs.declared.script_fault.Why.{Why}
use Rattle.record_text.specs.declared.script_fault.Why.TheVariants.{LongLine, LongScript, Read, Mem}
use Rattle.record_text.specs.declared.table.Head.{Head}
use Rattle.record_text.specs.declared.reading.Reading.{Reading}
use Rattle.record_text.specs.declared.reading.Found.{Found}
use Rattle.record_text.specs.declared.reading.Found.TheVariants.{Line, End, Long, Cut, More}

-- What comes after the used bytes; if the source has ended, that is only the bytes ahead.
abbrev pub Goes : Bool → List ℕ → Bool → List ℕ → Type 0
Goes ended ahead full x = ended ≡ true → (full ≡ false) × (x ≡ ahead)

-- What comes after the bytes ahead: nothing if the source has ended, or if no more bytes count.
abbrev pub Comes : Bool → ℕ → Bool → List ℕ → Type 0
Comes ended room full x = (ended ≡ true → (full ≡ false) × (x ≡ [])) × (room ≡ 0 → (full ≡ true) × (x ≡ []))

-- The first `n` bytes ahead are a line, which has `skip` bytes with its line end.
pub record IsLine (ended : Bool) (ahead : List ℕ) (n skip : ℕ) : Type 0 where
  pub within : skip ≤ length ahead
  pub prefix : n ≤ skip
  pub some : 0 < skip
  pub fits : IsRecord (take n ahead)
  pub ends : ended ≡ false → EndsLine (take skip ahead)
  pub reads : (full : Bool) (x : List ℕ) (w : Awaits) (num : ℕ) → Goes ended (drop skip ahead) full x → from_line full w num (take skip ahead ++ x) ≡ step w num (take n ahead) (λ next. from_line full next (num + 1) x)

-- The next line does not end in these bytes, and more may come.
abbrev pub Lacks : List ℕ → Type 0
Lacks ahead = (w : Awaits) (num : ℕ) → from_line true w num ahead ≡ ([], Faulty num LongScript)

-- What the bytes ahead show of the next line.
abbrev pub FoundIs : Bool → ℕ → List ℕ → Found → Type 0
FoundIs ended room ahead (Line n skip) = IsLine ended ahead n skip
FoundIs ended room ahead End = (ended ≡ true) × (ahead ≡ [])
FoundIs ended room ahead Long = (full : Bool) (x : List ℕ) (w : Awaits) (num : ℕ) → from_line full w num (ahead ++ x) ≡ ([], Faulty num LongLine)
FoundIs ended room ahead Cut = (room ≡ 0) × ((w : Awaits) (num : ℕ) → from_line true w num ahead ≡ ([], Faulty num LongScript))
FoundIs ended room ahead More = (ended ≡ false) × (0 < room) × HasNoLine ahead × Lacks ahead

-- The state of a reader fits its source, which has `left`: a source that ended has nothing left, and lines can be counted.
pub record Sound (r : Reading) (left : Option (List ℕ)) : Type 0 where
  pub empty : r.ended ≡ true → (m : List ℕ) → left ≡ Some m → m ≡ []
  pub more : r.ended ≡ true → 0 < r.room
  pub size : r.line + (r.room + length r.ahead) < 2 ^ 62

-- Of the bytes that a reader held and its source had left, `used` were used.
pub record Used (old_ended new_ended : Bool) (old_ahead new_ahead : List ℕ) (before now : Option (List ℕ)) (used : List ℕ) : Type 0 where
  pub bytes : Told before now (λ l m. old_ahead ++ l ≡ used ++ (new_ahead ++ m))
  pub stays : old_ended ≡ true → (new_ended ≡ true) × (old_ahead ≡ used ++ new_ahead)
  pub ends : new_ended ≡ false → EndsLine used

-- The same for two states of a reader, with the bytes counted.
pub record Uses (old new : Reading) (before now : Option (List ℕ)) (used : List ℕ) : Type 0 where
  pub bytes : Used old.ended new.ended old.ahead new.ahead before now used
  pub count : length used + (new.room + length new.ahead) ≡ old.room + length old.ahead

-- What a look into the source finds.
abbrev pub LookIs : Bool → ℕ → List ℕ → Result Found Why → Type 0
LookIs ended room ahead (Ok More) = ⊥
LookIs ended room ahead (Ok found) = FoundIs ended room ahead found
LookIs ended room ahead (Err why) = (why ≡ Mem) ⊎ (why ≡ Read) × (ended ≡ false) × (0 < room) × HasNoLine ahead

-- The next line, as its length without and with its line end.
abbrev pub NextLineIs : ℕ → Bool → ℕ → List ℕ → Result (Option (ℕ × ℕ)) ScriptFault → Type 0
NextLineIs line ended room ahead (Ok (Some line_and_skip)) = IsLine ended ahead line_and_skip.0 line_and_skip.1
NextLineIs line ended room ahead (Ok None) = (ended ≡ true) × (ahead ≡ [])
NextLineIs line ended room ahead (Err fault) =
    (fault.why ≡ Mem)
    ⊎ ((fault.why ≡ Read) × (ended ≡ false) × (0 < room) × HasNoLine ahead)
    ⊎ (fault.why ≢ Read) × ((full : Bool) (x : List ℕ) (w : Awaits) → Comes ended room full x → from_line full w (line + 1) (ahead ++ x) ≡ ([], Faulty fault.line fault.why))

-- Why no more was read, where `script` says what the used bytes and those after them are.
abbrev pub Stops : Bool → ℕ → List ℕ → List ℕ → (Bool → List ℕ → Script) → ScriptFault → Type 0
Stops ended room used ahead script fault =
    (fault.why ≡ Mem)
    ⊎ ((fault.why ≡ Read) × (ended ≡ false) × (0 < room) × HasNoLine ahead × ((script false used).0 ≡ []))
    ⊎ (fault.why ≢ Read) × ((full : Bool) (x : List ℕ) → Comes ended room full x → script full (used ++ (ahead ++ x)) ≡ ([], Faulty fault.line fault.why))

-- The record lines of the command on line `at`.
abbrev pub RecordsAre : ℕ → ℕ → ℕ → Bool → ℕ → List ℕ → List ℕ → Result (List (List ℕ)) ScriptFault → Type 0
RecordsAre at n line ended room used ahead (Ok got) = (head : Head) (full : Bool) (x : List ℕ) → Goes ended ahead full x → after_records at head n [] (λ next. from_line full next (at + 1) (used ++ x)) ≡ with_command (command_of head got, at) (from_line full ACommand (line + 1) x)
RecordsAre at n line ended room used ahead (Err fault) = (head : Head) → Stops ended room used ahead (λ full x. after_records at head n [] (λ next. from_line full next (at + 1) x)) fault

-- The next command by the bytes taken: the used bytes are its lines, or the bytes taken show why there is none.
abbrev pub CommandIs : ℕ → ℕ → ℕ → Bool → ℕ → List ℕ → List ℕ → Result (Option Command) ScriptFault → Type 0
CommandIs old_line line last ended room used ahead (Ok (Some c)) = (full : Bool) (x : List ℕ) → Goes ended ahead full x → from_line full ACommand (old_line + 1) (used ++ x) ≡ with_command (c, last) (from_line full ACommand (line + 1) x)
CommandIs old_line line last ended room used ahead (Ok None) = (ended ≡ true) × (ahead ≡ []) × (used ≡ [])
CommandIs old_line line last ended room used ahead (Err fault) = Stops ended room used ahead (λ full x. from_line full ACommand (old_line + 1) x) fault

-- The rest of the script from a reader's place on.
abbrev pub script_after : Option ScriptFault → Reading → List ℕ → Script
script_after None r left = from_line (nat_le r.room (length left)) ACommand (r.line + 1) (r.ahead ++ take r.room left)
script_after (Some fault) r left = ([], Faulty fault.line fault.why)

-- The commands that a reader has still to return if its source has `left`, and how they end: after a fault, with that
-- fault.
abbrev pub to_come : Reading → List ℕ → Script
to_come r left = script_after r.fault r left

-- What `next` returns of the commands to come: the first with its line, or how they end.
abbrev pub NextTold : Script → Script → ℕ → Result (Option Command) ScriptFault → Type 0
NextTold old new last (Ok (Some c)) = old ≡ with_command (c, last) new
NextTold old new last (Ok None) = (old ≡ ([], Done)) × (new ≡ ([], Done))
NextTold old new last (Err fault) = ((fault.why ≡ Mem) ⊎ (fault.why ≡ Read) ⊎ (old ≡ ([], Faulty fault.line fault.why))) × (new ≡ ([], Faulty fault.line fault.why))

-- The same by the bytes taken.
abbrev pub NextTaken : Reading → Reading → List ℕ → Result (Option Command) ScriptFault → Type 0
NextTaken old new used result = CommandIs old.line new.line new.last new.ended new.room used new.ahead result

-- The line of the last command returned stays if none is returned.
abbrev pub LastIs : ℕ → ℕ → Result (Option Command) ScriptFault → Type 0
LastIs old new (Ok (Some c)) = Unit {0}
LastIs old new (Ok None) = new ≡ old
LastIs old new (Err fault) = new ≡ old

-- What only `next` changes.
pub record SamePlace (old new : Reading) : Type 0 where
  pub line : new.line ≡ old.line
  pub last : new.last ≡ old.last
  pub fault : new.fault ≡ old.fault

-- Nothing was taken: the source is unchanged, and `used` was used of the bytes held.
pub record Held {S : Type 0} (old_source new_source : S) (old new : Reading) (used : List ℕ) : Type 0 where
  pub source : new_source ≡ old_source
  pub ended : new.ended ≡ old.ended
  pub ahead : old.ahead ≡ used ++ new.ahead

-- After the bytes `before` came `first` and then `last`, at most one piece, which was taken because the bytes before it
-- lacked something.
pub record Took (lacks : List ℕ → Type 0) (before after : List ℕ) : Type 0 where
  pub first : List ℕ
  pub last : List ℕ
  pub bytes : after ≡ before ++ (first ++ last)
  pub piece : length last ≤ most_piece
  pub lacked : lacks (before ++ first)

-- If something was taken, the source had not ended, and the bytes held before the last piece lacked something.
abbrev pub TakenWhere : {S : Type 0} → (List ℕ → Type 0) → S → S → Reading → Reading → List ℕ → Type 0
TakenWhere lacks old_source new_source old new used = Held old_source new_source old new used ⊎ (old.ended ≡ false) × Took lacks old.ahead (used ++ new.ahead)

-- These bytes lack a record line of the command on line `at`, and more may come.
abbrev pub RecordsLack : ℕ → ℕ → List ℕ → Type 0
RecordsLack at n ahead = (head : Head) → (num : ℕ) × (after_records at head n [] (λ next. from_line true next (at + 1) ahead) ≡ ([], Faulty num LongScript))

-- These bytes after line `line` do not show yet what comes next, and more may come.
abbrev pub NeedsMore : ℕ → List ℕ → Type 0
NeedsMore line ahead = (num : ℕ) × (from_line true ACommand (line + 1) ahead ≡ ([], Faulty num LongScript))

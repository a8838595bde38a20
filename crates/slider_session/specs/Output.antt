-- What is written for a script, over all its runs, and how the script ends.
use Rattle.std.specs.Prelude.{◌≢◌, ℕ, ◌+◌, List, [], ◌∷◌, ◌++◌, length, codes, decimal, Option}
use Rattle.std.specs.declared.option.Option.TheVariants.{Some, None}
use Rattle.definitions.specs.Tables.{keys_of}
use Rattle.definitions.specs.Answer.{pairs_of, answer_of}
use Rattle.job_laws.specs.Meanings.{Meaning}
use Rattle.record_text.specs.declared.command.Command.{Command}
use Rattle.record_text.specs.declared.command.Command.TheVariants.{Run}
use Rattle.record_text.specs.declared.script_fault.Why.{Why}
use Rattle.record_text.specs.declared.script_fault.Why.TheVariants as Whys
use Rattle.record_text.specs.Script.{Script, Ending, Faulty}
use Rattle.window_manager.specs.Windows.{WindowState, window_after, present, refusal_of}
use Rattle.window_manager.specs.declared.fault.WindowFault.{WindowFault}
use Rattle.window_manager.specs.declared.fault.WindowFault.TheVariants as Faults

-- What was written, and how the script ended.
abbrev pub Outcome : Type 0
Outcome = List ℕ × Ending

-- An outcome with these bytes written before.
abbrev pub after_bytes : List ℕ → Outcome → Outcome
after_bytes bytes o = (bytes ++ o.0, o.1)

-- The first line of run i, with the number of keys.
abbrev pub header : ℕ → ℕ → List ℕ
header i keys = codes "# run " ++ decimal i ++ (codes " keys " ++ decimal keys ++ codes "\n")

-- The fault is of the script itself: no device failed, and memory did not run out.
abbrev pub IsOfScript : Why → Type 0
IsOfScript why = (why ≢ Whys.Read) × (why ≢ Whys.Mem)

-- How a script ends at the command on a line that the window refuses: at that line, or at the line of the refused
-- record.
abbrev pub ended_by : ℕ → WindowFault → Ending
ended_by line Faults.NotHere = Faulty line Whys.NotHere
ended_by line Faults.TooMany = Faulty line Whys.TooMany
ended_by line (Faults.BadRecord index) = Faulty (line + 1 + index) Whys.BadRecord
ended_by line Faults.WindowLarge = Faulty line Whys.WindowLarge
ended_by line Faults.Mem = Faulty line Whys.Mem

-- None after a command that the window refuses, otherwise the given number.
abbrev pub none_if_refused : Option WindowFault → ℕ → ℕ
none_if_refused None rest = rest
none_if_refused (Some fault) rest = 0

-- How a script ends at a command on a line that the window refuses, otherwise what comes after it.
abbrev pub unless_refused : Option WindowFault → ℕ → Outcome → Outcome
unless_refused None line rest = rest
unless_refused (Some fault) line rest = ([], ended_by line fault)

module _ {V : Type 0} (j : Meaning V) where
  -- What run i writes over these records: its header, and their answer.
  abbrev pub piece_over : ℕ → List (List ℕ) → List ℕ
  piece_over i records = header i (length (keys_of (pairs_of j.emits records))) ++ answer_of j.emits j.joined j.text records

  -- What run i writes over a window: over its records.
  abbrev pub piece : ℕ → WindowState → List ℕ
  piece i w = piece_over i (present w)

  -- A command on a line, before run i over a window, where `go` says how the script goes on with the next run and the
  -- window.
  abbrev pub on_command : ℕ → WindowState → Command → ℕ → (ℕ → WindowState → Outcome) → Outcome
  on_command i w Run line go = after_bytes (piece i w) (go (i + 1) w)
  on_command i w c line go = unless_refused (refusal_of j.accepts w c) line (go i (window_after w c))

  -- The commands one after the other, before run i over a window, and then the script's own ending.
  abbrev pub outcome_from : ℕ → WindowState → List (Command × ℕ) → Ending → Outcome
  outcome_from i w [] ending = ([], ending)
  outcome_from i w (c ∷ cs) ending = on_command i w c.0 c.1 (λ next window. outcome_from next window cs ending)

  -- What is written for a script from the first run and a window on, and how it ends.
  unfoldable pub outcome_of : WindowState → Script → Outcome
  outcome_of w script = outcome_from 1 w script.0 script.1

  -- What is written for a script.
  abbrev pub output_of : WindowState → Script → List ℕ
  output_of w script = (outcome_of w script).0

  -- How a script ends: done, or at its first fault.
  abbrev pub ending_of : WindowState → Script → Ending
  ending_of w script = (outcome_of w script).1

  -- How many runs are answered from a command on, where `go` says how many are from the window after it on.
  abbrev pub runs_on : WindowState → Command → (WindowState → ℕ) → ℕ
  runs_on w Run go = go w + 1
  runs_on w c go = none_if_refused (refusal_of j.accepts w c) (go (window_after w c))

  -- How many runs are answered of the commands one after the other.
  abbrev pub runs_from : WindowState → List (Command × ℕ) → ℕ
  runs_from w [] = 0
  runs_from w (c ∷ cs) = runs_on w c.0 (λ window. runs_from window cs)

  -- How many runs of a script are answered.
  abbrev pub runs_answered : WindowState → Script → ℕ
  runs_answered w script = runs_from w script.0

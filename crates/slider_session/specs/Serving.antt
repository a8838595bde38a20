-- What serving a whole script promises.
use Rattle.std.specs.Prelude.{◌≡◌, ◌≤◌, ℕ, Bool, List, [], ◌++◌, length, Option, Result, Ok, Err}
use Rattle.std.specs.declared.option.Option.TheVariants.{Some}
use Rattle.definitions.specs.Outside.{Rose, Told, IsPrefix, GainsPrefix}
use Rattle.record_text.specs.declared.script_fault.ScriptFault.{ScriptFault}
use Rattle.record_text.specs.declared.script_fault.Why.{Why}
use Rattle.record_text.specs.declared.script_fault.Why.TheVariants.{Read, Mem}
use Rattle.record_text.specs.Lines.{whole_lines}
use Rattle.record_text.specs.Script.{commands, Done, Faulty}
use Rattle.window_manager.specs.Windows.{WindowState}
use Rattle.window_manager.specs.declared.fault.WindowFault.{WindowFault}
use Rattle.window_manager.specs.declared.fault.WindowFault.TheVariants as Faults
use Rattle.job_laws.specs.declared.meter.Counts.{Counts}
use Rattle.job_laws.specs.Meanings.{Meaning}
use Rattle.job_laws.specs.Rows.{Row}
use Rattle.slider_session.specs.Devices.{DeviceView, AreTried}
use Rattle.slider_session.specs.Output.{IsOfScript, ended_by, output_of, ending_of, runs_answered}
use Rattle.slider_session.specs.WorkLines.{work_of, work_between, all_work, IsMoreWork, asked_lines}
use Rattle.slider_session.specs.declared.work.Work.{Work}
use Rattle.slider_session.specs.declared.halt.Halt.{Halt}
use Rattle.slider_session.specs.declared.halt.Halt.TheVariants as Halts

-- The script was served to its end, or to its fault.
abbrev pub IsServed : Result (Unit {0}) Halt → Type 0
IsServed (Ok done) = Unit {0}
IsServed (Err (Halts.Script fault)) = Unit {0}
IsServed (Err Halts.Read) = ⊥
IsServed (Err Halts.Write) = ⊥
IsServed (Err Halts.Mem) = ⊥

module _ {V : Type 0} (j : Meaning V) (w : WindowState) (most : ℕ) where
  -- The output of a script was written after what the sink held before.
  abbrev pub Writes : List ℕ → Option (List ℕ) → Option (List ℕ) → Type 0
  Writes script before now = Told before now (λ old new. new ≡ old ++ output_of j w (commands most script))

  -- The whole script was served from the window on: nothing is left of it, and its output was written.
  abbrev pub Whole : List ℕ → List ℕ → Option (List ℕ) → Option (List ℕ) → Type 0
  Whole script after before now = (ending_of j w (commands most script) ≡ Done) × (after ≡ []) × Writes script before now

  -- The script ended at its first fault, and its output was written.
  abbrev pub AtFault : ℕ → Why → List ℕ → Option (List ℕ) → Option (List ℕ) → Type 0
  AtFault line why script before now = (ending_of j w (commands most script) ≡ Faulty line why) × Writes script before now

  -- Some bytes of the script were taken: the output of these up to their last LF was written, and it is a prefix of the
  -- script's output.
  pub record OfTaken (script after : List ℕ) (before now : Option (List ℕ)) : Type 0 where
    pub bytes : List ℕ
    pub taken : script ≡ bytes ++ after
    pub written : Writes (whole_lines bytes) before now
    pub prefix : IsPrefix (output_of j w (commands most (whole_lines bytes))) (output_of j w (commands most script))

  -- A prefix of the script's output was written.
  abbrev pub WritesPrefix : List ℕ → Option (List ℕ) → Option (List ℕ) → Type 0
  WritesPrefix script before now = Told before now (GainsPrefix (output_of j w (commands most script)))

  -- What each result says about a script of which a source had `left` and now has `rest`, and about its output on a
  -- sink.
  abbrev pub EndsSo : DeviceView → DeviceView → DeviceView → DeviceView → Result (Unit {0}) Halt → Type 0
  EndsSo left rest before now (Ok done) = Told left.bytes rest.bytes (λ script after. Whole script after before.bytes now.bytes)
  EndsSo left rest before now (Err (Halts.Script fault)) = Told left.bytes rest.bytes (λ script after. AtFault fault.line fault.why script before.bytes now.bytes) × IsOfScript fault.why
  EndsSo left rest before now (Err Halts.Read) = Told left.bytes rest.bytes (λ script after. OfTaken script after before.bytes now.bytes) × Rose left.faults rest.faults
  EndsSo left rest before now (Err Halts.Write) = Told left.bytes rest.bytes (λ script after. WritesPrefix script before.bytes now.bytes) × Rose before.faults now.faults
  EndsSo left rest before now (Err Halts.Mem) = Told left.bytes rest.bytes (λ script after. WritesPrefix script before.bytes now.bytes)

  -- A script was served, from the source before and after to the sink before and after.
  pub record Serves (left rest before now : DeviceView) (result : Result (Unit {0}) Halt) : Type 0 where
    pub ends : EndsSo left rest before now result
    pub source_later : left.faults ≤ rest.faults
    pub sink_later : before.faults ≤ now.faults

  -- What was written to `err` for a script that a source had `left`: the work line of each run that was answered was
  -- tried, if work lines are asked for. The work of these runs is at most what the meters increased by, and exactly
  -- that if the script was served to its end or its fault.
  pub record ScriptSaid {M : Type 0} (counts : M → Counts) (asked : Bool) (left : Option (List ℕ)) (old new : Row M) (before now : DeviceView) (result : Result (Unit {0}) Halt) : Type 0 where
    pub works : List Work
    pub tried : AreTried (IsServed result) (asked_lines asked 1 works) before now
    pub some : (script : List ℕ) → left ≡ Some script → length works ≤ runs_answered j w (commands most script)
    pub all : IsServed result → (script : List ℕ) → left ≡ Some script → length works ≡ runs_answered j w (commands most script)
    pub within : IsMoreWork (all_work works) (work_between (work_of counts old) (work_of counts new))
    pub exact : IsServed result → all_work works ≡ work_between (work_of counts old) (work_of counts new)

-- The halt for a fault of the reader.
abbrev pub HaltIs : ScriptFault → Halt → Type 0
HaltIs fault (Halts.Script f) = (f ≡ fault) × IsOfScript fault.why
HaltIs fault Halts.Read = fault.why ≡ Read
HaltIs fault Halts.Write = ⊥
HaltIs fault Halts.Mem = fault.why ≡ Mem

-- The halt for a refusal of the window at a line.
abbrev pub RefusalIs : ℕ → WindowFault → Halt → Type 0
RefusalIs line Faults.Mem halt = halt ≡ Halts.Mem
RefusalIs line refused (Halts.Script fault) = (ended_by line refused ≡ Faulty fault.line fault.why) × IsOfScript fault.why
RefusalIs line refused Halts.Read = ⊥
RefusalIs line refused Halts.Write = ⊥
RefusalIs line refused Halts.Mem = ⊥

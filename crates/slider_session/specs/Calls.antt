-- What the two kinds of steps promise: a command that the window carries out or refuses, and a run.
use Rattle.std.specs.Prelude.{◌≡◌, ◌<◌, ◌≤◌, ℕ, ◌+◌, ◌^◌, Bool, List, [], ◌∷◌, ◌++◌, Result, Ok, Err, ◌⊎◌}
use Rattle.std.specs.declared.option.Option.TheVariants.{Some, None}
use Rattle.definitions.specs.Outside.{Rose, Told, GainsPrefix}
use Rattle.job_laws.specs.Meanings.{Meaning}
use Rattle.record_text.specs.declared.command.Command.{Command}
use Rattle.record_text.specs.declared.command.Command.TheVariants.{Run}
use Rattle.record_text.specs.declared.shift.Shift.{Shift}
use Rattle.record_text.specs.Script.{Faulty}
use Rattle.window_manager.specs.Windows.{WindowState, refusal_of}
use Rattle.window_manager.specs.Views.{WindowView, IsDone, view_anew}
use Rattle.window_manager.specs.declared.fault.WindowFault.{WindowFault}
use Rattle.slider_session.specs.declared.halt.Halt.{Halt}
use Rattle.slider_session.specs.declared.halt.Halt.TheVariants as Halts
use Rattle.tree_laws.specs.Trees.{Shape, TreeView}
use Rattle.run_engine.specs.Engines.{EngineView}
use Rattle.run_engine.specs.Runs.{IsRun, IsNoRun}
use Rattle.slider_session.specs.declared.work.Work.{Work}
use Rattle.slider_session.specs.Devices.{DeviceView, AreTried}
use Rattle.slider_session.specs.Output.{IsOfScript, ended_by, piece}
use Rattle.slider_session.specs.WorkLines.{asked_lines}

-- What a session holds: its engine and its window.
pub record SessionView (J T : Type 0) : Type 0 where
  pub engine : EngineView J T
  pub window : WindowView

module _ {J T : Type 0} where
  -- The window that a session holds.
  abbrev pub state_of : SessionView J T → WindowState
  state_of h = h.window.window

  -- How many buckets it accepted.
  abbrev pub accepted_of : SessionView J T → ℕ
  accepted_of h = h.window.slid.accepted

  -- There is room for one step more: the numbers of lines, runs and accepted buckets are far from the ends of their
  -- types.
  pub record HasRoom (h : SessionView J T) (at : ℕ) : Type 0 where
    pub line : at ≤ 2 ^ 62
    pub runs : h.engine.runs < 2 ^ 63
    pub accepted : accepted_of h < 2 ^ 63

  -- A command of the window was carried out, or refused at its line; nothing else was touched, and out of memory comes
  -- only if nothing refuses it.
  abbrev pub Changes : (List ℕ → Bool) → SessionView J T → SessionView J T → Command → ℕ → Result (Unit {0}) Halt → Type 0
  Changes accepts old new c line (Ok done) = (refusal_of accepts (state_of old) c ≡ None) × IsDone old.window new.window c × (new ≡ record old { window = new.window })
  Changes accepts old new c line (Err (Halts.Script fault)) = (refused : WindowFault) × (refusal_of accepts (state_of old) c ≡ Some refused) × (ended_by line refused ≡ Faulty fault.line fault.why) × (new ≡ old) × IsOfScript fault.why
  Changes accepts old new c line (Err Halts.Read) = ⊥
  Changes accepts old new c line (Err Halts.Write) = ⊥
  Changes accepts old new c line (Err Halts.Mem) = (refusal_of accepts (state_of old) c ≡ None) × (new ≡ old)

  module _ {V : Type 0} (j : Meaning V) (view : T → TreeView V) (shaped : Shape → Shift → Shape) where
    -- One more run was made, over the same window.
    pub record RunStands (old new : SessionView J T) : Type 0 where
      pub engine : IsRun view shaped old.window old.engine new.engine
      pub window : new.window ≡ view_anew old.window

    -- No run was made, and the window is unchanged.
    pub record RunFails (old new : SessionView J T) : Type 0 where
      pub engine : IsNoRun view old.engine new.engine
      pub window : new.window ≡ old.window

    -- What the next run writes.
    abbrev pub next_piece : SessionView J T → List ℕ
    next_piece h = piece j (h.engine.runs + 1) (state_of h)

    -- A run was answered. If a write failed, the run is kept, and a prefix of its piece was written; out of memory the
    -- same holds, or no run was made and nothing was written.
    abbrev pub RunAnswered : SessionView J T → SessionView J T → DeviceView → DeviceView → Result (Unit {0}) Halt → Type 0
    RunAnswered old new before now (Ok done) = RunStands old new × Told before.bytes now.bytes (λ bytes more. more ≡ bytes ++ next_piece old)
    RunAnswered old new before now (Err (Halts.Script fault)) = ⊥
    RunAnswered old new before now (Err Halts.Read) = ⊥
    RunAnswered old new before now (Err Halts.Write) = RunStands old new × Told before.bytes now.bytes (GainsPrefix (next_piece old)) × Rose before.faults now.faults
    RunAnswered old new before now (Err Halts.Mem) = (RunFails old new × (now.bytes ≡ before.bytes)) ⊎ (RunStands old new × Told before.bytes now.bytes (GainsPrefix (next_piece old)))

    -- One command on a line: a run is answered, and any other command is the window's and writes nothing. `before` and
    -- `now` are the views of the sink.
    abbrev pub Steps : SessionView J T → SessionView J T → Command → ℕ → DeviceView → DeviceView → Result (Unit {0}) Halt → Type 0
    Steps old new Run line before now result = RunAnswered old new before now result × (before.faults ≤ now.faults)
    Steps old new c line before now result = Changes j.accepts old new c line result × (now ≡ before)

-- What a run reports on `err`, by how much the meters increased in it: its work line is tried after its answer is
-- written, if work lines are asked for.
abbrev pub RunSaid : Bool → ℕ → Work → DeviceView → DeviceView → Result (Unit {0}) Halt → Type 0
RunSaid asked i work before now (Ok done) = AreTried (Unit {0}) (asked_lines asked i (work ∷ [])) before now
RunSaid asked i work before now (Err (Halts.Script fault)) = ⊥
RunSaid asked i work before now (Err Halts.Read) = ⊥
RunSaid asked i work before now (Err Halts.Write) = now ≡ before
RunSaid asked i work before now (Err Halts.Mem) = AreTried ⊥ (asked_lines asked i (work ∷ [])) before now

-- An answer was written, or a prefix of it if the sink failed or memory ran out.
abbrev pub AnswerWritten : List ℕ → DeviceView → DeviceView → Result (Unit {0}) Halt → Type 0
AnswerWritten bytes before now (Ok done) = Told before.bytes now.bytes (λ old new. new ≡ old ++ bytes) × (before.faults ≤ now.faults)
AnswerWritten bytes before now (Err (Halts.Script fault)) = ⊥
AnswerWritten bytes before now (Err Halts.Read) = ⊥
AnswerWritten bytes before now (Err Halts.Write) = Told before.bytes now.bytes (GainsPrefix bytes) × Rose before.faults now.faults × (before.faults ≤ now.faults)
AnswerWritten bytes before now (Err Halts.Mem) = Told before.bytes now.bytes (GainsPrefix bytes) × (before.faults ≤ now.faults)

-- A line was tried, or memory ran out before its end.
abbrev pub LineTried : List ℕ → DeviceView → DeviceView → Result (Unit {0}) Halt → Type 0
LineTried line before now (Ok done) = AreTried (Unit {0}) (line ∷ []) before now
LineTried line before now (Err (Halts.Script fault)) = ⊥
LineTried line before now (Err Halts.Read) = ⊥
LineTried line before now (Err Halts.Write) = ⊥
LineTried line before now (Err Halts.Mem) = AreTried ⊥ (line ∷ []) before now

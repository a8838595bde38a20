-- A step is a step of the script: what it writes, and how the script goes on after it.
use Rattle.std.proofs.Common.{◌≡◌, ◌≢◌, ℕ, ◌+◌, ◌≤◌, List, [], ◌++◌, refl, sym, ap, ◌∙◌, subst, append-nil, append_assoc, inl, inr, ◌⊎◌, arith}
use Rattle.std.specs.Prelude.{Option, Result, Ok, Err}
use Rattle.std.specs.declared.option.Option.TheVariants.{Some, None}
use Rattle.definitions.specs.Outside.{Rose, Told, IsPrefix, GainsPrefix}
use Rattle.definitions.proofs.ToldBytes.{told_same}
use Rattle.record_text.specs.declared.command.Command.{Command}
use Rattle.record_text.specs.declared.command.Command.TheVariants.{Bucket, Drop, Late, File, Remove, Edit, Load, Run}
use Rattle.record_text.specs.declared.shift.Shift.{Shift}
use Rattle.record_text.specs.declared.script_fault.ScriptFault.{ScriptFault}
use Rattle.record_text.specs.Script.{Ending, Faulty}
use Rattle.window_manager.specs.Windows.{WindowState, window_after, refusal_of}
use Rattle.window_manager.specs.Slides.{Slid, slid_after}
use Rattle.window_manager.specs.Views.{WindowView}
use Rattle.tree_laws.specs.Trees.{Shape, TreeView}
use Rattle.run_engine.specs.Runs.{IsSameEngine}
use Rattle.job_laws.specs.Meanings.{Meaning}
use Rattle.slider_session.specs.Devices.{DeviceView}
use Rattle.slider_session.specs.Output.{IsOfScript, Outcome, after_bytes, unless_refused, on_command}
use Rattle.slider_session.specs.Calls.{SessionView, state_of, accepted_of, Changes, RunAnswered, Steps, next_piece}
use Rattle.slider_session.specs.declared.halt.Halt.{Halt}
use Rattle.slider_session.specs.declared.halt.Halt.TheVariants as Halts

-- how a script goes on after a command, with the next run and the window
abbrev pub Going : Type 0
Going = ℕ → WindowState → Outcome

module _ {J T V : Type 0} (j : Meaning V) (old new : SessionView J T) (c : Command) (line : ℕ) (before now : Option (List ℕ)) where
  -- a command was carried out: what was written, and how the script goes on
  pub record Goes : Type 0 where
    pub gain : List ℕ
    pub written : Told before now (λ bytes more. more ≡ bytes ++ gain)
    pub goes : (go : Going) → on_command j (old.engine.runs + 1) (state_of old) c line go ≡ after_bytes gain (go (new.engine.runs + 1) (state_of new))
    pub runs : new.engine.runs ≤ old.engine.runs + 1
    pub accepted : accepted_of new ≤ accepted_of old + 1

  -- a command was cut short: a prefix of what it writes was written
  pub record IsCut : Type 0 where
    pub gain : List ℕ
    pub written : Told before now (λ bytes more. more ≡ bytes ++ gain)
    pub prefix : (go : Going) → IsPrefix gain (on_command j (old.engine.runs + 1) (state_of old) c line go).0

  -- a command was refused: the script ends there, and nothing was written
  pub record IsRefused (fault : ScriptFault) : Type 0 where
    pub ends : (go : Going) → on_command j (old.engine.runs + 1) (state_of old) c line go ≡ ([], Faulty fault.line fault.why)
    pub unwritten : now ≡ before

-- what a step did, by the views of the sink before and after it
abbrev pub ComesTo : {J T V : Type 0} → Meaning V → SessionView J T → SessionView J T → Command → ℕ → DeviceView → DeviceView → Result (Unit {0}) Halt → Type 0
ComesTo j old new c line before now (Ok done) = Goes j old new c line before.bytes now.bytes
ComesTo j old new c line before now (Err (Halts.Script fault)) = IsRefused j old new c line before.bytes now.bytes fault × IsOfScript fault.why
ComesTo j old new c line before now (Err Halts.Read) = ⊥
ComesTo j old new c line before now (Err Halts.Write) = IsCut j old new c line before.bytes now.bytes × Rose before.faults now.faults
ComesTo j old new c line before now (Err Halts.Mem) = IsCut j old new c line before.bytes now.bytes

-- nothing was written
unwritten : (before now : Option (List ℕ)) → now ≡ before → Told before now (λ bytes more. more ≡ bytes ++ [])
unwritten before now same = subst (λ (o : Option (List ℕ)). Told before o (λ bytes more. more ≡ bytes ++ [])) (sym same) (told_same before (λ bytes more. more ≡ bytes ++ []) (λ x. sym (append-nil x)))

-- a command accepts at most one bucket more
one_more : (w : WindowState) (c : Command) (s : Slid) → (slid_after w c s).accepted ≤ s.accepted + 1
one_more w (Bucket records) s = omega arith
one_more w (Drop n) s = omega arith
one_more w (Late place more) s = omega arith
one_more w (File name) s = omega arith
one_more w (Remove name) s = omega arith
one_more w (Edit at del ins) s = omega arith
one_more w (Load records) s = omega arith
one_more w Run s = omega arith

-- a prefix of a piece was written, if bytes are observable
gained : (all : List ℕ) (before now : Option (List ℕ)) → Told before now (GainsPrefix all) → (gain : List ℕ) × IsPrefix gain all × Told before now (λ bytes more. more ≡ bytes ++ gain)
gained all None None t = ([], (all, refl), tt)
gained all None (Some y) t = absurd t
gained all (Some x) None t = absurd t
gained all (Some x) (Some y) t = (t.0, t.1, t.2)

module _ {J T V : Type 0} (j : Meaning V) (view : T → TreeView V) (shaped : Shape → Shift → Shape) (old new : SessionView J T) (line : ℕ) (before now : DeviceView) where
  -- a command of the window, where `on_command` is that of the window
  module _ (c : Command) (windows : (go : Going) → on_command j (old.engine.runs + 1) (state_of old) c line go ≡ unless_refused (refusal_of j.accepts (state_of old) c) line (go (old.engine.runs + 1) (window_after (state_of old) c))) where
    pub change_comes : (result : Result (Unit {0}) Halt) → Changes j.accepts old new c line result → now ≡ before → ComesTo j old new c line before now result
    change_comes (Ok done) a same = record {
      gain = [];
      written = unwritten before.bytes now.bytes (ap (λ (d : DeviceView). d.bytes) same);
      goes = λ go. windows go
          ∙ ap (λ o. unless_refused o line (go (old.engine.runs + 1) (window_after (state_of old) c))) a.0
          ∙ (λ i. go (sym (ap (λ (h : SessionView J T). h.engine.runs) a.2) i + 1) (sym a.1.window i));
      runs = let same = ap (λ (h : SessionView J T). h.engine.runs) a.2 in omega (arith, same);
      accepted = subst (λ (s : Slid). s.accepted ≤ accepted_of old + 1) (sym a.1.slid) (one_more (state_of old) c old.window.slid);
    }
    change_comes (Err (Halts.Script fault)) a same = (
      record {
        ends = λ go. windows go
            ∙ ap (λ o. unless_refused o line (go (old.engine.runs + 1) (window_after (state_of old) c))) a.1
            ∙ ap (λ (e : Ending). ([], e)) a.2;
        unwritten = ap (λ (d : DeviceView). d.bytes) same;
      },
      a.4,
    )
    change_comes (Err Halts.Read) a same = absurd a
    change_comes (Err Halts.Write) a same = absurd a
    change_comes (Err Halts.Mem) a same = record {
      gain = [];
      written = unwritten before.bytes now.bytes (ap (λ (d : DeviceView). d.bytes) same);
      prefix = λ go. ((on_command j (old.engine.runs + 1) (state_of old) c line go).0, refl);
    }

  -- a prefix of the next piece was written
  cut_in_piece : Told before.bytes now.bytes (GainsPrefix (next_piece j view shaped old)) → IsCut j old new Run line before.bytes now.bytes
  cut_in_piece t =
      let cut = gained (next_piece j view shaped old) before.bytes now.bytes t in
      record {
        gain = cut.0;
        written = cut.2;
        prefix = λ go. (
          cut.1.0 ++ (go (old.engine.runs + 1 + 1) (state_of old)).0,
          ap (λ (l : List ℕ). l ++ (go (old.engine.runs + 1 + 1) (state_of old)).0) cut.1.1 ∙ append_assoc cut.0 cut.1.0 (go (old.engine.runs + 1 + 1) (state_of old)).0,
        );
      }

  pub answer_comes : (result : Result (Unit {0}) Halt) → RunAnswered j view shaped old new before now result → ComesTo j old new Run line before now result
  answer_comes (Ok done) a =
      let runs = a.0.engine.runs in
      let window = ap (λ (w : WindowView). w.window) a.0.window in
      let slid = ap (λ (w : WindowView). w.slid.accepted) a.0.window in
      record {
        gain = next_piece j view shaped old;
        written = a.1;
        goes = λ go. λ i. after_bytes (next_piece j view shaped old) (go (sym runs i + 1) (sym window i));
        runs = omega (arith, runs);
        accepted = omega (arith, slid);
      }
  answer_comes (Err (Halts.Script fault)) a = absurd a
  answer_comes (Err Halts.Read) a = absurd a
  answer_comes (Err Halts.Write) a = (cut_in_piece a.1, a.2)
  answer_comes (Err Halts.Mem) (inl a) = record {
    gain = [];
    written = unwritten before.bytes now.bytes a.1;
    prefix = λ go. ((on_command j (old.engine.runs + 1) (state_of old) Run line go).0, refl);
  }
  answer_comes (Err Halts.Mem) (inr a) = cut_in_piece a.1

-- a sink that was left alone has as many faults
as_before : (before now : DeviceView) → now ≡ before → before.faults ≤ now.faults
as_before before now same = let faults = ap (λ (d : DeviceView). d.faults) same in omega (arith, faults)

-- what each step did
pub step_comes : {J T V : Type 0} (j : Meaning V) (view : T → TreeView V) (shaped : Shape → Shift → Shape) (old new : SessionView J T) (c : Command) (line : ℕ) (before now : DeviceView) (result : Result (Unit {0}) Halt) → Steps j view shaped old new c line before now result → ComesTo j old new c line before now result
step_comes j view shaped old new (Bucket records) line before now result s = change_comes j view shaped old new line before now (Bucket records) (λ go. refl) result s.0 s.1
step_comes j view shaped old new (Drop n) line before now result s = change_comes j view shaped old new line before now (Drop n) (λ go. refl) result s.0 s.1
step_comes j view shaped old new (Late place more) line before now result s = change_comes j view shaped old new line before now (Late place more) (λ go. refl) result s.0 s.1
step_comes j view shaped old new (File name) line before now result s = change_comes j view shaped old new line before now (File name) (λ go. refl) result s.0 s.1
step_comes j view shaped old new (Remove name) line before now result s = change_comes j view shaped old new line before now (Remove name) (λ go. refl) result s.0 s.1
step_comes j view shaped old new (Edit at del ins) line before now result s = change_comes j view shaped old new line before now (Edit at del ins) (λ go. refl) result s.0 s.1
step_comes j view shaped old new (Load records) line before now result s = change_comes j view shaped old new line before now (Load records) (λ go. refl) result s.0 s.1
step_comes j view shaped old new Run line before now result s = answer_comes j view shaped old new line before now result s.0

-- a step leaves the sink's count of faults, or raises it
pub step_later : {J T V : Type 0} (j : Meaning V) (view : T → TreeView V) (shaped : Shape → Shift → Shape) (old new : SessionView J T) (c : Command) (line : ℕ) (before now : DeviceView) (result : Result (Unit {0}) Halt) → Steps j view shaped old new c line before now result → before.faults ≤ now.faults
step_later j view shaped old new (Bucket records) line before now result s = as_before before now s.1
step_later j view shaped old new (Drop n) line before now result s = as_before before now s.1
step_later j view shaped old new (Late place more) line before now result s = as_before before now s.1
step_later j view shaped old new (File name) line before now result s = as_before before now s.1
step_later j view shaped old new (Remove name) line before now result s = as_before before now s.1
step_later j view shaped old new (Edit at del ins) line before now result s = as_before before now s.1
step_later j view shaped old new (Load records) line before now result s = as_before before now s.1
step_later j view shaped old new Run line before now result s = s.1

-- a step is a run, or a command that the window carries out or refuses
abbrev pub StepKind : {J T V : Type 0} → Meaning V → (T → TreeView V) → (Shape → Shift → Shape) → SessionView J T → SessionView J T → Command → ℕ → DeviceView → DeviceView → Result (Unit {0}) Halt → Type 0
StepKind j view shaped old new c line before now result = ((c ≡ Run) × RunAnswered j view shaped old new before now result) ⊎ ((c ≢ Run) × Changes j.accepts old new c line result)

pub step_kind : {J T V : Type 0} (j : Meaning V) (view : T → TreeView V) (shaped : Shape → Shift → Shape) (old new : SessionView J T) (c : Command) (line : ℕ) (before now : DeviceView) (result : Result (Unit {0}) Halt) → Steps j view shaped old new c line before now result → StepKind j view shaped old new c line before now result
step_kind j view shaped old new (Bucket records) line before now result s = inr (λ e. cc, s.0)
step_kind j view shaped old new (Drop n) line before now result s = inr (λ e. cc, s.0)
step_kind j view shaped old new (Late place more) line before now result s = inr (λ e. cc, s.0)
step_kind j view shaped old new (File name) line before now result s = inr (λ e. cc, s.0)
step_kind j view shaped old new (Remove name) line before now result s = inr (λ e. cc, s.0)
step_kind j view shaped old new (Edit at del ins) line before now result s = inr (λ e. cc, s.0)
step_kind j view shaped old new (Load records) line before now result s = inr (λ e. cc, s.0)
step_kind j view shaped old new Run line before now result s = inl (refl, s.0)

-- a command leaves the window's places
pub places_stay : (w : WindowState) (c : Command) → (window_after w c).places ≡ w.places
places_stay w (Bucket records) = refl
places_stay w (Drop n) = refl
places_stay w (Late place more) = refl
places_stay w (File name) = refl
places_stay w (Remove name) = refl
places_stay w (Edit at del ins) = refl
places_stay w (Load records) = refl
places_stay w Run = refl

-- a command that was carried out leaves the job and the settings
pub engine_stays : {J T V : Type 0} (j : Meaning V) (view : T → TreeView V) (shaped : Shape → Shift → Shape) (old new : SessionView J T) (c : Command) (line : ℕ) (before now : DeviceView) (done : Unit {0}) → StepKind j view shaped old new c line before now (Ok done) → (c ≡ Run → IsSameEngine old.engine new.engine) → (new.engine.job ≡ old.engine.job) × (new.engine.settings ≡ old.engine.settings)
engine_stays j view shaped old new c line before now done (inl a) same = ((same a.0).job, (same a.0).settings)
engine_stays j view shaped old new c line before now done (inr a) same = (ap (λ h. h.engine.job) a.1.2, ap (λ h. h.engine.settings) a.1.2)

-- What a call of the program promises. `Ran`, the last definition, goes by cases on what the arguments ask for.
use Rattle.std.specs.Prelude.{◌≡◌, ◌≢◌, ◌≤◌, ℕ, Bool, false, List, [], ◌∷◌, ◌++◌, length, Option, option_map, IsSome, Result, Ok, Err, ◌⊎◌}
use Rattle.std.specs.declared.option.Option.TheVariants.{Some, None}
use Rattle.definitions.specs.Limits.{most_script}
use Rattle.definitions.specs.Outside.{Rose, Told, GainsPrefix}
use Rattle.slider_io.specs.declared.source.Source as Sources
use Rattle.slider_io.specs.declared.sink.Sink as Sinks
use Rattle.record_text.specs.declared.kind.Kind.{Kind}
use Rattle.record_text.specs.declared.script_fault.Why.{Why}
use Rattle.record_text.specs.declared.shift.Shift.{Shift}
use Rattle.record_text.specs.Script.{commands}
use Rattle.job_laws.specs.declared.job.Job as JobTrait
use Rattle.job_laws.specs.declared.meter.Counts.{Counts}
use Rattle.job_laws.specs.Meanings.{Meaning, meaning_at}
use Rattle.job_laws.specs.Rows.{Row, RowRose}
use Rattle.window_manager.specs.Windows.{WindowState, empty_window}
use Rattle.window_manager.specs.Views.{no_leaves}
use Rattle.tree_laws.specs.Trees.{Shape}
use Rattle.slider_session.specs.declared.work.Work.{Work}
use Rattle.slider_session.specs.Devices.{DeviceView, source_view, sink_view, AreTried}
use Rattle.slider_session.specs.WorkLines.{work_of, work_between, all_work, IsMoreWork, asked_lines}
use Rattle.slider_session.specs.Costs.{ScriptCosts}
use Rattle.slider_session.specs.Output.{ending_of, runs_answered}
use Rattle.slider_session.specs.Serving.{Whole, AtFault, OfTaken, WritesPrefix}
use Rattle.program_words.specs.declared.plan.JobName.{JobName}
use Rattle.program_words.specs.declared.plan.JobName.TheVariants.{Count, Index, Latest, TopK}
use Rattle.program_words.specs.declared.plan.Plan.{Plan}
use Rattle.program_words.specs.declared.plan.Field.{Field}
use Rattle.program_words.specs.Plans.{kind_of}
use Rattle.program_words.specs.Usages.{line_for}
use Rattle.script_generator.specs.Generated.{generated}
use Rattle.slider_program.specs.Trees.{bound_for, shape_for}
use Rattle.slider_program.specs.Words.{fault_line, end_line}
use Rattle.slider_program.specs.Summaries.{summary_of}

-- The devices and the meters of a call, whole: if they are equal, everything about them is.
pub record Outside (S K E M : Type 0) : Type 0 where
  pub source : S
  pub out : K
  pub err : E
  pub meters : Row M

-- These devices and meters.
abbrev pub outside : {S K E M : Type 0} → S → K → E → Row M → Outside S K E M
outside source out err meters = record { source = source; out = out; err = err; meters = meters }

-- The views of the devices: the bytes that the source has left and that `out` and `err` hold, and their counts of
-- faults.
pub record Seen : Type 0 where
  pub source : DeviceView
  pub out : DeviceView
  pub err : DeviceView

-- The views of the devices of a call.
abbrev pub seen_of : {S K E M : Type 0} → Sources.Ghosts S → Sinks.Ghosts K → Sinks.Ghosts E → Outside S K E M → Seen
seen_of s k e o = record { source = source_view s o.source; out = sink_view k o.out; err = sink_view e o.err }

-- The meanings of a program's jobs.
pub record Jobs (C I L T : Type 0) : Type 0 where
  pub count : Meaning C
  pub index : Meaning I
  pub latest : Meaning L
  pub topk : ℕ → Meaning T

-- The meanings of these jobs: three have the setting 0, and the last one has the number of members that it keeps.
abbrev pub jobs_of : {A C B I D L F T M : Type 0} → JobTrait.Ghosts A C M → JobTrait.Ghosts B I M → JobTrait.Ghosts D L M → JobTrait.Ghosts F T M → Jobs C I L T
jobs_of count index latest topk = record { count = meaning_at count 0; index = meaning_at index 0; latest = meaning_at latest 0; topk = meaning_at topk }

-- The script that a plan has generated, if it has a seed.
abbrev pub generated_by : Plan → Option (List ℕ)
generated_by plan = option_map (λ seed. generated plan.job plan.tree seed) plan.seed

-- A line was tried: a prefix of it was gained, and all of it unless the count of faults increased.
pub record Tries (line : List ℕ) (before now : DeviceView) : Type 0 where
  pub prefix : Told before.bytes now.bytes (GainsPrefix line)
  pub whole : (Rose before.faults now.faults → ⊥) → Told before.bytes now.bytes (λ old new. new ≡ old ++ line)

-- An output is summed up by a line: what each status says about `out`.
pub record SumsUp (line : List ℕ) (before now : DeviceView) (status : ℕ) : Type 0 where
  -- The line was written.
  pub done : status ≡ 0 → Told before.bytes now.bytes (λ old new. new ≡ old ++ line)
  -- A write failed.
  pub write : status ≡ 5 → Rose before.faults now.faults
  -- Whatever the status, a prefix of the line was written.
  pub prefix : Told before.bytes now.bytes (GainsPrefix line)
  -- There is no other status; 6 is for memory that ran out.
  pub known : (status ≡ 0) ⊎ (status ≡ 5) ⊎ (status ≡ 6)

-- The script that is served: a generated one, or what the source has left, if that is observable.
abbrev pub script_for : Option (List ℕ) → Option (List ℕ) → Option (List ℕ)
script_for None left = left
script_for (Some script) left = Some script

-- All was answered: to the end of the script, or to its fault.
abbrev pub IsAnswered : ℕ → Type 0
IsAnswered status = (status ≡ 0) ⊎ (status ≡ 3)

-- The status of a call that succeeds, or runs out of memory.
abbrev pub status_if_ok : {A E : Type 0} → Result A E → ℕ
status_if_ok (Ok a) = 0
status_if_ok (Err e) = 6

module _ {V : Type 0} (j : Meaning V) (w : WindowState) where
  -- What each status says about the script that the source had left, and about its output over the job, from the window
  -- on.
  pub record ScriptAnswered (old new : Seen) (status : ℕ) : Type 0 where
    -- The source was read to its end, and all was written.
    pub done : status ≡ 0 → Told old.source.bytes new.source.bytes (λ script after. Whole j w most_script script after old.out.bytes new.out.bytes)
    -- The script has a fault, and all before it was written.
    pub fault : status ≡ 3 → (line : ℕ) × (why : Why) × Told old.source.bytes new.source.bytes (λ script after. AtFault j w most_script line why script old.out.bytes new.out.bytes)
    -- A read failed, and the output of the bytes taken up to their last LF was written.
    pub read : status ≡ 4 → Rose old.source.faults new.source.faults × Told old.source.bytes new.source.bytes (λ script after. OfTaken j w most_script script after old.out.bytes new.out.bytes)
    -- A write failed.
    pub write : status ≡ 5 → Rose old.out.faults new.out.faults
    -- Whatever the status, a prefix of the output was written.
    pub prefix : Told old.source.bytes new.source.bytes (λ script after. WritesPrefix j w most_script script old.out.bytes new.out.bytes)
    -- There is no other status; 6 is for memory that ran out.
    pub known : (status ≡ 0) ⊎ (status ≡ 3) ⊎ (status ≡ 4) ⊎ (status ≡ 5) ⊎ (status ≡ 6)

  -- A generated script was summed up.
  pub record Summed (script : List ℕ) (old new : Seen) (status : ℕ) : Type 0 where
    pub source : new.source ≡ old.source
    pub sums : SumsUp (summary_of j w script) old.out new.out status

  -- What was answered: the script that the source had left, or the summary of a generated one.
  abbrev pub AnsweredBy : Option (List ℕ) → Seen → Seen → ℕ → Type 0
  AnsweredBy None old new status = ScriptAnswered old new status
  AnsweredBy (Some script) old new status = Summed script old new status

  -- What was written to `err` for a script: the work line of each run that was answered, if work lines are asked for,
  -- then the line of its fault. The work of these runs is at most what the meters increased by, and exactly that if all
  -- was answered.
  pub record ErrSaid {M : Type 0} (counts : M → Counts) (asked : Bool) (told : Option (List ℕ)) (row row_now : Row M) (before now : DeviceView) (status : ℕ) : Type 0 where
    pub works : List Work
    pub last : List (List ℕ)
    pub lines : AreTried (IsAnswered status) (asked_lines asked 1 works ++ last) before now
    -- The last line is that of a fault, or there is none.
    pub none : status ≢ 3 → status ≢ 6 → last ≡ []
    pub fault : status ≡ 3 → (line : ℕ) × (why : Why) × (last ≡ fault_line line why ∷ [])
    pub ended : (script : List ℕ) → told ≡ Some script → (last ≡ []) ⊎ (last ≡ end_line (ending_of j w (commands most_script script)) ∷ [])
    -- There is a work line for each run.
    pub some : (script : List ℕ) → told ≡ Some script → length works ≤ runs_answered j w (commands most_script script)
    pub all : IsAnswered status → (script : List ℕ) → told ≡ Some script → length works ≡ runs_answered j w (commands most_script script)
    pub within : IsMoreWork (all_work works) (work_between (work_of counts row) (work_of counts row_now))
    pub exact : IsAnswered status → all_work works ≡ work_between (work_of counts row) (work_of counts row_now)

module _ {S K E M : Type 0} (counts : M → Counts) (see : Outside S K E M → Seen) where
  -- The arguments are a plan, and its script was answered over this job, in trees for windows of this kind with these
  -- bounds.
  pub record Planned {V : Type 0} (j : Meaning V) (kind : Kind) (bound : ℕ → Shape → ℕ → Shift → ℕ) (shaped : Shape → Shift → Shape) (plan : Plan) (old new : Outside S K E M) (status : ℕ) : Type 0 where
    pub answered : AnsweredBy j (empty_window kind plan.settings.places) (generated_by plan) (see old) (see new) status
    pub said : ErrSaid j (empty_window kind plan.settings.places) counts plan.settings.work (script_for (generated_by plan) (see old).source.bytes) old.meters new.meters (see old).err (see new).err status
    -- Each meter counted at its place, and all together at most what the script's runs may cost.
    pub rose : RowRose counts old.meters new.meters
    pub costs : (script : List ℕ) → script_for (generated_by plan) (see old).source.bytes ≡ Some script → ScriptCosts j bound shaped counts (no_leaves kind plan.settings.places) (commands most_script script).0 old.meters new.meters
    -- With a seed, the source was not touched, nor was `err` if no work lines are asked for.
    pub generated : IsSome plan.seed → (new.source ≡ old.source) × (plan.settings.work ≡ false → new.err ≡ old.err)
    -- Without work lines `err` was not touched except at a fault of the script, or if memory ran out.
    pub quiet : plan.settings.work ≡ false → status ≢ 3 → status ≢ 6 → new.err ≡ old.err

  -- The same in the trees that the plan names.
  abbrev pub PlannedBy : {V : Type 0} → Meaning V → Plan → Outside S K E M → Outside S K E M → ℕ → Type 0
  PlannedBy j plan old new status = Planned j (kind_of plan.tree) (bound_for plan.tree) (shape_for plan.tree) plan old new status

  -- The same over the job that the plan names.
  abbrev pub PlannedFor : {C I L T : Type 0} → Jobs C I L T → JobName → Plan → Outside S K E M → Outside S K E M → ℕ → Type 0
  PlannedFor jobs Count plan old new status = PlannedBy jobs.count plan old new status
  PlannedFor jobs Index plan old new status = PlannedBy jobs.index plan old new status
  PlannedFor jobs Latest plan old new status = PlannedBy jobs.latest plan old new status
  PlannedFor jobs TopK plan old new status = PlannedBy (jobs.topk plan.k) plan old new status

  -- The arguments were refused with a line, and only `err` was touched.
  pub record Refused (line : List ℕ) (old new : Outside S K E M) (status : ℕ) : Type 0 where
    pub source : new.source ≡ old.source
    pub out : new.out ≡ old.out
    pub meters : new.meters ≡ old.meters
    pub known : (status ≡ 2) ⊎ (status ≡ 6)
    pub tried : status ≡ 2 → Tries line (see old).err (see new).err
    pub prefix : Told (see old).err.bytes (see new).err.bytes (GainsPrefix line)

  -- What the arguments ask for was done, or they were refused.
  abbrev pub Ran : {C I L T : Type 0} → Jobs C I L T → Result Plan Field → Outside S K E M → Outside S K E M → ℕ → Type 0
  Ran jobs (Ok plan) old new status = PlannedFor jobs plan.job plan old new status
  Ran jobs (Err field) old new status = Refused (line_for field) old new status

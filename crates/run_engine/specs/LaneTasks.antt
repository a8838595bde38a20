-- When a lane's task may be done, and what it makes of the lane.
use Rattle.std.specs.Prelude.{◌≡◌, ℕ, ◌+◌, ◌≤◌, nat_lt, Bool, false, List, length, All, Result, OnOk}
use Rattle.std.specs.List.{sum_by}
use Rattle.atomic_table.specs.Seated.{TableId}
use Rattle.definitions.specs.Answer.{pairs_of}
use Rattle.job_laws.specs.declared.meter.Counts.{Counts}
use Rattle.job_laws.specs.Counted.{RoseBy}
use Rattle.job_laws.specs.Meanings.{Meaning, AllAccepted}
use Rattle.pin_table.specs.Covers.{IsLater}
use Rattle.window_manager.specs.Windows.{Leaf}
use Rattle.map_tasks.specs.Inputs.{InputView}
use Rattle.map_tasks.specs.Texts.{TextView, IsMappedSo, used_of, came_of, gone_of}
use Rattle.map_tasks.specs.Lanes.{LaneView}
use Rattle.run_engine.specs.NewTexts.{times, new_texts}
use Rattle.run_engine.specs.Inputs.{texts_of}

-- The lane holds the text.
abbrev pub is_held : List TextView → Leaf → Bool
is_held texts t = nat_lt 0 (used_of t texts + came_of t texts)

-- The total weight of the inputs' texts that a lane does not hold, each once.
abbrev pub new_weight : (Leaf → ℕ) → List TextView → List InputView → ℕ
new_weight weight texts inputs = sum_by weight (new_texts (is_held texts) (texts_of inputs))

-- Of each text no more of these leaves go than there are.
abbrev pub MayLeave : LaneView → List InputView → Type 0
MayLeave lane gone = (t : Leaf) → gone_of t lane.texts + times t (texts_of gone) ≤ used_of t lane.texts

-- Each of these leaves left, and nothing else changed.
pub record IsLeftBy (gone : List InputView) (old new : LaneView) : Type 0 where
  pub caller : new.caller ≡ old.caller
  pub mapped : (parts setting : ℕ) → All (IsMappedSo parts setting) old.texts → All (IsMappedSo parts setting) new.texts
  pub used : (t : Leaf) → used_of t new.texts ≡ used_of t old.texts
  pub came : (t : Leaf) → came_of t new.texts ≡ came_of t old.texts
  pub went : (t : Leaf) → gone_of t new.texts ≡ gone_of t old.texts + times t (texts_of gone)

module _ {V : Type 0} (m : Meaning V) (setting parts : ℕ) where
  -- The input is for this job and this number of parts, and its records are accepted.
  pub record IsInputFor (i : InputView) : Type 0 where
    pub parts_are : i.parts ≡ parts
    pub setting_is : i.setting ≡ setting
    pub accepted : AllAccepted m i.text

  -- The lane is of the memo with these locks, and may bring these leaves.
  pub record MayBring (locks : List TableId) (lane : LaneView) (fresh : List InputView) : Type 0 where
    pub of : lane.caller.locks ≡ locks
    pub within : (1 ≤ parts) × (parts ≤ 16)
    pub mapped : All (IsMappedSo parts setting) lane.texts
    pub inputs : All IsInputFor fresh

  -- The most that the lane's meter counts for leaves, from one state of the lane on.
  abbrev pub BringCounts : List InputView → LaneView → Counts → Counts → Type 0
  BringCounts fresh lane before now = RoseBy (new_weight length lane.texts fresh) 0 (new_weight (λ t. length (pairs_of m.emits t)) lane.texts fresh) before now

  -- The lane brought these leaves, or failed after some of them.
  pub record IsBroughtBy {A E : Type 0} (fresh : List InputView) (old new : LaneView) (before now : Counts) (result : Result A E) : Type 0 where
    pub later : IsLater old.caller new.caller
    pub mapped : All (IsMappedSo parts setting) new.texts
    pub used : (t : Leaf) → used_of t new.texts ≡ used_of t old.texts
    pub went : (t : Leaf) → gone_of t new.texts ≡ gone_of t old.texts
    pub came : OnOk result ((t : Leaf) → came_of t new.texts ≡ came_of t old.texts + times t (texts_of fresh))
    pub counted : BringCounts fresh old before now

  -- The lane may bring these leaves and let those leave.
  pub record IsReadyLane (locks : List TableId) (lane : LaneView) (fresh gone : List InputView) : Type 0 where
    pub brings : MayBring locks lane fresh
    pub leaves : MayLeave lane gone

  -- The lane brought these leaves and noted those that leave, or failed, and no leaf that was there is forgotten.
  pub record IsWorkedLane (fresh gone : List InputView) (old new : LaneView) (before now : Counts) (failed : Bool) : Type 0 where
    pub later : IsLater old.caller new.caller
    pub mapped : All (IsMappedSo parts setting) new.texts
    pub used : (t : Leaf) → used_of t new.texts ≡ used_of t old.texts
    pub came : failed ≡ false → (t : Leaf) → came_of t new.texts ≡ came_of t old.texts + times t (texts_of fresh)
    pub went : failed ≡ false → (t : Leaf) → gone_of t new.texts ≡ gone_of t old.texts + times t (texts_of gone)
    pub counted : BringCounts fresh old before now

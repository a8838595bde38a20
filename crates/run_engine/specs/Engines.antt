-- The model of an engine, and what holds of every engine.
use Rattle.std.specs.Prelude.{◌≡◌, ◌≢◌, ℕ, ◌+◌, ◌<◌, ◌≤◌, ◌==◌, cond, List, [], length, map, All, Option, Some, None}
use Rattle.atomic_table.specs.Seated.{TableId}
use Rattle.definitions.specs.Tables.{table_of}
use Rattle.definitions.specs.Answer.{pairs_of}
use Rattle.job_laws.specs.Meanings.{Meaning, AllAccepted}
use Rattle.job_laws.specs.declared.job.Job as Jobs
use Rattle.sheets.specs.Sheets.{SheetOf}
use Rattle.sheets.specs.Parts.{in_part}
use Rattle.marker_chunker.specs.Cuts.{joined}
use Rattle.pin_table.specs.Views.{MemoView, CallerView, newcomer}
use Rattle.pin_table.specs.Covers.{PinName, Backed}
use Rattle.collector.specs.Collectors.{CollectorView}
use Rattle.window_manager.specs.Windows.{Leaf}
use Rattle.map_tasks.specs.Inputs.{InputView, input_digest, lane_at}
use Rattle.map_tasks.specs.Texts.{IsMappedSo, IsQuiet, used_of}
use Rattle.map_tasks.specs.Lanes.{LaneView, HoldsOnce}
use Rattle.tree_laws.specs.Trees.{TreeView, bare}
use Rattle.run_settings.specs.declared.settings.Settings.{Settings}
use Rattle.run_settings.specs.Settings.{AreWithin}
use Rattle.run_engine.specs.declared.lane_seat.LaneSeat.{LaneSeat}
use Rattle.run_engine.specs.declared.part_seat.PartSeat.{PartSeat}
use Rattle.run_engine.specs.InPlace.{EachAt}
use Rattle.run_engine.specs.NewTexts.{times}
use Rattle.run_engine.specs.Sweeps.{swept_by}

-- A part: its tree, and the caller of the merge memo whose pins the tree has.
pub record SeatView (T : Type 0) : Type 0 where
  pub tree : T
  pub caller : CallerView

-- An engine: its job and settings, how many runs it completed, the number of the first leaf and the leaf texts of the
-- window at the last of them, its memos, its lanes, its parts and its collectors.
pub record EngineView (J T : Type 0) : Type 0 where
  pub job : J
  pub settings : Settings
  pub runs : ℕ
  pub first : ℕ
  pub leaves : List Leaf
  pub leaf_memo : MemoView
  pub merge_memo : MemoView
  pub lanes : List LaneView
  pub parts : List (SeatView T)
  pub leaf_collector : CollectorView
  pub merge_collector : CollectorView

-- A lane that holds no text.
abbrev pub bare_lane : CallerView → LaneView
bare_lane caller = record { caller = caller; texts = []; spare = [] }

-- A number for the lane's own texts, 0 for all others.
abbrev pub of_lane : ℕ → Leaf → ℕ → ℕ
of_lane lane t n = cond (lane_at (input_digest t) 16 == lane) n 0

-- The lane of this number holds exactly the texts of the leaves that belong to it, each with the number of its leaves.
pub record IsLaneOf (parts setting : ℕ) (leaves : List Leaf) (lane : ℕ) (l : LaneView) : Type 0 where
  pub used : (t : Leaf) → used_of t l.texts ≡ of_lane lane t (times t leaves)
  pub quiet : All IsQuiet l.texts
  pub some : All (λ e. 0 < e.used) l.texts
  pub mapped : All (IsMappedSo parts setting) l.texts
  pub once : HoldsOnce l.caller l.texts
  pub spare : l.spare ≡ []

-- A collector of the memo with these locks.
pub record IsCollectorIn (locks : List TableId) (keep : ℕ) (c : CollectorView) : Type 0 where
  pub of : c.caller.locks ≡ locks
  pub keep_is : c.keep ≡ keep

module _ {V : Type 0} (m : Meaning V) where
  -- The part of the table of a leaf.
  abbrev pub part_table : ℕ → ℕ → Leaf → List (List ℕ × V)
  part_table parts part text = in_part parts part (table_of m.joined (pairs_of m.emits text))

  -- The root of a part: a sheet of the table of the records of all leaves; none exactly if there is no leaf.
  abbrev pub IsAnswer : ℕ → ℕ → ℕ → List Leaf → Option (SheetOf V) → Type 0
  IsAnswer setting parts part leaves None = leaves ≡ []
  IsAnswer setting parts part leaves (Some s) = (leaves ≢ []) × (s ≡ record { setting = setting; entries = part_table parts part (joined leaves) })

  -- The tree of this part is over the leaves.
  pub record IsTreeOf (setting parts places first : ℕ) (leaves : List Leaf) (part : ℕ) (t : TreeView V) : Type 0 where
    pub setting_is : t.setting ≡ setting
    pub places_are : t.places ≡ places
    pub draft : t.draft ≡ None
    pub first_is : t.leaves.first ≡ first
    pub tables : t.leaves.tables ≡ map (part_table parts part) leaves

-- The model of a part's seat.
abbrev pub seat_view : {J T V M : Type 0} → PartSeat J T V M → SeatView T
seat_view s = record { tree = s.tree; caller = s.caller }

-- An engine, by its fields.
abbrev pub engine_of : {J T V M : Type 0} → J → Settings → ℕ → ℕ → List InputView → MemoView → MemoView → List (LaneSeat J V M) → List (PartSeat J T V M) → Option CollectorView → Option CollectorView → EngineView J T
engine_of job settings runs first leaves leaf_memo merge_memo lanes parts leaf_sweep merge_sweep = record {
  job = job;
  settings = settings;
  runs = runs;
  first = first;
  leaves = map (λ i. i.text) leaves;
  leaf_memo = leaf_memo;
  merge_memo = merge_memo;
  lanes = map (λ s. s.lane) lanes;
  parts = map seat_view parts;
  leaf_collector = swept_by leaf_sweep;
  merge_collector = swept_by merge_sweep;
}

-- The seat of a lane between two runs over these leaves: nothing is left to bring or to note.
pub record IsLaneSeat {J V M : Type 0} (parts setting : ℕ) (locks : List TableId) (leaves : List Leaf) (lane : ℕ) (s : LaneSeat J V M) : Type 0 where
  pub of : s.lane.caller.locks ≡ locks
  pub holds : IsLaneOf parts setting leaves lane s.lane
  pub no_fresh : s.fresh.items ≡ []
  pub no_gone : s.gone.items ≡ []

module _ {J T V M : Type 0} (m : Meaning V) (view : T → TreeView V) (pins : T → List PinName) (most : T → ℕ) where
  -- The seat of a part between two runs over these leaves. Its caller holds the pins of the tree, which are at most as
  -- many as it may have, and nothing beyond them if no lock was shown worn.
  pub record IsPartSeat (setting parts places first : ℕ) (locks : List TableId) (leaves : List Leaf) (part : ℕ) (s : PartSeat J T V M) : Type 0 where
    pub of : s.caller.locks ≡ locks
    pub stands : IsTreeOf m setting parts places first leaves part (view s.tree)
    pub backed : Backed s.caller (pins s.tree)
    pub few : length (pins s.tree) ≤ most s.tree
    pub no_fresh : s.fresh.items ≡ []

  -- What holds of an engine between its calls, by its fields.
  pub record IsWhole (setting first : ℕ) (settings : Settings) (leaves : List Leaf) (leaf_locks merge_locks : List TableId) (lanes : List (LaneSeat J V M)) (parts : List (PartSeat J T V M)) (leaf_collector merge_collector : CollectorView) : Type 0 where
    pub settings_are : AreWithin settings
    pub accepted : All (AllAccepted m) leaves
    pub lanes_count : length lanes ≡ 16
    pub lanes_are : EachAt (IsLaneSeat settings.parts setting leaf_locks leaves) lanes
    pub parts_count : length parts ≡ settings.parts
    pub parts_are : EachAt (IsPartSeat setting settings.parts settings.places first merge_locks leaves) parts
    pub leaf_sweeps : IsCollectorIn leaf_locks settings.keep leaf_collector
    pub merge_sweeps : IsCollectorIn merge_locks settings.keep merge_collector

module _ {J V M T : Type 0} (j : Jobs.Ghosts J V M) (view : T → TreeView V) (pins : T → List PinName) where
  -- An engine before its first run, every lock of which starts at `n`.
  pub record IsNewEngine (n : ℕ) (job : J) (settings : Settings) (e : EngineView J T) : Type 0 where
    pub job_is : e.job ≡ job
    pub settings_are : e.settings ≡ settings
    pub runs : e.runs ≡ 0
    pub first : e.first ≡ 0
    pub leaves : e.leaves ≡ []
    pub leaf_memo : (e.leaf_memo.start ≡ n) × (length e.leaf_memo.locks ≡ settings.shards) × (e.leaf_memo.callers ≡ 17)
    pub merge_memo : (e.merge_memo.start ≡ n) × (length e.merge_memo.locks ≡ settings.shards) × (e.merge_memo.callers ≡ settings.parts + 1)
    pub lanes_count : length e.lanes ≡ 16
    pub lanes : EachAt (λ k l. l ≡ bare_lane (newcomer e.leaf_memo.locks k)) e.lanes
    pub parts_count : length e.parts ≡ settings.parts
    pub parts : EachAt (λ p s. (s.caller ≡ newcomer e.merge_memo.locks p) × (pins s.tree ≡ []) × (view s.tree ≡ bare (j.setting job) settings.places)) e.parts
    pub leaf_collector : e.leaf_collector ≡ record { caller = newcomer e.leaf_memo.locks 16; keep = settings.keep }
    pub merge_collector : e.merge_collector ≡ record { caller = newcomer e.merge_memo.locks settings.parts; keep = settings.keep }

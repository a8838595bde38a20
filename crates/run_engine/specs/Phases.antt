-- When the two phases of a run may begin, and what they leave, whatever they return.
use Rattle.std.specs.Prelude.{◌≡◌, ℕ, ◌+◌, ◌≤◌, ◌<◌, ◌*◌, false, List, [], ◌++◌, length, map, All, None, slice_index_or}
use Rattle.std.specs.List.{sum_by}
use Rattle.atomic_table.specs.Seated.{TableId}
use Rattle.definitions.specs.Answer.{pairs_of}
use Rattle.job_laws.specs.declared.meter.Counts.{Counts}
use Rattle.job_laws.specs.Counted.{RoseBy, RoseWithin}
use Rattle.job_laws.specs.Meanings.{Meaning}
use Rattle.job_laws.specs.Rows.{LaneRose, sum_of}
use Rattle.record_text.specs.Shifts.{FitsShift, left, shifted}
use Rattle.record_text.specs.declared.kind.Kind.{Kind}
use Rattle.record_text.specs.declared.shift.Shift.{Shift}
use Rattle.sheets.specs.Sheets.{SheetOf}
use Rattle.sheets.specs.United.{tables_of}
use Rattle.pin_table.specs.Views.{CallerView}
use Rattle.pin_table.specs.Covers.{PinName, IsLater, Covered, Balanced}
use Rattle.pin_table.specs.OwnEvents.{Met}
use Rattle.window_manager.specs.Windows.{Leaf}
use Rattle.map_tasks.specs.Inputs.{InputView}
use Rattle.map_tasks.specs.Texts.{IsMappedSo, used_of, came_of, gone_of}
use Rattle.map_tasks.specs.Lanes.{LaneView}
use Rattle.tree_laws.specs.Trees.{Shape, TreeView, IsDrafted, LooseOnlyIf, reverted, distinct_keys}
use Rattle.run_engine.specs.declared.lane_seat.LaneSeat.{LaneSeat}
use Rattle.run_engine.specs.declared.part_seat.PartSeat.{PartSeat}
use Rattle.run_engine.specs.InPlace.{EachAt}
use Rattle.run_engine.specs.Rows.{OthersStay}
use Rattle.run_engine.specs.NewTexts.{times, is_among, new_texts}
use Rattle.run_engine.specs.Inputs.{texts_of, goes_to, AreMappedSo, FitsOld}
use Rattle.run_engine.specs.LaneTasks.{IsInputFor}
use Rattle.run_engine.specs.Engines.{IsLaneSeat, of_lane, part_table}

-- The lane has brought and noted what it could, and forgot no leaf that was there.
pub record IsTriedLane (parts setting : ℕ) (old new : LaneView) : Type 0 where
  pub later : IsLater old.caller new.caller
  pub mapped : All (IsMappedSo parts setting) new.texts
  pub used : (t : Leaf) → used_of t new.texts ≡ used_of t old.texts

-- The lane of this number brought those of the leaves that belong to it, and noted those that leave.
pub record IsBroughtLane (fresh gone : List Leaf) (lane : ℕ) (l : LaneView) : Type 0 where
  pub came : (t : Leaf) → came_of t l.texts ≡ of_lane lane t (times t fresh)
  pub went : (t : Leaf) → gone_of t l.texts ≡ of_lane lane t (times t gone)

-- The lane of this number got those of the leaves that belong to it, in addition to those that it had.
pub record IsDealtLane (fresh : List InputView) (gone : List Leaf) (lane : ℕ) (old_fresh old_gone new_fresh new_gone : List InputView) : Type 0 where
  pub came : new_fresh ≡ old_fresh ++ goes_to lane fresh
  pub went : (t : Leaf) → times t (texts_of new_gone) ≡ times t (texts_of old_gone) + of_lane lane t (times t gone)

module _ {J V M : Type 0} (m : Meaning V) (setting parts : ℕ) where
  -- The lanes are over these leaves, and may take a shift that brings those.
  pub record MayBringAll (locks : List TableId) (leaves : List Leaf) (shift : Shift) (fresh : List InputView) (lanes : List (LaneSeat J V M)) : Type 0 where
    pub count : length lanes ≡ 16
    pub within : (1 ≤ parts) × (parts ≤ 16)
    pub seats : EachAt (IsLaneSeat parts setting locks leaves) lanes
    pub inputs : All (IsInputFor m setting parts) fresh
    pub fits : FitsOld shift (length leaves)
    pub leave : (t : Leaf) → times t (left [] shift leaves) ≤ times t leaves

-- What the meters of the lanes counted: all together at most the cost of the new texts among those that came.
pub record LanesCounted {V M : Type 0} (m : Meaning V) (counts : M → Counts) (leaves fresh : List Leaf) (old new : List M) : Type 0 where
  pub count : length new ≡ length old
  pub each : (i : ℕ) (d : M) → LaneRose (counts (slice_index_or old i d)) (counts (slice_index_or new i d))
  pub maps : RoseWithin (sum_by length (new_texts (is_among leaves) fresh)) (sum_of (λ n. (counts n).maps) old) (sum_of (λ n. (counts n).maps) new)
  pub joins : RoseWithin (sum_by (λ t. length (pairs_of m.emits t)) (new_texts (is_among leaves) fresh)) (sum_of (λ n. (counts n).joins) old) (sum_of (λ n. (counts n).joins) new)

module _ {J T V M : Type 0} (view : T → TreeView V) (pins : T → List PinName) where
  -- The seat of a part that may take the shift, which brings a number of leaves.
  pub record IsPartReady (setting : ℕ) (kind : Kind) (locks : List TableId) (shift : Shift) (news : ℕ) (s : PartSeat J T V M) : Type 0 where
    pub of : s.caller.locks ≡ locks
    pub covered : Covered s.caller (pins s.tree)
    pub setting_is : (view s.tree).setting ≡ setting
    pub no_draft : (view s.tree).draft ≡ None
    pub no_fresh : s.fresh.items ≡ []
    pub fits : FitsShift kind (view s.tree).places (view s.tree).leaves.first (length (view s.tree).leaves.tables) news shift

  -- Each part may take the shift that brings these leaves.
  pub record MayTakeAll (setting parts : ℕ) (kind : Kind) (locks : List TableId) (shift : Shift) (fresh : List InputView) (seats : List (PartSeat J T V M)) : Type 0 where
    pub count : length seats ≡ parts
    pub seats_are : All (IsPartReady setting kind locks shift (length fresh)) seats
    pub inputs : AreMappedSo parts setting fresh

module _ {V T : Type 0} (view : T → TreeView V) where
  -- With or without a draft, the leaves are unchanged, and the pins are covered.
  pub record IsTriedPart (pins : T → List PinName) (tree : T) (caller : CallerView) (tree_now : T) (caller_now : CallerView) : Type 0 where
    pub kept : reverted (view tree_now) ≡ view tree
    pub covered : Covered caller_now (pins tree_now)
    pub balanced : Balanced caller (pins tree) caller_now (pins tree_now)
    pub loose : LooseOnlyIf (Met caller caller_now) (view tree) (view tree_now)

  -- The tree of this part has the shift as its draft.
  pub record IsShiftedPart (m : Meaning V) (parts : ℕ) (shaped : Shape → Shift → Shape) (shift : Shift) (fresh : List Leaf) (part : ℕ) (tree tree_now : T) : Type 0 where
    pub news : List (SheetOf V)
    pub tables : tables_of news ≡ map (part_table m parts part) fresh
    pub drafted : IsDrafted shaped shift news (view tree) (view tree_now)

  module _ {M : Type 0} (counts : M → Counts) (m : Meaning V) (parts : ℕ) (bound : T → Shift → ℕ) (tight : T → Shift → List (List (List ℕ × V)) → ℕ) where
    -- What a part's meter counted, where the shift brought these leaves.
    pub record PartCounted (shift : Shift) (fresh : List Leaf) (part : ℕ) (tree : T) (caller caller_now : CallerView) (before now : M) : Type 0 where
      pub counted : RoseBy 0 (bound tree shift) (bound tree shift * distinct_keys (shifted shift (map (part_table m parts part) fresh) (view tree).leaves.tables)) (counts before) (counts now)
      pub tightly : (view tree).leaves.loose ≡ false → (Met caller caller_now → ⊥) → RoseWithin (tight tree shift (map (part_table m parts part) fresh)) (counts before).merges (counts now).merges

    -- What the meters of the parts counted. Those of no part are unchanged.
    pub record PartsCounted {J : Type 0} (shift : Shift) (fresh : List Leaf) (seats seats_now : List (PartSeat J T V M)) (old new : List M) : Type 0 where
      pub others_stay : OthersStay parts old new
      pub each : (p : ℕ) (s t : PartSeat J T V M) (d e : M) → p < parts → PartCounted shift fresh p (slice_index_or seats p s).tree (slice_index_or seats p s).caller (slice_index_or seats_now p t).caller (slice_index_or old p d) (slice_index_or new p e)

-- What one run promises.
use Rattle.std.specs.Prelude.{◌≡◌, ℕ, ◌+◌, ◌*◌, ◌<◌, ◌≤◌, ◌⊎◌, max, true, false, List, [], ◌∷◌, length, map, slice_index_or}
use Rattle.definitions.specs.Tables.{keys_of}
use Rattle.definitions.specs.Answer.{pairs_of}
use Rattle.job_laws.specs.declared.meter.Counts.{Counts}
use Rattle.job_laws.specs.Counted.{RoseBy, RoseWithin}
use Rattle.job_laws.specs.Meanings.{Meaning}
use Rattle.job_laws.specs.Rows.{Row, RowRose, sum_of}
use Rattle.record_text.specs.Shifts.{first_after}
use Rattle.record_text.specs.declared.shift.Shift.{Shift}
use Rattle.collector.specs.Collectors.{horizon_of}
use Rattle.pin_table.specs.Covers.{IsLater}
use Rattle.pin_table.specs.OwnEvents.{Met}
use Rattle.window_manager.specs.Windows.{Leaf, present}
use Rattle.window_manager.specs.Views.{WindowView, shift_of}
use Rattle.window_manager.specs.Since.{fresh_leaves}
use Rattle.map_tasks.specs.Texts.{Reverts}
use Rattle.tree_laws.specs.Trees.{Shape, TreeView, distinct_keys}
use Rattle.run_engine.specs.InPlace.{EachPair}
use Rattle.run_engine.specs.NewTexts.{new_records}
use Rattle.run_engine.specs.Engines.{SeatView, EngineView, part_table}
use Rattle.run_engine.specs.Sweeps.{SweptAll, SweptSome}

module _ {J T : Type 0} where
  -- One more run is completed, over the window's leaves, and each collector swept at its horizon.
  pub record IsRun {V : Type 0} (view : T → TreeView V) (shaped : Shape → Shift → Shape) (w : WindowView) (old new : EngineView J T) : Type 0 where
    pub runs : new.runs ≡ old.runs + 1
    pub leaves : new.leaves ≡ w.window.leaves
    pub first : new.first ≡ first_after (shift_of w) old.first
    pub shapes : EachPair (λ p s t. (view t.tree).leaves.shape ≡ shaped (view s.tree).leaves.shape (shift_of w)) old.parts new.parts
    pub leaf_swept : SweptAll (horizon_of old.settings.keep new.runs) old.leaf_collector.caller new.leaf_collector.caller
    pub merge_swept : SweptAll (horizon_of old.settings.keep new.runs) old.merge_collector.caller new.merge_collector.caller

  -- No run was made: the lanes hold the texts that they held, and the trees are over the leaves as before.
  pub record IsNoRun {V : Type 0} (view : T → TreeView V) (old new : EngineView J T) : Type 0 where
    pub runs : new.runs ≡ old.runs
    pub leaves : new.leaves ≡ old.leaves
    pub first : new.first ≡ old.first
    pub lanes : EachPair (λ k s t. Reverts s.texts t.texts) old.lanes new.lanes
    pub trees : EachPair (λ p s t. view t.tree ≡ view s.tree) old.parts new.parts

  -- What no run changes.
  pub record IsSameEngine (old new : EngineView J T) : Type 0 where
    pub job : new.job ≡ old.job
    pub settings : new.settings ≡ old.settings
    pub leaf_memo : new.leaf_memo ≡ old.leaf_memo
    pub merge_memo : new.merge_memo ≡ old.merge_memo

  -- What any run keeps of the callers: their events stay, and more may come after them.
  pub record IsLaterEngine (old new : EngineView J T) : Type 0 where
    pub lanes : EachPair (λ k s t. IsLater s.caller t.caller) old.lanes new.lanes
    pub parts : EachPair (λ p s t. IsLater s.caller t.caller) old.parts new.parts
    pub leaf_collector : IsLater old.leaf_collector.caller new.leaf_collector.caller
    pub merge_collector : IsLater old.merge_collector.caller new.merge_collector.caller

-- The greatest of numbers, or 0.
abbrev pub greatest : List ℕ → ℕ
greatest [] = 0
greatest (n ∷ ns) = max n (greatest ns)

module _ {V M : Type 0} (counts : M → Counts) (m : Meaning V) where
  -- What the meters of all lanes counted together: at most a map for each new record, and a join for each pair that the
  -- new records emit.
  pub record LanesWorked (old_leaves leaves : List Leaf) (old new : List M) : Type 0 where
    pub maps : RoseWithin (length (new_records old_leaves leaves)) (sum_of (λ n. (counts n).maps) old) (sum_of (λ n. (counts n).maps) new)
    pub joins : RoseWithin (length (pairs_of m.emits (new_records old_leaves leaves))) (sum_of (λ n. (counts n).joins) old) (sum_of (λ n. (counts n).joins) new)

  module _ {T : Type 0} (bound : ℕ → Shape → ℕ → Shift → ℕ) (tight : T → Shift → List (List (List ℕ × V)) → ℕ) (view : T → TreeView V) where
    -- The most merges of a part in a run over a window of a number of places, with a number of leaves before the shift.
    abbrev pub part_bound : ℕ → ℕ → WindowView → SeatView T → ℕ
    part_bound places leaves w seat = bound places (view seat.tree).leaves.shape leaves (shift_of w)

    -- What a part's meter counted, with its tree and its caller: merges up to the tree's bound, and joins up to as many
    -- for each key of its part in the window; fewer merges if no node was loose and none became loose by the memo's
    -- answers.
    pub record PartWorked (parts places leaves : ℕ) (w : WindowView) (part : ℕ) (before now : M) (old new : SeatView T) : Type 0 where
      pub counted : RoseBy 0 (part_bound places leaves w old) (part_bound places leaves w old * distinct_keys (map (part_table m parts part) w.window.leaves)) (counts before) (counts now)
      pub tightly : (view old.tree).leaves.loose ≡ false → (Met old.caller new.caller → ⊥) → RoseWithin (tight old.tree (shift_of w) (map (part_table m parts part) (fresh_leaves w))) (counts before).merges (counts now).merges
      pub loose : (view new.tree).leaves.loose ≡ true → ((view old.tree).leaves.loose ≡ true) ⊎ Met old.caller new.caller

    -- What the meters of the parts counted; those that belong to no part are unchanged. All together counted no more
    -- joins than the greatest of the bounds for each key of the window.
    pub record PartsWorked (parts places leaves : ℕ) (w : WindowView) (old new : List M) (seats seats_now : List (SeatView T)) : Type 0 where
      pub each : (p : ℕ) (d e : M) (s t : SeatView T) → p < parts → PartWorked parts places leaves w p (slice_index_or old p d) (slice_index_or new p e) (slice_index_or seats p s) (slice_index_or seats_now p t)
      pub others : (p : ℕ) (d : M) → parts ≤ p → slice_index_or new p d ≡ slice_index_or old p d
      pub joins : RoseWithin (greatest (map (part_bound places leaves w) seats) * length (keys_of (pairs_of m.emits (present w.window)))) (sum_of (λ n. (counts n).joins) old) (sum_of (λ n. (counts n).joins) new)

    -- What a run does, whatever it returns: what it keeps, what its meters counted, and what its collectors swept.
    pub record RunWorked {J : Type 0} (w : WindowView) (meters meters_now : Row M) (old new : EngineView J T) : Type 0 where
      pub same : IsSameEngine old new
      pub later : IsLaterEngine old new
      pub rose : RowRose counts meters meters_now
      pub lanes : LanesWorked old.leaves w.window.leaves meters.lanes meters_now.lanes
      pub parts : PartsWorked old.settings.parts old.settings.places (length old.leaves) w meters.parts meters_now.parts old.parts new.parts
      pub leaf_swept : SweptSome (horizon_of old.settings.keep (old.runs + 1)) old.leaf_collector.caller new.leaf_collector.caller
      pub merge_swept : SweptSome (horizon_of old.settings.keep (old.runs + 1)) old.merge_collector.caller new.merge_collector.caller

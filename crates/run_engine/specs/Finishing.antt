-- How a run becomes final, or is undone.
use Rattle.std.specs.Prelude.{◌≡◌, ℕ, ◌≤◌, List, [], length, IsSome}
use Rattle.atomic_table.specs.Seated.{TableId}
use Rattle.pin_table.specs.Views.{CallerView}
use Rattle.pin_table.specs.Covers.{PinName, Covered, Balanced, IsLater}
use Rattle.map_tasks.specs.Texts.{Settles, Reverts}
use Rattle.map_tasks.specs.Lanes.{LaneView, StayMappedSo, HoldsOnce}
use Rattle.tree_laws.specs.Trees.{TreeView, settled, reverted}

-- What a lane keeps when its notes become final or are undone.
pub record IsFinished (old new : LaneView) : Type 0 where
  pub later : IsLater old.caller new.caller
  pub mapped : StayMappedSo old.texts new.texts
  pub once : HoldsOnce new.caller new.texts
  pub spare : new.spare ≡ []

-- The lane's notes became final, and its lists were emptied.
pub record SettlesLane {I : Type 0} (old new : LaneView) (fresh gone : List I) : Type 0 where
  pub texts : Settles old.texts new.texts
  pub finished : IsFinished old new
  pub fresh_done : fresh ≡ []
  pub gone_done : gone ≡ []

-- The lane's notes were undone, and its lists were emptied.
pub record RevertsLane {I : Type 0} (old new : LaneView) (fresh gone : List I) : Type 0 where
  pub texts : Reverts old.texts new.texts
  pub finished : IsFinished old new
  pub fresh_done : fresh ≡ []
  pub gone_done : gone ≡ []

module _ {T : Type 0} (pins : T → List PinName) where
  -- The pins are covered.
  pub record MayRevert (locks : List TableId) (tree : T) (caller : CallerView) : Type 0 where
    pub of : caller.locks ≡ locks
    pub covered : Covered caller (pins tree)

module _ {V T : Type 0} (view : T → TreeView V) (pins : T → List PinName) where
  -- There is a draft, and the pins are covered.
  pub record MaySettle (locks : List TableId) (tree : T) (caller : CallerView) : Type 0 where
    pub of : caller.locks ≡ locks
    pub covered : Covered caller (pins tree)
    pub draft : IsSome (view tree).draft

  module _ (most : T → ℕ) where
    -- The draft became the leaves, and the list of sheets was emptied.
    pub record SettlesTree {S : Type 0} (tree : T) (caller : CallerView) (now : T) (caller_now : CallerView) (fresh : List S) : Type 0 where
      pub settled_is : view now ≡ settled (view tree)
      pub covered : Covered caller_now (pins now)
      pub balanced : Balanced caller (pins tree) caller_now (pins now)
      pub few : length (pins now) ≤ most now
      pub fresh_done : fresh ≡ []

    -- The draft is gone, and the list of sheets was emptied.
    pub record RevertsTree {S : Type 0} (tree : T) (caller : CallerView) (now : T) (caller_now : CallerView) (fresh : List S) : Type 0 where
      pub reverted_is : view now ≡ reverted (view tree)
      pub covered : Covered caller_now (pins now)
      pub balanced : Balanced caller (pins tree) caller_now (pins now)
      pub few : length (pins now) ≤ most now
      pub fresh_done : fresh ≡ []

-- What is known of a desk: its tree is covered, and its window is that of the tree's leaves.
use Rattle.std.specs.Prelude.{◌≡◌, ℕ, ◌+◌, ◌-◌, length, List, None}
use Rattle.record_text.specs.declared.shift.Shift.{Shift}
use Rattle.record_text.specs.declared.shift.Shift.TheVariants.{Slide, Splice}
use Rattle.pin_table.specs.Views.{MemoView, CallerView}
use Rattle.pin_table.specs.Covers.{PinName, Covered}
use Rattle.tree_laws.specs.Trees.{TreeView}

-- How many leaves there are after a shift.
abbrev pub count_after : Shift → ℕ → ℕ
count_after (Slide first gone places fresh) count = count - gone + fresh
count_after (Splice first gone fresh) count = count - gone + fresh

-- The memo has one caller, which covers the tree's pins, there is no draft, the job is at the tree's setting, and the
-- window has the tree's places, its first leaf and as many leaves.
pub record IsSeated {V : Type 0} (memo : MemoView) (caller : CallerView) (pins : List PinName) (tree : TreeView V) (setting places first count : ℕ) : Type 0 where
  pub of : caller.locks ≡ memo.locks
  pub alone : memo.callers ≡ 1
  pub covered : Covered caller pins
  pub no_draft : tree.draft ≡ None
  pub job : setting ≡ tree.setting
  pub places_are : tree.places ≡ places
  pub first_is : tree.leaves.first ≡ first
  pub count_is : length tree.leaves.tables ≡ count

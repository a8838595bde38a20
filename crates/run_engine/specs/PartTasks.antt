-- When a part's task may be done, and what it makes of the part.
use Rattle.std.specs.Prelude.{◌≡◌, ℕ, ◌*◌, Bool, false, List, length, All, None}
use Rattle.atomic_table.specs.Seated.{TableId}
use Rattle.job_laws.specs.declared.meter.Counts.{Counts}
use Rattle.job_laws.specs.Counted.{RoseBy, RoseWithin}
use Rattle.record_text.specs.Shifts.{FitsShift, shifted}
use Rattle.record_text.specs.declared.kind.Kind.{Kind}
use Rattle.record_text.specs.declared.shift.Shift.{Shift}
use Rattle.sheets.specs.Sheets.{SheetOf}
use Rattle.sheets.specs.United.{tables_of}
use Rattle.pin_table.specs.Views.{CallerView}
use Rattle.pin_table.specs.Covers.{PinName, Covered, Balanced}
use Rattle.pin_table.specs.OwnEvents.{Met}
use Rattle.tree_laws.specs.Trees.{Shape, TreeView, IsDrafted, LooseOnlyIf, reverted, distinct_keys}

module _ {V T : Type 0} (view : T → TreeView V) (pins : T → List PinName) where
  -- The tree may take the shift with these sheets.
  pub record IsReadyPart (kind : Kind) (setting : ℕ) (locks : List TableId) (shift : Shift) (tree : T) (caller : CallerView) (news : List (SheetOf V)) : Type 0 where
    pub of : caller.locks ≡ locks
    pub covered : Covered caller (pins tree)
    pub no_draft : (view tree).draft ≡ None
    pub fits : FitsShift kind (view tree).places (view tree).leaves.first (length (view tree).leaves.tables) (length news) shift
    pub job : setting ≡ (view tree).setting
    pub settings : All (λ s. s.setting ≡ (view tree).setting) news

  module _ (bound : T → Shift → ℕ) (tight : T → Shift → List (List (List ℕ × V)) → ℕ) (shaped : Shape → Shift → Shape) where
    -- The tree has the draft of the shift, or failed; apart from the draft it is unchanged.
    pub record IsAdvancedPart (shift : Shift) (news : List (SheetOf V)) (tree : T) (caller : CallerView) (tree_now : T) (caller_now : CallerView) (before now : Counts) (failed : Bool) : Type 0 where
      pub drafted : failed ≡ false → IsDrafted shaped shift news (view tree) (view tree_now)
      pub kept : reverted (view tree_now) ≡ view tree
      pub covered : Covered caller_now (pins tree_now)
      pub balanced : Balanced caller (pins tree) caller_now (pins tree_now)
      pub loose : LooseOnlyIf (Met caller caller_now) (view tree) (view tree_now)
      pub counted : RoseBy 0 (bound tree shift) (bound tree shift * distinct_keys (shifted shift (tables_of news) (view tree).leaves.tables)) before now
      pub tightly : (view tree).leaves.loose ≡ false → (Met caller caller_now → ⊥) → RoseWithin (tight tree shift (tables_of news)) before.merges now.merges

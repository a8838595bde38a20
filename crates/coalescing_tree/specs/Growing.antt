-- The parts of a coalescing tree: its leaves, with those of a draft at the end, the top over those without the draft's,
-- and the draft.
use Rattle.std.specs.Prelude.{◌≡◌, ℕ, ◌-◌, ◌<◌, ◌≤◌, Bool, false, List, [], ◌++◌, length, take, slice_get, All, Option, Some, None}
use Rattle.sheets.specs.Sheets.{SheetOf}
use Rattle.sheets.specs.United.{tables_of}
use Rattle.record_text.specs.declared.shift.Shift.{Shift}
use Rattle.record_text.specs.declared.shift.Shift.TheVariants.{Slide, Splice}
use Rattle.pin_table.specs.Covers.{PinName}
use Rattle.tree_laws.specs.Pairs.{PairOf}
use Rattle.tree_laws.specs.Holds.{sheet_of, some_loose, some_pins, all_pins}
use Rattle.tree_laws.specs.Trees.{Leaves, Seen, no_shape, IsLeaf, IsMergeOver}
use Rattle.tree_laws.specs.declared.hold.Hold.{Hold}
use Rattle.coalescing_tree.specs.declared.draft.Draft.{Draft}
use Rattle.coalescing_tree.specs.declared.draft.Draft.TheVariants.{Same, Merged}

-- How many leaves come.
abbrev pub fresh_of : Shift → ℕ
fresh_of (Slide first gone places fresh) = fresh
fresh_of (Splice first gone fresh) = fresh

module _ {J V M : Type 0} where
  -- The last hold of a list.
  abbrev pub last_of : List (Hold J V M) → Option (Hold J V M)
  last_of holds = slice_get holds (length holds - 1)

  -- The top over leaves: the merge of all if they are two or more, otherwise none.
  abbrev pub IsTop : (ℕ → V → V → V) → ℕ → List (SheetOf V) → Option (Hold J V M) → Type 0
  IsTop joined setting sheets None = length sheets ≤ 1
  IsTop joined setting sheets (Some hold) = (2 ≤ length sheets) × IsMergeOver joined setting (tables_of sheets) (Some (sheet_of hold))

  -- If no leaf came, there are only the leaves before; otherwise the last merge of the draft is the top over all of
  -- them.
  abbrev pub IsSoundDraft : (ℕ → V → V → V) → ℕ → List (SheetOf V) → ℕ → Option (Draft J V M) → Type 0
  IsSoundDraft joined setting sheets standing None = standing ≡ length sheets
  IsSoundDraft joined setting sheets standing (Some Same) = standing ≡ length sheets
  IsSoundDraft joined setting sheets standing (Some (Merged made)) = (standing < length sheets) × IsTop joined setting sheets (last_of made.items)

  -- The leaves are of the setting, and there are the right tops, over the leaves without the draft's and over all of
  -- them.
  pub record IsSound (good : ℕ → V → Type 0) (joined : ℕ → V → V → V) (setting : ℕ) (sheets : List (SheetOf V)) (standing : ℕ) (top : Option (Hold J V M)) (draft : Option (Draft J V M)) : Type 0 where
    pub leaves_are : All (IsLeaf good setting) sheets
    pub within : standing ≤ length sheets
    pub top_is : IsTop joined setting (take standing sheets) top
    pub draft_is : IsSoundDraft joined setting sheets standing draft

  -- Whether the top of a draft is loose, if leaves came.
  abbrev pub draft_loose : Draft J V M → Bool
  draft_loose Same = false
  draft_loose (Merged made) = some_loose (last_of made.items)

  -- Leaves under a top.
  abbrev pub leaves_of : List (SheetOf V) → Option (Hold J V M) → Leaves V
  leaves_of sheets top = record { first = 0; tables = tables_of sheets; loose = some_loose top; shape = no_shape }

  -- The leaves of a draft: if none came, those under the present top.
  abbrev pub draft_of : List (SheetOf V) → Option (Hold J V M) → Option (Draft J V M) → Option (Leaves V)
  draft_of sheets top None = None
  draft_of sheets top (Some Same) = Some (leaves_of sheets top)
  draft_of sheets top (Some (Merged made)) = Some (leaves_of sheets (last_of made.items))

  module _ (digest_of : PairOf V → List ℕ) where
    -- The pins of a draft.
    abbrev pub draft_pins : Option (Draft J V M) → List PinName
    draft_pins None = []
    draft_pins (Some Same) = []
    draft_pins (Some (Merged made)) = all_pins digest_of made.items

    -- The model of a tree.
    abbrev pub seen_of : ℕ → ℕ → List (SheetOf V) → ℕ → Option (Hold J V M) → Option (Draft J V M) → Seen V
    seen_of setting places sheets standing top draft = record {
      tree = record { setting = setting; places = places; leaves = leaves_of (take standing sheets) top; draft = draft_of sheets top draft };
      pins = some_pins digest_of top ++ draft_pins draft;
    }

-- The model of a tree: its leaves, and a draft while an advance is not settled.
use Rattle.std.specs.Prelude.{◌≡◌, ℕ, ◌⊎◌, Bool, true, false, List, [], ◌∷◌, length, fold, Option, Some, None}
use Rattle.definitions.specs.Tables.{IsRising, HasGoodValues, merged, keys_of, value_at}
use Rattle.sheets.specs.Sheets.{SheetOf}
use Rattle.sheets.specs.United.{tables_of, end_to_end}
use Rattle.record_text.specs.declared.shift.Shift.{Shift}
use Rattle.record_text.specs.Shifts.{shifted, first_after}
use Rattle.pin_table.specs.Covers.{PinName}

-- The shape of a folding tree: of 2^height places those from `low` to `high - 1` have leaves. Every other tree has zeros.
pub record Shape : Type 0 where
  pub height : ℕ
  pub low : ℕ
  pub high : ℕ

-- The shape of every tree but a folding one.
abbrev pub no_shape : Shape
no_shape = record { height = 0; low = 0; high = 0 }

-- A list of leaves: the number of the first bucket, the tables in order, whether a node over them is loose, and the shape.
pub record Leaves (V : Type 0) : Type 0 where
  pub first : ℕ
  pub tables : List (List (List ℕ × V))
  pub loose : Bool
  pub shape : Shape

-- No leaves.
abbrev pub no_leaves : {V : Type 0} → Leaves V
no_leaves = record { first = 0; tables = []; loose = false; shape = no_shape }

-- A tree: the setting of its sheets, the places of its window, its leaves, and the draft if there is one.
pub record TreeView (V : Type 0) : Type 0 where
  pub setting : ℕ
  pub places : ℕ
  pub leaves : Leaves V
  pub draft : Option (Leaves V)

-- A tree with its pins.
pub record Seen (V : Type 0) : Type 0 where
  pub tree : TreeView V
  pub pins : List PinName

-- A tree without leaves.
abbrev pub bare : {V : Type 0} → ℕ → ℕ → TreeView V
bare setting places = record { setting = setting; places = places; leaves = no_leaves; draft = None }

module _ {V : Type 0} where
  -- The leaves after a shift that brings these sheets. Which nodes are loose is stated separately.
  pub record IsDraftOf (shaped : Shape → Shift → Shape) (shift : Shift) (news : List (SheetOf V)) (old new : Leaves V) : Type 0 where
    pub first : new.first ≡ first_after shift old.first
    pub tables : new.tables ≡ shifted shift (tables_of news) old.tables
    pub shape : new.shape ≡ shaped old.shape shift

  -- The tree has a draft of the leaves after the shift, and is otherwise unchanged.
  pub record IsDrafted (shaped : Shape → Shift → Shape) (shift : Shift) (news : List (SheetOf V)) (old new : TreeView V) : Type 0 where
    pub draft : Leaves V
    pub is : new ≡ record old { draft = Some draft }
    pub of : IsDraftOf shaped shift news old.leaves draft

  -- A node of the draft is loose only if one of the leaves is, or if the caller met what makes a node loose.
  abbrev pub LooseOnlyIf : Type 0 → TreeView V → TreeView V → Type 0
  LooseOnlyIf Meets old new = (draft : Leaves V) → new.draft ≡ Some draft → draft.loose ≡ true → (old.leaves.loose ≡ true) ⊎ Meets

  -- The tree with this draft as its leaves.
  abbrev pub settled_by : TreeView V → Option (Leaves V) → TreeView V
  settled_by v None = v
  settled_by v (Some draft) = record v { leaves = draft; draft = None }

  -- The tree with its draft as its leaves.
  abbrev pub settled : TreeView V → TreeView V
  settled v = settled_by v v.draft

  -- The tree without its draft.
  abbrev pub reverted : TreeView V → TreeView V
  reverted v = record v { draft = None }

  -- The tree has the leaves after the shift, and is otherwise unchanged.
  pub record IsSettled (shaped : Shape → Shift → Shape) (shift : Shift) (news : List (SheetOf V)) (old new : TreeView V) : Type 0 where
    pub draft : Leaves V
    pub is : new ≡ record old { leaves = draft; draft = None }
    pub of : IsDraftOf shaped shift news old.leaves draft

  -- The merge of the tables from left to right.
  abbrev pub merged_all : (V → V → V) → List (List (List ℕ × V)) → Option (List (List ℕ × V))
  merged_all join [] = None
  merged_all join (t ∷ ts) = Some (fold (merged join) t ts)

  -- A sheet of the setting with the merge of the tables; none exactly if there are no tables.
  abbrev pub IsMergeOver : (ℕ → V → V → V) → ℕ → List (List (List ℕ × V)) → Option (SheetOf V) → Type 0
  IsMergeOver joined setting ts None = ts ≡ []
  IsMergeOver joined setting ts (Some s) = (s.setting ≡ setting) × (merged_all (joined setting) ts ≡ Some s.entries)

  -- The root of a tree is the merge of its leaves.
  abbrev pub IsRoot : (ℕ → V → V → V) → TreeView V → Option (SheetOf V) → Type 0
  IsRoot joined v root = IsMergeOver joined v.setting v.leaves.tables root

  -- A sheet of the setting, with rising keys and values that are good at it.
  pub record IsLeaf (good : ℕ → V → Type 0) (setting : ℕ) (s : SheetOf V) : Type 0 where
    pub setting_is : s.setting ≡ setting
    pub values : HasGoodValues (good setting) s.entries
    pub rising : IsRising s.entries

  -- Each key of the table is in one of the tables.
  abbrev pub IsWithin : List (List ℕ × V) → List (List (List ℕ × V)) → Type 0
  IsWithin t ts = (key : List ℕ) → value_at (end_to_end ts) key ≡ None → value_at t key ≡ None

  -- The most merges of an advance of this tree by the shift.
  abbrev pub bound_of : {T : Type 0} → (T → TreeView V) → (ℕ → Shape → ℕ → Shift → ℕ) → T → Shift → ℕ
  bound_of view bound tree shift = bound (view tree).places (view tree).leaves.shape (length (view tree).leaves.tables) shift

  -- How many distinct keys the tables have.
  abbrev pub distinct_keys : List (List (List ℕ × V)) → ℕ
  distinct_keys ts = length (keys_of (end_to_end ts))

-- A folding tree: levels of nodes over the leaves, and what a draft makes of them.
use Rattle.std.specs.Prelude.{◌≡◌, ℕ, suc, ◌+◌, ◌-◌, ◌*◌, ◌^◌, ◌<◌, ◌≤◌, List, [], ◌∷◌, ◌++◌, map, drop, length, slice_get, slice_index_or, All, Option, Some, None}
use Rattle.std.specs.VecDeque.{deque_capacity}
use Rattle.sheets.specs.Sheets.{SheetOf}
use Rattle.sheets.specs.United.{tables_of}
use Rattle.record_text.specs.Shifts.{put_at}
use Rattle.pin_table.specs.Covers.{PinName}
use Rattle.tree_laws.specs.Pairs.{PairOf}
use Rattle.tree_laws.specs.Trees.{Shape, Leaves, IsLeaf, Seen}
use Rattle.folding_tree.specs.declared.level.Level.{Level}
use Rattle.folding_tree.specs.declared.draft.Draft.{Draft}
use Rattle.folding_tree.specs.declared.standing.Standing.{Standing}
use Rattle.folding_tree.specs.declared.span.Span.{Span}
use Rattle.folding_tree.specs.Shapes.{folded, without, with_fresh}
use Rattle.folding_tree.specs.Levels.{Row, Ahead, no_row, no_ahead, row_after, sheets_of, parts_pins, rows_loose, IsFit, IsTower}

-- The shape of live places.
abbrev pub span_shape : Span → Shape
span_shape span = record { height = span.height; low = span.low; high = span.high }

-- The half of the places that is left: it has all live ones, and counts from its start.
pub record IsHalf (span half : Span) : Type 0 where
  pub lower : span.height ≡ half.height + 1
  pub wide : half.width ≡ 2 ^ half.height
  pub some : half.low < half.high
  pub fits : half.high ≤ half.width
  pub shape : folded span.height span.low span.high ≡ folded half.height half.low half.high
  pub moved : (t : ℕ) × (span.low ≡ half.low + t * 2 ^ half.height) × (span.high ≡ half.high + t * 2 ^ half.height)

module _ {J V M : Type 0} where
  -- The row of a level.
  abbrev pub row_of : Level J V M → Row J V M
  row_of level = record { low = level.low; parts = level.nodes.items }

  -- What a draft makes of a row.
  abbrev pub ahead_of : Draft J V M → Ahead J V M
  ahead_of draft = record { from = draft.from; low = draft.low; mid = draft.mid; high = draft.high; places = draft.places.items; changed = draft.changed.items; fresh = draft.fresh.items }

  -- The rows of the levels, from the leaves on; after the last one there are no nodes.
  abbrev pub rows_of : List (Level J V M) → ℕ → Row J V M
  rows_of levels k = slice_index_or (map row_of levels) k no_row

  -- What the drafts make of the rows, from the leaves on; after the last one nothing stays.
  abbrev pub aheads_of : List (Draft J V M) → ℕ → Ahead J V M
  aheads_of drafts k = slice_index_or (map ahead_of drafts) k no_ahead

  -- The rows after the drafts.
  abbrev pub rows_after : List (Level J V M) → List (Draft J V M) → ℕ → Row J V M
  rows_after levels drafts k = row_after (rows_of levels k) (aheads_of drafts k)

  -- The nodes of the row from the place `from` on are those of the span, moved by a multiple of its places.
  abbrev pub IsMoved : Row J V M → ℕ → Span → Type 0
  IsMoved row from span = (row.low ≤ from) × (from + (span.high - span.low) ≡ row.low + length row.parts) × ((j : ℕ) × (from ≡ span.low + j * 2 ^ span.height))

  -- Each level has room for what its draft leaves there.
  abbrev pub HaveRoom : List (Level J V M) → List (Draft J V M) → Type 0
  HaveRoom levels drafts = (k : ℕ) (level : Level J V M) (draft : Draft J V M) → slice_get levels k ≡ Some level → slice_get drafts k ≡ Some draft → draft.high - draft.low ≤ deque_capacity level.nodes

  -- Each draft fits its level.
  abbrev pub AreFit : List (Level J V M) → List (Draft J V M) → Type 0
  AreFit levels drafts = (k : ℕ) → IsFit (rows_of levels k) (aheads_of drafts k)

  -- The rows make a tree of this height over leaves of the setting.
  pub record IsTree (good : ℕ → V → Type 0) (joined : ℕ → V → V → V) (setting : ℕ) (at : Standing) (rows : ℕ → Row J V M) : Type 0 where
    pub tower : IsTower joined at.height rows
    pub leaves_are : All (IsLeaf good setting) (sheets_of (rows 0).parts)
    pub wide : at.width ≡ 2 ^ at.height

  -- There is a draft for each level of a tree that they make, and room for it.
  pub record IsNext (good : ℕ → V → Type 0) (joined : ℕ → V → V → V) (setting : ℕ) (at : Standing) (levels : List (Level J V M)) (drafts : List (Draft J V M)) : Type 0 where
    pub count : length drafts ≡ at.height + 1
    pub deep : length drafts ≤ length levels
    pub fit : AreFit levels drafts
    pub room : HaveRoom levels drafts
    pub tree : IsTree good joined setting at (rows_after levels drafts)

  -- There are no drafts, or those of the next tree.
  abbrev pub IsDraft : (ℕ → V → Type 0) → (ℕ → V → V → V) → ℕ → Option Standing → List (Level J V M) → List (Draft J V M) → Type 0
  IsDraft good joined setting None levels drafts = drafts ≡ []
  IsDraft good joined setting (Some at) levels drafts = IsNext good joined setting at levels drafts

  -- The levels make a tree, and with the drafts the next one.
  pub record IsFolding (good : ℕ → V → Type 0) (joined : ℕ → V → V → V) (setting : ℕ) (at : Standing) (draft : Option Standing) (levels : List (Level J V M)) (drafts : List (Draft J V M)) : Type 0 where
    pub deep : at.height < length levels
    pub now : IsTree good joined setting at (rows_of levels)
    pub next : IsDraft good joined setting draft levels drafts

  -- The shape of a tree.
  abbrev pub shape_of : ℕ → Row J V M → Shape
  shape_of height leaves = record { height = height; low = leaves.low; high = leaves.low + length leaves.parts }

  -- The draft is the tree with what a shift brings: the first of the sheets at the changed places, the rest after the
  -- others.
  pub record IsAdvanced (good : ℕ → V → Type 0) (joined : ℕ → V → V → V) (setting : ℕ) (at : Standing) (first gone : ℕ) (changed : List ℕ) (came : ℕ) (news : List (SheetOf V)) (olds levels : List (Level J V M)) (drafts : List (Draft J V M)) (next : Standing) : Type 0 where
    pub first_is : next.first ≡ first
    pub draft : IsNext good joined setting next levels drafts
    pub leaves_are : sheets_of (rows_after levels drafts 0).parts ≡ put_at changed news (drop gone (sheets_of (rows_of olds 0).parts)) ++ drop (length changed) news
    pub shape_is : shape_of next.height (rows_after levels drafts 0) ≡ with_fresh came (without gone (shape_of at.height (rows_of olds 0)))

  -- The leaves of a tree.
  abbrev pub leaves_of : Standing → (ℕ → Row J V M) → Leaves V
  leaves_of at rows = record { first = at.first; tables = tables_of (sheets_of (rows 0).parts); loose = rows_loose (suc at.height) rows; shape = shape_of at.height (rows 0) }

  -- The leaves of a draft.
  abbrev pub draft_of : Option Standing → List (Level J V M) → List (Draft J V M) → Option (Leaves V)
  draft_of None levels drafts = None
  draft_of (Some at) levels drafts = Some (leaves_of at (rows_after levels drafts))

  module _ (digest_of : PairOf V → List ℕ) where
    -- The pins of the levels.
    abbrev pub levels_pins : List (Level J V M) → List PinName
    levels_pins [] = []
    levels_pins (level ∷ levels) = parts_pins digest_of level.nodes.items ++ levels_pins levels

    -- The pins of a draft.
    abbrev pub draft_pins : Draft J V M → List PinName
    draft_pins draft = parts_pins digest_of draft.changed.items ++ parts_pins digest_of draft.fresh.items

    -- The pins of the drafts.
    abbrev pub drafts_pins : List (Draft J V M) → List PinName
    drafts_pins [] = []
    drafts_pins (draft ∷ drafts) = draft_pins draft ++ drafts_pins drafts

    -- The model of a tree.
    abbrev pub seen_of : ℕ → ℕ → Standing → Option Standing → List (Level J V M) → List (Draft J V M) → Seen V
    seen_of setting places at draft levels drafts = record {
      tree = record { setting = setting; places = places; leaves = leaves_of at (rows_of levels); draft = draft_of draft levels drafts };
      pins = levels_pins levels ++ drafts_pins drafts;
    }

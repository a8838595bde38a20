-- The levels of a folding tree: rows of nodes, each over two halves of the row below.
use Rattle.std.specs.Prelude.{◌≡◌, ℕ, zero, suc, ◌+◌, ◌-◌, ◌*◌, ◌/◌, ◌%◌, ◌^◌, ◌<◌, ◌≤◌, ◌⊎◌, nat_lt, cond, Bool, false, ◌||◌, List, [], ◌∷◌, ◌++◌, map, take, drop, length, slice_get, slice_index, All, Option, Some, None, option_map}
use Rattle.std.specs.List.{AllZip, Contains}
use Rattle.std.specs.List.Sorted.{IsStrictlyIncreasing}
use Rattle.sheets.specs.Sheets.{SheetOf}
use Rattle.record_text.specs.Shifts.{put_at}
use Rattle.pin_table.specs.Covers.{PinName}
use Rattle.tree_laws.specs.Pairs.{PairOf, pair_of, merge_of}
use Rattle.tree_laws.specs.Holds.{sheet_of, is_loose, hold_pins}
use Rattle.folding_tree.specs.declared.part.Part.{Part}
use Rattle.folding_tree.specs.declared.part.Part.TheVariants.{Shared, Merged}

-- How many merges a node over two halves takes.
abbrev pub merges_by : {V : Type 0} → Option (SheetOf V) → Option (SheetOf V) → ℕ
merges_by None b = 0
merges_by (Some a) None = 0
merges_by (Some a) (Some b) = 1

module _ {J V M : Type 0} where
  -- The sheet of a part.
  abbrev pub part_sheet : Part J V M → SheetOf V
  part_sheet (Shared s) = s
  part_sheet (Merged h) = sheet_of h

  -- A part with a merge that the memo did not take.
  abbrev pub part_loose : Part J V M → Bool
  part_loose (Shared s) = false
  part_loose (Merged h) = is_loose h

  -- A part without a merge, as a place has.
  abbrev pub IsPlain : Part J V M → Type 0
  IsPlain (Shared s) = Unit {0}
  IsPlain (Merged h) = ⊥

  -- A part that holds the merge of the sheets.
  abbrev pub IsMerged : (ℕ → V → V → V) → SheetOf V → SheetOf V → Part J V M → Type 0
  IsMerged joined a b (Shared s) = ⊥
  IsMerged joined a b (Merged h) = sheet_of h ≡ merge_of joined (pair_of a b)

  -- The node over two halves: their merge, a share of the only one, or nothing.
  abbrev pub IsMade : (ℕ → V → V → V) → Option (SheetOf V) → Option (SheetOf V) → Option (Part J V M) → Type 0
  IsMade joined None None made = made ≡ None
  IsMade joined None (Some b) made = made ≡ Some (Shared b)
  IsMade joined (Some a) None made = made ≡ Some (Shared a)
  IsMade joined (Some a) (Some b) None = ⊥
  IsMade joined (Some a) (Some b) (Some part) = IsMerged joined a b part

  -- Whether a part of a list is loose.
  abbrev pub parts_loose : List (Part J V M) → Bool
  parts_loose [] = false
  parts_loose (p ∷ ps) = part_loose p || parts_loose ps

  -- The sheets of parts.
  abbrev pub sheets_of : List (Part J V M) → List (SheetOf V)
  sheets_of parts = map part_sheet parts

  module _ (digest_of : PairOf V → List ℕ) where
    -- The pins of a part.
    abbrev pub part_pins : Part J V M → List PinName
    part_pins (Shared s) = []
    part_pins (Merged h) = hold_pins digest_of h

    -- The pins of the parts of a list.
    abbrev pub parts_pins : List (Part J V M) → List PinName
    parts_pins [] = []
    parts_pins (p ∷ ps) = part_pins p ++ parts_pins ps

-- How many of the places are beyond this one.
abbrev pub beyond : ℕ → List ℕ → ℕ
beyond low [] = 0
beyond low (place ∷ places) = cond (nat_lt low place) 1 0 + beyond low places

-- A number of places, from this one on.
abbrev pub places_from : ℕ → ℕ → List ℕ
places_from low zero = []
places_from low (suc n) = places_from low n ++ (low + n) ∷ []

-- A list is empty, or ends in another number than this one.
abbrev pub EndsElsewhere : List ℕ → ℕ → Type 0
EndsElsewhere places place = 0 < length places → slice_index places (length places - 1) ≡ place → ⊥

-- The place is at the end of a list of places before `mid`, once.
abbrev pub IsAdded : ℕ → ℕ → List ℕ → List ℕ → Type 0
IsAdded mid place old new = (mid ≤ place) × (new ≡ old) ⊎ ((0 < length old) × (slice_index old (length old - 1) ≡ place) × (new ≡ old) ⊎ (place < mid) × EndsElsewhere old place × (new ≡ old ++ place ∷ []))

-- The nodes of a level, of which the first one is at the place `low` of this level.
pub record Row (J V M : Type 0) : Type 0 where
  pub low : ℕ
  pub parts : List (Part J V M)

-- What a row becomes: `mid - low` of its nodes stay, from the place `from` on, and are then at the places from `low` to
-- `mid - 1`, except those at `places`, which become the `changed` ones. After them come the fresh ones, up to the place
-- `high - 1`.
pub record Ahead (J V M : Type 0) : Type 0 where
  pub from : ℕ
  pub low : ℕ
  pub mid : ℕ
  pub high : ℕ
  pub places : List ℕ
  pub changed : List (Part J V M)
  pub fresh : List (Part J V M)

module _ {J V M : Type 0} where
  -- No nodes.
  abbrev pub no_row : Row J V M
  no_row = record { low = 0; parts = [] }

  -- Nothing is left of a row: none of its nodes stays.
  abbrev pub no_ahead : Ahead J V M
  no_ahead = record { from = 0; low = 0; mid = 0; high = 0; places = []; changed = []; fresh = [] }

  -- The node at a place of the level, if there is one.
  abbrev pub part_at : Row J V M → ℕ → Option (Part J V M)
  part_at row place = cond (nat_lt place row.low) None (slice_get row.parts (place - row.low))

  -- The sheet at a place of the level, if there is one.
  abbrev pub sheet_at : Row J V M → ℕ → Option (SheetOf V)
  sheet_at row place = option_map part_sheet (part_at row place)

  -- Each node of the upper row is the one over its two halves in the lower row.
  pub record IsOver (joined : ℕ → V → V → V) (below above : Row J V M) : Type 0 where
    pub low : above.low ≡ below.low / 2
    pub made : (place : ℕ) → IsMade joined (sheet_at below (2 * place)) (sheet_at below (2 * place + 1)) (part_at above place)

  -- The parts are those over the halves at these places.
  abbrev pub AreMade : (ℕ → V → V → V) → Row J V M → List ℕ → List (Part J V M) → Type 0
  AreMade joined below places parts = AllZip (λ place part. IsMade joined (sheet_at below (2 * place)) (sheet_at below (2 * place + 1)) (Some part)) places parts

  -- How many merges they take.
  abbrev pub merges_over : Row J V M → List ℕ → ℕ
  merges_over below [] = 0
  merges_over below (place ∷ places) = merges_by (sheet_at below (2 * place)) (sheet_at below (2 * place + 1)) + merges_over below places

  -- Each sheet of the row has the property.
  abbrev pub EachSheet : (SheetOf V → Type 0) → Row J V M → Type 0
  EachSheet P row = (place : ℕ) (s : SheetOf V) → sheet_at row place ≡ Some s → P s

  -- The nodes after it, from the place `low` on.
  abbrev pub parts_after : Row J V M → Ahead J V M → List (Part J V M)
  parts_after row ahead = put_at (map (λ place. place - ahead.low) ahead.places) ahead.changed (take (ahead.mid - ahead.low) (drop (ahead.from - row.low) row.parts)) ++ ahead.fresh

  -- The row after it.
  abbrev pub row_after : Row J V M → Ahead J V M → Row J V M
  row_after row ahead = record { low = ahead.low; parts = parts_after row ahead }

  -- The row can become so.
  pub record IsFit (row : Row J V M) (ahead : Ahead J V M) : Type 0 where
    pub kept : ahead.low ≤ ahead.mid
    pub fresh : ahead.mid + length ahead.fresh ≡ ahead.high
    pub enough : ahead.mid - ahead.low ≤ length row.parts - (ahead.from - row.low)
    pub within : All (λ place. (ahead.low ≤ place) × (place < ahead.mid)) ahead.places
    pub rising : IsStrictlyIncreasing ahead.places
    pub changed : length ahead.changed ≡ length ahead.places

  -- The node at this place of the level above has a half.
  abbrev pub HasHalf : Ahead J V M → ℕ → Type 0
  HasHalf ahead place = (ahead.low ≤ 2 * place + 1) × (2 * place < ahead.high) × (ahead.low < ahead.high)

  -- The place of the first node, if it stays and its left half leaves.
  abbrev pub IsFirst : Row J V M → Ahead J V M → ℕ → List ℕ → Type 0
  IsFirst row ahead mid places = ((row.low < ahead.from → ahead.low % 2 ≡ 1 → ahead.low / 2 < mid → ⊥) × (places ≡ [])) ⊎ ((row.low < ahead.from) × (ahead.low % 2 ≡ 1) × (ahead.low / 2 < mid) × (places ≡ ahead.low / 2 ∷ []))

  -- The places of those nodes, among the ones that stay, that are made again: over each changed place, and the first
  -- one if its left half leaves. Beyond the first one there are no more than below.
  pub record AreParents (row : Row J V M) (ahead : Ahead J V M) (mid : ℕ) (places : List ℕ) : Type 0 where
    pub within : All (λ place. (ahead.low / 2 ≤ place) × (place < mid)) places
    pub rising : IsStrictlyIncreasing places
    pub first : row.low < ahead.from → ahead.low % 2 ≡ 1 → ahead.low / 2 < mid → Contains places (ahead.low / 2)
    pub over : All (λ place. place / 2 < mid → Contains places (place / 2)) ahead.places
    pub few : beyond (ahead.low / 2) places ≤ beyond ahead.low ahead.places

  -- What a row becomes over one that becomes this: it keeps the nodes that are over old nodes only, and all others are
  -- made again.
  pub record IsRaised (joined : ℕ → V → V → V) (row : Row J V M) (ahead above : Ahead J V M) : Type 0 where
    pub from : above.from ≡ ahead.from / 2
    pub low : above.low ≡ ahead.low / 2
    pub high : above.high ≡ (ahead.high + 1) / 2
    pub mid : (ahead.mid < ahead.high) × (above.mid ≡ ahead.mid / 2) ⊎ (ahead.mid ≡ ahead.high) × (above.mid ≡ above.high)
    pub parents : AreParents row ahead above.mid above.places
    pub changed : AreMade joined (row_after row ahead) above.places above.changed
    pub fresh : AreMade joined (row_after row ahead) (places_from above.mid (above.high - above.mid)) above.fresh

  -- Whether a node of the first rows is loose.
  abbrev pub rows_loose : ℕ → (ℕ → Row J V M) → Bool
  rows_loose zero rows = false
  rows_loose (suc k) rows = rows_loose k rows || parts_loose (rows k).parts

  -- The rows over the leaves, up to the height: each row is over the one below, places have no merges, and no row is
  -- over the last one.
  pub record IsTower (joined : ℕ → V → V → V) (height : ℕ) (rows : ℕ → Row J V M) : Type 0 where
    pub over : (k : ℕ) → k < height → IsOver joined (rows k) (rows (suc k))
    pub above : (k : ℕ) → height < k → (rows k).parts ≡ []
    pub plain : All IsPlain (rows 0).parts
    pub fits : (rows 0).low + length (rows 0).parts ≤ 2 ^ height

  -- A row and what it becomes fit each other, on a level of a tree that is folded to a height: what stays is there, and
  -- moves by a number of places that is even except on the last of these levels; if nothing comes after it, it is all
  -- that is there. A row without nodes begins at the place 0.
  pub record IsAligned (height k : ℕ) (row : Row J V M) (ahead : Ahead J V M) : Type 0 where
    pub fit : IsFit row ahead
    pub stays : ahead.low < ahead.mid → (row.low ≤ ahead.from) × (ahead.from + (ahead.mid - ahead.low) ≤ row.low + length row.parts) × ((j : ℕ) × (ahead.from ≡ ahead.low + j * 2 ^ (height - k)))
    pub last : ahead.low < ahead.mid → ahead.mid ≡ ahead.high → ahead.from + (ahead.mid - ahead.low) ≡ row.low + length row.parts
    pub small : ahead.mid ≤ 2 ^ (height - k)
    pub none : ahead.low ≡ ahead.high → ahead.low ≡ 0

  -- Over the leaves and what they become the tree can be built up to a height: it is folded to a height that is no
  -- greater, and if it grows, leaves come.
  pub record IsBegun (joined : ℕ → V → V → V) (height : ℕ) (rows : ℕ → Row J V M) (leaves : Ahead J V M) : Type 0 where
    pub folded : ℕ
    pub lower : folded ≤ height
    pub over : (k : ℕ) → k < folded → IsOver joined (rows k) (rows (suc k))
    pub aligned : IsAligned folded 0 (rows 0) leaves
    pub grows : (folded ≡ height) ⊎ (leaves.mid < leaves.high)

  -- Whether what comes is loose.
  abbrev pub ahead_loose : Ahead J V M → Bool
  ahead_loose ahead = parts_loose ahead.changed || parts_loose ahead.fresh

-- The parts of a random tree: levels of groups, each with a draft.
use Rattle.std.specs.Prelude.{◌≡◌, ℕ, ◌+◌, ◌-◌, ◌≤◌, ◌<◌, Bool, true, false, cond, List, [], ◌∷◌, ◌++◌, length, map, take, drop, vec_capacity, All, Option, Some, None}
use Rattle.std.specs.List.{flat_map, list_any}
use Rattle.definitions.specs.Tables.{IsRising, HasGoodValues, merged}
use Rattle.sheets.specs.Sheets.{SheetOf}
use Rattle.record_text.specs.declared.shift.Shift.{Shift}
use Rattle.record_text.specs.declared.shift.Shift.TheVariants.{Slide, Splice}
use Rattle.pin_table.specs.Covers.{PinName}
use Rattle.tree_laws.specs.Pairs.{PairOf, merge_of}
use Rattle.tree_laws.specs.Holds.{sheet_of, is_loose, all_pins}
use Rattle.tree_laws.specs.Trees.{Leaves, no_shape, IsWithin, Seen}
use Rattle.tree_laws.specs.declared.hold.Hold.{Hold}
use Rattle.tree_laws.specs.declared.hold.Hold.TheVariants.{Pinned, Loose}
use Rattle.random_tree.specs.declared.boundary.Boundary.{Boundary}
use Rattle.random_tree.specs.declared.group.Group.{Group}
use Rattle.random_tree.specs.declared.level.Level.{Level}
use Rattle.random_tree.specs.Groups.{Members, alone, groups_of, whole, Ends}
use Rattle.random_tree.specs.Inputs.{pair_at, is_marked}

-- How many leaves there are after a shift of a number of leaves.
abbrev pub count_after : Shift → ℕ → ℕ
count_after (Slide first gone places fresh) n = (n + fresh) - gone
count_after (Splice first gone fresh) n = (n + fresh) - gone

module _ {V : Type 0} where
  -- A sheet of the setting.
  abbrev pub sheet_at : ℕ → List (List ℕ × V) → SheetOf V
  sheet_at setting t = record { setting = setting; entries = t }

  -- The table's keys rise, and are in these tables.
  abbrev pub IsTableOf : List (List (List ℕ × V)) → List (List ℕ × V) → Type 0
  IsTableOf all t = IsRising t × IsWithin t all

  -- The table of a leaf: its values are good, and its keys rise.
  abbrev pub IsLeafTable : (V → Type 0) → List (List ℕ × V) → Type 0
  IsLeafTable good t = HasGoodValues good t × IsRising t

  -- The groups that are over those of a level.
  abbrev pub groups_above : (ℕ → V → V → V) → ℕ → (V → List ℕ) → List (Members (List (List ℕ × V))) → List (Members (List (List ℕ × V)))
  groups_above joined setting encoded mss = groups_of (is_marked encoded) (map (whole (merged (joined setting))) mss)

module _ {J V M : Type 0} where
  -- The sheet of the last of these merges, which follow the first sheet.
  abbrev pub last_sheet : SheetOf V → List (Hold J V M) → SheetOf V
  last_sheet s [] = s
  last_sheet s (h ∷ hs) = last_sheet (sheet_of h) hs

  -- The sheet of a group: of its last merge, and if it has none, of its only member.
  abbrev pub group_sheet : Group J V M → SheetOf V
  group_sheet g = last_sheet g.first g.holds.items

  -- The table of a group.
  abbrev pub group_table : Group J V M → List (List ℕ × V)
  group_table g = (group_sheet g).entries

  -- How many members a group has.
  abbrev pub count_of : Group J V M → ℕ
  count_of g = length g.holds.items + 1

  -- How many members the groups have.
  abbrev pub span : List (Group J V M) → ℕ
  span [] = 0
  span (g ∷ gs) = count_of g + span gs

  -- Whether one of the merges is one that the memo did not take.
  abbrev pub group_loose : Group J V M → Bool
  group_loose g = list_any is_loose g.holds.items

  -- The same for groups.
  abbrev pub groups_loose : List (Group J V M) → Bool
  groups_loose gs = list_any group_loose gs

  -- The boundary is before the group that it names, and has this number of members before it.
  abbrev pub IsBoundary : List (Group J V M) → Boundary → Type 0
  IsBoundary gs at = (at.groups ≤ length gs) × (at.members ≡ span (take at.groups gs))

  -- The present groups.
  abbrev pub now_of : Level J V M → List (Group J V M)
  now_of l = l.groups.items

  -- The groups that a draft brings.
  abbrev pub fresh_of : Level J V M → List (Group J V M)
  fresh_of l = l.draft.fresh.items

  -- The groups once the draft is settled.
  abbrev pub taken : Level J V M → List (Group J V M)
  taken l = take l.draft.first l.groups.items ++ (l.draft.fresh.items ++ drop (l.draft.first + l.draft.gone) l.groups.items)

  -- The draft changes nothing.
  abbrev pub IsUndrafted : Level J V M → Type 0
  IsUndrafted l = (l.draft.first ≡ 0) × (l.draft.gone ≡ 0) × (l.draft.fresh.items ≡ [])

  -- The groups that a draft removes are there.
  abbrev pub Fits : Level J V M → Type 0
  Fits l = l.draft.first + l.draft.gone ≤ length l.groups.items

  -- There is room for the groups that a draft brings.
  abbrev pub HasRoom : Level J V M → Type 0
  HasRoom l = length l.groups.items + length l.draft.fresh.items ≤ vec_capacity l.groups

  -- The groups of the lowest level.
  abbrev pub bottom : List (List (Group J V M)) → List (Group J V M)
  bottom [] = []
  bottom (gs ∷ levels) = gs

  -- The sheet of each group is of the setting.
  abbrev pub AreSet : ℕ → List (Group J V M) → Type 0
  AreSet setting gs = All (λ g. (group_sheet g).setting ≡ setting) gs

  -- The pin's entry has this pair as its input.
  abbrev pub IsKept : PairOf V → Hold J V M → Type 0
  IsKept pair (Pinned p) = p.input ≡ pair
  IsKept pair (Loose s) = Unit {0}

  module _ (joined : ℕ → V → V → V) (setting : ℕ) where
    -- The holds are on the merges of a table with those after it, from left to right.
    abbrev pub AreMerges : List (List ℕ × V) → List (List (List ℕ × V)) → List (Hold J V M) → Type 0
    AreMerges t [] [] = Unit {0}
    AreMerges t [] (h ∷ hs) = ⊥
    AreMerges t (u ∷ us) [] = ⊥
    AreMerges t (u ∷ us) (h ∷ hs) = (sheet_of h ≡ merge_of joined (pair_at setting t u)) × IsKept (pair_at setting t u) h × AreMerges (merged (joined setting) t u) us hs

    module _ (encoded : V → List ℕ) where
      -- The group is over these members: it has their merges, and knows whether it ends by itself.
      pub record IsOver (ms : Members (List (List ℕ × V))) (g : Group J V M) : Type 0 where
        pub first_is : g.first ≡ sheet_at setting ms.first
        pub holds_are : AreMerges ms.first ms.others g.holds.items
        pub ended_is : g.ended ≡ true → Ends (is_marked encoded) ms

      -- The same for each group of a level.
      abbrev pub AreOver : List (Members (List (List ℕ × V))) → List (Group J V M) → Type 0
      AreOver [] [] = Unit {0}
      AreOver [] (g ∷ gs) = ⊥
      AreOver (ms ∷ mss) [] = ⊥
      AreOver (ms ∷ mss) (g ∷ gs) = IsOver ms g × AreOver mss gs

      -- The levels are the groups over these members, those over their merges, and so on until no group is left to
      -- make.
      abbrev pub AreLevels : List (Members (List (List ℕ × V))) → List (List (Group J V M)) → Type 0
      AreLevels mss [] = mss ≡ []
      AreLevels mss (gs ∷ levels) = AreOver mss gs × AreLevels (groups_above joined setting encoded mss) levels

      -- The levels of the tree over these tables.
      abbrev pub IsTree : List (List (List ℕ × V)) → List (List (Group J V M)) → Type 0
      IsTree ts levels = AreLevels (map alone ts) levels

  -- Leaves under these levels.
  abbrev pub leaves_of : List (List (Group J V M)) → Leaves V
  leaves_of levels = record { first = 0; tables = map group_table (bottom levels); loose = list_any groups_loose levels; shape = no_shape }

  -- The leaves of a draft.
  abbrev pub draft_of : Bool → List (Level J V M) → Option (Leaves V)
  draft_of drafted levels = cond drafted (Some (leaves_of (map taken levels))) None

  -- The levels are a tree over the leaves, and with the draft too, if there is one.
  pub record IsSound (good : ℕ → V → Type 0) (joined : ℕ → V → V → V) (encoded : V → List ℕ) (setting : ℕ) (levels : List (Level J V M)) (drafted : Bool) : Type 0 where
    pub some : 0 < length levels
    pub fits : All Fits levels
    pub now : IsTree joined setting encoded (map group_table (bottom (map now_of levels))) (map now_of levels)
    pub leaves_are : All (IsLeafTable (good setting)) (map group_table (bottom (map now_of levels)))
    pub undrafted : drafted ≡ false → All IsUndrafted levels
    pub next : drafted ≡ true → IsTree joined setting encoded (map group_table (bottom (map taken levels))) (map taken levels)
    pub next_leaves_are : drafted ≡ true → All (IsLeafTable (good setting)) (map group_table (bottom (map taken levels)))
    pub room : drafted ≡ true → All HasRoom levels

  module _ (digest_of : PairOf V → List ℕ) where
    -- The pins of groups, in order.
    abbrev pub groups_pins : List (Group J V M) → List PinName
    groups_pins gs = flat_map (λ g. all_pins digest_of g.holds.items) gs

    -- The pins of a level and of its draft.
    abbrev pub level_pins : Level J V M → List PinName
    level_pins l = groups_pins (now_of l) ++ groups_pins (fresh_of l)

    -- Level by level.
    abbrev pub levels_pins : List (Level J V M) → List PinName
    levels_pins levels = flat_map level_pins levels

    -- Only the pins of drafts.
    abbrev pub drafts_pins : List (Level J V M) → List PinName
    drafts_pins levels = flat_map (λ l. groups_pins (fresh_of l)) levels

    -- Only the pins of the present groups.
    abbrev pub stands_pins : List (List (Group J V M)) → List PinName
    stands_pins levels = flat_map groups_pins levels

    -- The model of a tree.
    abbrev pub seen_of : ℕ → ℕ → List (Level J V M) → Bool → Seen V
    seen_of setting places levels drafted = record {
      tree = record { setting = setting; places = places; leaves = leaves_of (map now_of levels); draft = draft_of drafted levels };
      pins = stands_pins (map now_of levels) ++ drafts_pins levels;
    }

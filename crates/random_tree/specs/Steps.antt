-- What the steps of an advance leave: whole or begun drafts, new pins of the caller, and what they cost.
use Rattle.std.specs.Prelude.{◌≡◌, ◌⊎◌, ℕ, ◌≤◌, ◌<◌, true, false, List, [], ◌∷◌, ◌++◌, length, map, take, drop, All, None, Option}
use Rattle.std.specs.List.{list_any}
use Rattle.definitions.specs.Tables.{merged}
use Rattle.job_laws.specs.declared.meter.Counts.{Counts}
use Rattle.sheets.specs.Sheets.{SheetOf}
use Rattle.sheets.specs.United.{tables_of}
use Rattle.record_text.specs.declared.shift.Shift.{Shift}
use Rattle.record_text.specs.Shifts.{shifted}
use Rattle.pin_table.specs.Views.{CallerView}
use Rattle.pin_table.specs.OwnEvents.{Met}
use Rattle.tree_laws.specs.Trades.{Gets}
use Rattle.tree_laws.specs.Pairs.{PairOf}
use Rattle.tree_laws.specs.Trees.{distinct_keys, IsMergeOver, IsLeaf}
use Rattle.random_tree.specs.declared.boundary.Boundary.{Boundary}
use Rattle.random_tree.specs.declared.group.Group.{Group}
use Rattle.random_tree.specs.declared.level.Level.{Level}
use Rattle.random_tree.specs.Groups.{Members, groups_on, groups_of, whole, group_inputs, level_inputs, inputs_by}
use Rattle.random_tree.specs.Inputs.{is_marked, input_of, tree_inputs}
use Rattle.random_tree.specs.Levels.{IsTableOf, IsLeafTable, IsOver, AreOver, AreLevels, IsTree, IsUndrafted, groups_loose, group_table, count_of, span, bottom, now_of, fresh_of, taken, groups_pins, drafts_pins}
use Rattle.random_tree.specs.Payments.{Merged, MergedSome}

module _ {V : Type 0} where
  -- What it cost to merge these inputs.
  abbrev pub Costs : List (List (List ℕ × V)) → CallerView → CallerView → Counts → Counts → List (List ℕ) → Type 0
  Costs ts u v x y ds = (all : List (List (List ℕ × V))) → All (IsTableOf all) ts → Merged (distinct_keys all) u v x y ds

  -- What it cost to merge some of them.
  abbrev pub CostsSome : List (List (List ℕ × V)) → CallerView → CallerView → Counts → Counts → List (List ℕ) → Type 0
  CostsSome ts u v x y ds = (all : List (List (List ℕ × V))) → All (IsTableOf all) ts → MergedSome (distinct_keys all) u v x y ds

  -- The groups from a boundary on.
  abbrev pub groups_from : (V → List ℕ) → List (List (List ℕ × V)) → List (Members (List (List ℕ × V)))
  groups_from encoded ts = groups_on (is_marked encoded) None ts

  module _ (joined : ℕ → V → V → V) (setting : ℕ) (encoded : V → List ℕ) where
    -- The inputs of a group.
    abbrev pub inputs_at : Members (List (List ℕ × V)) → List (List ℕ)
    inputs_at ms = group_inputs (merged (joined setting)) (input_of encoded setting) ms

    -- The inputs of groups.
    abbrev pub inputs_in : List (Members (List (List ℕ × V))) → List (List ℕ)
    inputs_in mss = level_inputs (merged (joined setting)) (input_of encoded setting) mss

    -- Some merges of the groups over these members.
    abbrev pub MergesSomeOf : List (List (List ℕ × V)) → CallerView → CallerView → Counts → Counts → Type 0
    MergesSomeOf ts u v x y = CostsSome ts u v x y (inputs_in (groups_from encoded ts))

    -- Some merges of the groups over these members from a boundary on.
    abbrev pub FillsSome : List (List (List ℕ × V)) → ℕ → CallerView → CallerView → Counts → Counts → Type 0
    FillsSome ts kept u v x y = CostsSome ts u v x y (inputs_in (groups_from encoded (drop kept ts)))

    -- Some merges of the level over these members.
    abbrev pub RegroupsSome : List (List (List ℕ × V)) → CallerView → CallerView → Counts → Counts → Type 0
    RegroupsSome ts u v x y = CostsSome ts u v x y (inputs_in (groups_of (is_marked encoded) ts))

    -- The inputs of a number of levels over these members.
    abbrev pub inputs_up : ℕ → List (List (List ℕ × V)) → List (List ℕ)
    inputs_up k ts = inputs_by (is_marked encoded) (merged (joined setting)) (input_of encoded setting) k ts

    -- Some merges of a number of levels over these members.
    abbrev pub RaisesSome : List (List (List ℕ × V)) → ℕ → CallerView → CallerView → Counts → Counts → Type 0
    RaisesSome ts k u v x y = CostsSome ts u v x y (inputs_up k ts)

module _ {J V M : Type 0} where
  -- Each of the groups is the leaf of its sheet.
  abbrev pub AreLeaves : List (SheetOf V) → List (Group J V M) → Type 0
  AreLeaves [] [] = Unit {0}
  AreLeaves [] (g ∷ gs) = ⊥
  AreLeaves (s ∷ ss) [] = ⊥
  AreLeaves (s ∷ ss) (g ∷ gs) = (g.first ≡ s) × (g.holds.items ≡ []) × (g.ended ≡ false) × AreLeaves ss gs

  -- The level's draft is a splice of these leaves.
  abbrev pub StagesLeaves : ℕ → ℕ → List (SheetOf V) → Level J V M → Type 0
  StagesLeaves first gone news l = (l.draft.first ≡ first) × (l.draft.gone ≡ gone) × AreLeaves news (fresh_of l)

  -- No group of the draft has a merge.
  abbrev pub IsPlain : Level J V M → Type 0
  IsPlain l = All (λ g. g.holds.items ≡ []) (fresh_of l)

  -- Some more levels, without groups.
  abbrev pub AddsEmpty : List (List (Group J V M)) → List (List (Group J V M)) → Type 0
  AddsEmpty old new = (more : List (List (Group J V M))) × (new ≡ old ++ more) × All (λ gs. gs ≡ []) more

  -- Some more levels, without groups and drafts.
  abbrev pub AddsLevels : List (Level J V M) → List (Level J V M) → Type 0
  AddsLevels old new = (more : List (Level J V M)) × (new ≡ old ++ more) × All (λ l. (now_of l ≡ []) × IsUndrafted l) more

  module _ (digest_of : PairOf V → List ℕ) where
    -- Some more groups, whose pins the caller got. One of them is loose only if the caller met what makes a merge
    -- loose.
    pub record GainsGroups (u v : CallerView) (old new : List (Group J V M)) : Type 0 where
      pub more : List (Group J V M)
      pub is : new ≡ old ++ more
      pub gets : Gets u (groups_pins digest_of more) v
      pub loose : groups_loose more ≡ true → Met u v

    -- The same for the drafts of levels.
    pub record GainsLevels (u v : CallerView) (levels : List (Level J V M)) : Type 0 where
      pub gets : Gets u (drafts_pins digest_of levels) v
      pub loose : list_any (λ l. groups_loose (fresh_of l)) levels ≡ true → Met u v

  -- The tables of the leaves after a splice.
  abbrev pub leaves_then : Shift → List (SheetOf V) → List (Level J V M) → List (List (List ℕ × V))
  leaves_then shift news old = shifted shift (tables_of news) (map group_table (bottom (map now_of old)))

  -- Either no member is left and no old group stays, or the old groups stay from a boundary on, after which the members
  -- are the old ones.
  abbrev pub Meets : Level J V M → List (Group J V M) → ℕ → List (List (List ℕ × V)) → Type 0
  Meets below old until rest = ((rest ≡ []) × (until ≡ length old)) ⊎ ((until < length old) × (rest ≡ map group_table (drop (span (take until old)) (now_of below))))

  module _ (joined : ℕ → V → V → V) (setting : ℕ) (encoded : V → List ℕ) where
    -- A group over the first of these members, as many as it takes, and what it cost.
    pub record IsGrown (ts : List (List (List ℕ × V))) (u v : CallerView) (x y : Counts) (g : Group J V M) : Type 0 where
      pub members : Members (List (List ℕ × V))
      pub over : IsOver joined setting encoded members g
      pub rest : groups_from encoded ts ≡ members ∷ groups_from encoded (drop (count_of g) ts)
      pub cost : Costs ts u v x y (inputs_at joined setting encoded members)

    -- One such group more, with the number of its members.
    pub record AddsGroup (ts : List (List (List ℕ × V))) (u v : CallerView) (x y : Counts) (count : ℕ) (old new : List (Group J V M)) : Type 0 where
      pub group : Group J V M
      pub is : new ≡ old ++ group ∷ []
      pub count_is : count ≡ count_of group
      pub grown : IsGrown ts u v x y group

    -- Groups over the members from a boundary on, up to where the old groups stay, and what they cost.
    pub record Fills (below : Level J V M) (old : List (Group J V M)) (kept : Boundary) (until : ℕ) (u v : CallerView) (x y : Counts) (fresh : List (Group J V M)) : Type 0 where
      pub members : List (Members (List (List ℕ × V)))
      pub left : List (List (List ℕ × V))
      pub over : AreOver joined setting encoded members fresh
      pub rest : groups_from encoded (drop kept.members (map group_table (taken below))) ≡ members ++ groups_from encoded left
      pub later : kept.groups ≤ until
      pub meets : Meets below old until left
      pub cost : Costs (map group_table (taken below)) u v x y (inputs_in joined setting encoded members)

    -- The groups over these members, and what they cost.
    abbrev pub Regroups : List (List (List ℕ × V)) → CallerView → CallerView → Counts → Counts → List (Group J V M) → Type 0
    Regroups ts u v x y gs = AreOver joined setting encoded (groups_of (is_marked encoded) ts) gs × Costs ts u v x y (inputs_in joined setting encoded (groups_of (is_marked encoded) ts))

    -- The levels over these members, and what they cost.
    abbrev pub Raises : List (List (List ℕ × V)) → CallerView → CallerView → Counts → Counts → List (List (Group J V M)) → Type 0
    Raises ts u v x y levels = AreLevels joined setting encoded (groups_of (is_marked encoded) ts) levels × Costs ts u v x y (inputs_up joined setting encoded (length levels) ts)

    -- The drafts are the tree over the leaves after the shift, and what it cost.
    pub record Drafts (shift : Shift) (news : List (SheetOf V)) (u v : CallerView) (x y : Counts) (old new : List (Level J V M)) : Type 0 where
      pub leaves : map group_table (bottom (map taken new)) ≡ leaves_then shift news old
      pub tree : IsTree joined setting encoded (leaves_then shift news old) (map taken new)
      pub cost : Costs (leaves_then shift news old) u v x y (tree_inputs encoded joined setting (leaves_then shift news old))

    -- Some merges of that tree.
    abbrev pub TreeSome : Shift → List (SheetOf V) → CallerView → CallerView → Counts → Counts → List (Level J V M) → Type 0
    TreeSome shift news u v x y old = CostsSome (leaves_then shift news old) u v x y (tree_inputs encoded joined setting (leaves_then shift news old))

    -- Nothing was merged, or some merges of that tree over leaves.
    abbrev pub DraftsSome : (ℕ → V → Type 0) → Shift → List (SheetOf V) → CallerView → CallerView → Counts → Counts → List (Level J V M) → Type 0
    DraftsSome good shift news u v x y old = (y ≡ x) ⊎ (All (IsLeaf good setting) news × TreeSome shift news u v x y old)

  -- A leaf more, of this sheet.
  pub record AddsLeaf (s : SheetOf V) (old new : List (Group J V M)) : Type 0 where
    pub group : Group J V M
    pub is : new ≡ old ++ group ∷ []
    pub first : group.first ≡ s
    pub none : group.holds.items ≡ []
    pub ended : group.ended ≡ false

  -- The sheet is the root over the lowest of these levels, whatever members they are over.
  abbrev pub IsRootOf : (ℕ → V → Type 0) → (ℕ → V → V → V) → (V → List ℕ) → List (List (Group J V M)) → Option (SheetOf V) → Type 0
  IsRootOf good joined encoded levels root = (setting : ℕ) (mss : List (Members (List (List ℕ × V)))) → AreLevels joined setting encoded mss levels → All (IsLeafTable (good setting)) (map (whole (merged (joined setting))) mss) → IsMergeOver joined setting (map (whole (merged (joined setting))) mss) root

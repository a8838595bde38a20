-- A full tree of places, where each node has a draft apart from its part.
use Rattle.std.specs.Prelude.{◌≡◌, ℕ, ◌+◌, ◌<◌, ◌||◌, List, [], ◌∷◌, ◌++◌, Option, Some, None, IfSome, Bool, true, false}
use Rattle.std.specs.declared.result.Result.{Result}
use Rattle.std.specs.declared.result.Result.TheVariants.{Ok, Err}
use Rattle.sheets.specs.Sheets.{SheetOf}
use Rattle.pin_table.specs.Covers.{PinName}
use Rattle.tree_laws.specs.Pairs.{PairOf, pair_of, merge_of}
use Rattle.tree_laws.specs.Holds.{sheet_of, is_loose, hold_pins}
use Rattle.rotating_tree.specs.declared.part.Part.{Part}
use Rattle.rotating_tree.specs.declared.part.Part.TheVariants.{Void, Shared, Merged}
use Rattle.rotating_tree.specs.declared.draft.Draft.{Draft}
use Rattle.rotating_tree.specs.declared.draft.Draft.TheVariants.{Same, Due, New}
use Rattle.rotating_tree.specs.declared.node.Node.{Node, Leaf, Fork'}

-- Each item that is there has the property.
abbrev pub AllSome : {X : Type 0} → (X → Type 0) → List (Option X) → Type 0
AllSome P [] = Unit {0}
AllSome P (o ∷ os) = IfSome o P × AllSome P os

module _ {J V M : Type 0} where
  -- The sheet of a part.
  abbrev pub part_sheet : Part J V M → Option (SheetOf V)
  part_sheet Void = None
  part_sheet (Shared s) = Some s
  part_sheet (Merged h) = Some (sheet_of h)

  -- A part with a merge that the memo did not take.
  abbrev pub part_loose : Part J V M → Bool
  part_loose Void = false
  part_loose (Shared s) = false
  part_loose (Merged h) = is_loose h

  -- A part without a merge, as a place has.
  abbrev pub IsPlain : Part J V M → Type 0
  IsPlain Void = Unit {0}
  IsPlain (Shared s) = Unit {0}
  IsPlain (Merged h) = ⊥

  -- A part that shares the sheet.
  abbrev pub IsShareOf : SheetOf V → Part J V M → Type 0
  IsShareOf s Void = ⊥
  IsShareOf s (Shared t) = t ≡ s
  IsShareOf s (Merged h) = ⊥

  -- A part that holds the merge of the sheets.
  abbrev pub IsMerged : (ℕ → V → V → V) → SheetOf V → SheetOf V → Part J V M → Type 0
  IsMerged joined a b Void = ⊥
  IsMerged joined a b (Shared s) = ⊥
  IsMerged joined a b (Merged h) = sheet_of h ≡ merge_of joined (pair_of a b)

  -- A part without a sheet.
  abbrev pub IsVoid : Part J V M → Type 0
  IsVoid Void = Unit {0}
  IsVoid (Shared s) = ⊥
  IsVoid (Merged h) = ⊥

  -- The part of a node over halves with these sheets: a merge only if both have one.
  abbrev pub IsJoined : (ℕ → V → V → V) → Option (SheetOf V) → Option (SheetOf V) → Part J V M → Type 0
  IsJoined joined None None part = IsVoid part
  IsJoined joined None (Some b) part = IsShareOf b part
  IsJoined joined (Some a) None part = IsShareOf a part
  IsJoined joined (Some a) (Some b) part = IsMerged joined a b part

  -- The sheet of a node, not of its draft.
  abbrev pub now_of : Node J V M → Option (SheetOf V)
  now_of (Leaf now draft) = part_sheet now
  now_of (Fork' p l q r now draft) = part_sheet now

  -- What is there after a draft.
  abbrev pub next_by : Part J V M → Draft J V M → Part J V M
  next_by now Same = now
  next_by now Due = now
  next_by now (New part) = part

  -- A draft by which a node stays.
  abbrev pub stays_by : Draft J V M → Bool
  stays_by Same = true
  stays_by Due = false
  stays_by (New part) = false

  -- Whether a node stays.
  abbrev pub stays : Node J V M → Bool
  stays (Leaf now draft) = stays_by draft
  stays (Fork' p l q r now draft) = stays_by draft

  -- A draft that is not made yet.
  abbrev pub due_by : Draft J V M → Bool
  due_by Same = false
  due_by Due = true
  due_by (New part) = false

  -- Whether a node must be made again.
  abbrev pub is_due : Node J V M → Bool
  is_due (Leaf now draft) = due_by draft
  is_due (Fork' p l q r now draft) = due_by draft

  -- The tree without its drafts.
  abbrev pub undrafted : Node J V M → Node J V M
  undrafted (Leaf now draft) = Leaf now Same
  undrafted (Fork' p l q r now draft) = Fork' p (undrafted l) q (undrafted r) now Same

  -- The tree with its drafts settled.
  abbrev pub taken : Node J V M → Node J V M
  taken (Leaf now draft) = Leaf (next_by now draft) Same
  taken (Fork' p l q r now draft) = Fork' p (taken l) q (taken r) (next_by now draft) Same

  -- The sheets at the places, in order.
  abbrev pub places : Node J V M → List (Option (SheetOf V))
  places (Leaf now draft) = part_sheet now ∷ []
  places (Fork' p l q r now draft) = places l ++ places r

  -- How many places there are.
  abbrev pub size : Node J V M → ℕ
  size (Leaf now draft) = 1
  size (Fork' p l q r now draft) = size l + size r

  -- How many nodes are over the first place.
  abbrev pub height : Node J V M → ℕ
  height (Leaf now draft) = 0
  height (Fork' p l q r now draft) = height l + 1

  -- How many nodes are over two halves.
  abbrev pub forks : Node J V M → ℕ
  forks (Leaf now draft) = 0
  forks (Fork' p l q r now draft) = forks l + forks r + 1

  -- The drafts of one place.
  abbrev pub drafts_by : Draft J V M → ℕ
  drafts_by Same = 0
  drafts_by Due = 0
  drafts_by (New part) = 1

  -- How many places have a draft.
  abbrev pub drafts : Node J V M → ℕ
  drafts (Leaf now draft) = drafts_by draft
  drafts (Fork' p l q r now draft) = drafts l + drafts r

  -- Whether a merge in the tree, not in its drafts, is one that the memo did not take.
  abbrev pub node_loose : Node J V M → Bool
  node_loose (Leaf now draft) = part_loose now
  node_loose (Fork' p l q r now draft) = node_loose l || (node_loose r || part_loose now)

  -- Both halves of each node have equal sizes.
  abbrev pub IsEven : Node J V M → Type 0
  IsEven (Leaf now draft) = Unit {0}
  IsEven (Fork' p l q r now draft) = IsEven l × IsEven r × (size l ≡ size r) × (height l ≡ height r)

  -- Each node over two halves has their part, and places have no merges.
  abbrev pub IsSound : (ℕ → V → V → V) → Node J V M → Type 0
  IsSound joined (Leaf now draft) = IsPlain now
  IsSound joined (Fork' p l q r now draft) = IsSound joined l × IsSound joined r × IsJoined joined (now_of l) (now_of r) now

  -- No node has a draft.
  abbrev pub IsSettled : Node J V M → Type 0
  IsSettled (Leaf now draft) = draft ≡ Same
  IsSettled (Fork' p l q r now draft) = IsSettled l × IsSettled r × (draft ≡ Same)

  -- A place stays, or has its new leaf.
  abbrev pub IsStagedLeaf : Draft J V M → Type 0
  IsStagedLeaf Same = Unit {0}
  IsStagedLeaf Due = ⊥
  IsStagedLeaf (New part) = IsPlain part

  -- A node stays with everything below it, or is due with some changed place below it.
  abbrev pub StagedBy : Draft J V M → Type 0 → Type 0 → ℕ → Type 0
  StagedBy Same settled staged n = settled
  StagedBy Due settled staged n = staged × (0 < n)
  StagedBy (New part) settled staged n = ⊥

  -- Only places have drafts yet, and exactly the nodes over these are due.
  abbrev pub IsStaged : Node J V M → Type 0
  IsStaged (Leaf now draft) = IsStagedLeaf draft
  IsStaged (Fork' p l q r now draft) = StagedBy draft (IsSettled l × IsSettled r) (IsStaged l × IsStaged r) (drafts l + drafts r)

  -- A node that stays has no draft below it.
  abbrev pub MarkedBy : Draft J V M → Type 0 → Type 0 → Type 0
  MarkedBy Same settled marked = settled
  MarkedBy Due settled marked = marked
  MarkedBy (New part) settled marked = marked

  -- There is no draft below a node that stays.
  abbrev pub IsMarked : Node J V M → Type 0
  IsMarked (Leaf now draft) = Unit {0}
  IsMarked (Fork' p l q r now draft) = MarkedBy draft (IsSettled l × IsSettled r) (IsMarked l × IsMarked r)

  -- Whether what was made is a merge that the memo did not take.
  abbrev pub made_loose : {E : Type 0} → Result (Part J V M) E → Bool
  made_loose (Ok part) = part_loose part
  made_loose (Err e) = false

  module _ (digest_of : PairOf V → List ℕ) where
    -- The pins of a part.
    abbrev pub part_pins : Part J V M → List PinName
    part_pins Void = []
    part_pins (Shared s) = []
    part_pins (Merged h) = hold_pins digest_of h

    -- The pins of a draft.
    abbrev pub draft_pins : Draft J V M → List PinName
    draft_pins Same = []
    draft_pins Due = []
    draft_pins (New part) = part_pins part

    -- The pins of all nodes, including those of their drafts.
    abbrev pub node_pins : Node J V M → List PinName
    node_pins (Leaf now draft) = part_pins now ++ draft_pins draft
    node_pins (Fork' p l q r now draft) = node_pins l ++ (node_pins r ++ (part_pins now ++ draft_pins draft))

    -- The pins of what was made.
    abbrev pub made_pins : {E : Type 0} → Result (Part J V M) E → List PinName
    made_pins (Ok part) = part_pins part
    made_pins (Err e) = []

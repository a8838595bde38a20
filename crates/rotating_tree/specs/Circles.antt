-- Places in a circle, in the order of the window, and the tree over them.
use Rattle.std.specs.Prelude.{◌≡◌, ◌⊎◌, ℕ, suc, zero, ◌+◌, ◌-◌, ◌*◌, ◌^◌, ◌<◌, ◌≤◌, true, List, [], ◌∷◌, ◌++◌, Option, Some, None, take, drop, map, length}
use Rattle.sheets.specs.Sheets.{SheetOf}
use Rattle.sheets.specs.United.{tables_of}
use Rattle.record_text.specs.declared.shift.Shift.{Shift}
use Rattle.record_text.specs.declared.shift.Shift.TheVariants.{Slide, Splice}
use Rattle.record_text.specs.Shifts.{put_at}
use Rattle.tree_laws.specs.Pairs.{PairOf}
use Rattle.tree_laws.specs.Trees.{Leaves, Seen, no_shape, IsLeaf}
use Rattle.rotating_tree.specs.declared.node.Node.{Node}
use Rattle.rotating_tree.specs.declared.standing.Standing.{Standing}
use Rattle.rotating_tree.specs.Nodes.{AllSome, places, taken, undrafted, size, height, drafts, node_pins, node_loose, IsSound, IsEven, IsSettled, IsStaged, IsMarked}

-- How many places of a window a shift changes: those with a fresh leaf, and those whose leaf gained records.
abbrev pub changed_of : Shift → ℕ
changed_of (Slide first gone places fresh) = length places + fresh
changed_of (Splice first gone fresh) = fresh

-- The place of the leaf that is `at` steps after the first one, which is at `start` in a circle of `n` places.
abbrev pub IsPlaceOf : ℕ → ℕ → ℕ → ℕ → Type 0
IsPlaceOf n start at place = (place < n) × ((place ≡ start + at) ⊎ (place + n ≡ start + at))

-- The place of the first leaf after `gone` ones left: that many steps on, or any place if all leaves are fresh.
abbrev pub IsTurn : ℕ → ℕ → ℕ → ℕ → ℕ → Type 0
IsTurn n old gone new fresh = (new < n) × ((new ≡ old + gone) ⊎ ((new + n ≡ old + gone) ⊎ (fresh ≡ n)))

-- The `n` items from the place `start` on, around the circle.
abbrev pub slots : {X : Type 0} → ℕ → ℕ → List X → List X
slots n start xs = drop start (take n xs) ++ take start xs

-- The row with the fresh items after the `kept` first ones.
abbrev pub with_fresh : {X : Type 0} → ℕ → List X → List (Option X) → List (Option X)
with_fresh kept fresh row = take kept row ++ map Some fresh ++ drop (kept + length fresh) row

-- The row with what a shift brings: the first items at the changed places, the rest after the `kept` first ones.
abbrev pub advanced : {X : Type 0} → ℕ → List ℕ → List X → List (Option X) → List (Option X)
advanced kept changed news row = with_fresh kept (drop (length changed) news) (put_at changed (map Some news) row)

-- A number of void places.
abbrev pub voids : {X : Type 0} → ℕ → List (Option X)
voids zero = []
voids (suc k) = None ∷ voids k

-- The places of a window, in its order: its leaves, then void places.
abbrev pub row : {X : Type 0} → ℕ → List X → List (Option X)
row n leaves = map Some leaves ++ voids (n - length leaves)

-- The items that are there.
abbrev pub found : {X : Type 0} → List (Option X) → List X
found [] = []
found (None ∷ os) = found os
found (Some x ∷ os) = x ∷ found os

module _ {J V M : Type 0} where
  -- Leaves were put into the drafts of at most `more` of the first `n` places, and everything else is unchanged.
  pub record IsStagedBy (digest_of : PairOf V → List ℕ) (n more : ℕ) (old new : Node J V M) : Type 0 where
    pub kept : undrafted new ≡ undrafted old
    pub rest : drop n (places (taken new)) ≡ drop n (places (taken old))
    pub staged : IsStaged new
    pub few : drafts new ≤ drafts old + more
    pub pins : node_pins digest_of new ≡ node_pins digest_of old
    pub loose : node_loose (taken new) ≡ true → node_loose (taken old) ≡ true

  -- The draft is the tree with what a shift brings, from the place `start` on.
  pub record IsAdvanced (good : ℕ → V → Type 0) (joined : ℕ → V → V → V) (setting n start kept : ℕ) (changed : List ℕ) (news : List (SheetOf V)) (old new : Node J V M) : Type 0 where
    pub same : undrafted new ≡ old
    pub sound : IsSound joined (taken new)
    pub leaves_are : AllSome (IsLeaf good setting) (places (taken new))
    pub slots_are : slots n start (places (taken new)) ≡ advanced kept changed news (slots n start (places old))
    pub rest : drop n (places (taken new)) ≡ drop n (places old)
    pub marked : IsMarked new

  -- The leaves of a window of `n` places, in its order.
  abbrev pub window : ℕ → Standing → Node J V M → List (SheetOf V)
  window n at node = found (slots n at.start (places node))

  -- A sound tree whose places are those of a window, in a circle.
  pub record IsRow (good : ℕ → V → Type 0) (joined : ℕ → V → V → V) (setting n width : ℕ) (at : Standing) (node : Node J V M) : Type 0 where
    pub sound : IsSound joined node
    pub leaves_are : AllSome (IsLeaf good setting) (places node)
    pub within : at.start < n
    pub count_is : at.count ≡ length (window n at node)
    pub few : at.count ≤ n
    pub row_is : slots n at.start (places node) ≡ row n (window n at node)
    pub rest : drop n (places node) ≡ voids (width - n)

  -- The drafts make such a tree too, or there are no drafts.
  abbrev pub IsDraft : (ℕ → V → Type 0) → (ℕ → V → V → V) → ℕ → ℕ → ℕ → Option Standing → Node J V M → Type 0
  IsDraft good joined setting n width None node = IsSettled node
  IsDraft good joined setting n width (Some at) node = IsMarked node × IsRow good joined setting n width at (taken node)

  -- A full tree, as low as its places allow, over a window and its draft.
  pub record IsCircle (good : ℕ → V → Type 0) (joined : ℕ → V → V → V) (setting n width : ℕ) (at : Standing) (draft : Option Standing) (node : Node J V M) : Type 0 where
    pub wide : width ≡ size node
    pub fits : n ≤ width
    pub even : IsEven node
    pub low : 2 ^ height node < 2 * n
    pub now : IsRow good joined setting n width at (undrafted node)
    pub next : IsDraft good joined setting n width draft node

  -- The leaves of a window.
  abbrev pub leaves_of : ℕ → Standing → Node J V M → Leaves V
  leaves_of n at node = record { first = at.first; tables = tables_of (window n at node); loose = node_loose node; shape = no_shape }

  -- The leaves of a draft.
  abbrev pub draft_of : ℕ → Option Standing → Node J V M → Option (Leaves V)
  draft_of n None node = None
  draft_of n (Some at) node = Some (leaves_of n at (taken node))

  -- The model of a tree.
  abbrev pub seen_of : (PairOf V → List ℕ) → ℕ → ℕ → Standing → Option Standing → Node J V M → Seen V
  seen_of digest_of setting n at draft node = record {
    tree = record { setting = setting; places = n; leaves = leaves_of n at (undrafted node); draft = draft_of n draft node };
    pins = node_pins digest_of node;
  }

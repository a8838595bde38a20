-- The root over the levels is the merge of the leaves.
use Rattle.std.proofs.Common.{◌≡◌, ◌⊎◌, inl, inr, ℕ, ◌+◌, ◌≤◌, List, [], ◌∷◌, ◌++◌, length, map, fold, get_or, Option, Some, None, refl, sym, ap, subst, ◌∙◌, arith, append-nil}
use Rattle.std.specs.List.{All}
use Rattle.std.proofs.lemmas.List.{length-map}
use Rattle.std.proofs.lemmas.List.Elements.{All-head, All-tail, All-cons, All-nil}
use Rattle.definitions.specs.Tables.{IsGoodJoin, merged}
use Rattle.definitions.proofs.TableLaws.{IsRising-merged, good-merged}
use Rattle.sheets.specs.Sheets.{SheetOf}
use Rattle.tree_laws.specs.Trees.{merged_all, IsMergeOver}
use Rattle.tree_laws.proofs.MergedAll.{AllGoodTables, merged_all-append}
use Rattle.random_tree.specs.declared.group.Group.{Group}
use Rattle.random_tree.specs.declared.level.Level.{Level}
use Rattle.random_tree.specs.Groups.{Members, members_of, groups_of, whole, next}
use Rattle.random_tree.specs.Inputs.{is_marked}
use Rattle.random_tree.specs.Levels.{IsLeafTable, group_sheet, now_of, AreOver, AreLevels, groups_above}
use Rattle.random_tree.specs.Steps.{IsRootOf}
use Rattle.random_tree.proofs.GroupLaws.{flat, flat-groups, groups-over, groups-none, groups-some}
use Rattle.random_tree.proofs.LevelLaws.{over-sheet, over-length}
use Rattle.random_tree.proofs.RegroupLaws.{few_or_two}

All-front : {X : Type 0} (P : X → Type 0) (xs ys : List X) → All P (xs ++ ys) → All P xs
All-front P [] ys h = All-nil P
All-front P (x ∷ xs) ys h = All-cons P x xs (All-head P x (xs ++ ys) h) (All-front P xs ys (All-tail P x (xs ++ ys) h))

All-back : {X : Type 0} (P : X → Type 0) (xs ys : List X) → All P (xs ++ ys) → All P ys
All-back P [] ys h = h
All-back P (x ∷ xs) ys h = All-back P xs ys (All-tail P x (xs ++ ys) h)

module _ {V : Type 0} (good : V → Type 0) (join : V → V → V) (laws : IsGoodJoin good join) where
  good-all : (ts : List (List (List ℕ × V))) → All (IsLeafTable good) ts → AllGoodTables join good laws ts
  good-all [] all = tt
  good-all (t ∷ ts) all = ((All-head (IsLeafTable good) t ts all).0, good-all ts (All-tail (IsLeafTable good) t ts all))

  fold-leaf : (t : List (List ℕ × V)) (us : List (List (List ℕ × V))) → IsLeafTable good t → All (IsLeafTable good) us → IsLeafTable good (fold (merged join) t us)
  fold-leaf t [] a bs = a
  fold-leaf t (u ∷ us) a bs =
      let b = All-head (IsLeafTable good) u us bs in
      fold-leaf (merged join t u) us (good-merged laws t u a.0 b.0, IsRising-merged join t u) (All-tail (IsLeafTable good) u us bs)

  whole-leaf : (ms : Members (List (List ℕ × V))) → All (IsLeafTable good) (members_of ms) → IsLeafTable good (whole (merged join) ms)
  whole-leaf ms all = fold-leaf ms.first ms.others (All-head (IsLeafTable good) ms.first ms.others all) (All-tail (IsLeafTable good) ms.first ms.others all)

  pub whole-leaves : (mss : List (Members (List (List ℕ × V)))) → All (IsLeafTable good) (flat mss) → All (IsLeafTable good) (map (whole (merged join)) mss)
  whole-leaves [] all = All-nil (IsLeafTable good)
  whole-leaves (ms ∷ mss) all =
      All-cons (IsLeafTable good) (whole (merged join) ms) (map (whole (merged join)) mss) (whole-leaf ms (All-front (IsLeafTable good) (members_of ms) (flat mss) all)) (whole-leaves mss (All-back (IsLeafTable good) (members_of ms) (flat mss) all))

  -- The merge of the groups' merges is that of all members.
  whole-merge : (mss : List (Members (List (List ℕ × V)))) → All (IsLeafTable good) (flat mss) → merged_all join (map (whole (merged join)) mss) ≡ merged_all join (flat mss)
  whole-merge [] all = refl
  whole-merge (ms ∷ []) all = ap (λ (us : List (List (List ℕ × V))). Some (fold (merged join) ms.first us)) (sym (append-nil ms.others))
  whole-merge (ms ∷ ns ∷ mss) all =
      let first = All-front (IsLeafTable good) (members_of ms) (flat (ns ∷ mss)) all in
      let rest = All-back (IsLeafTable good) (members_of ms) (flat (ns ∷ mss)) all in
      let b = fold (merged join) (whole (merged join) ns) (map (whole (merged join)) mss) in
      let behind : merged_all join (flat (ns ∷ mss)) ≡ Some b = sym (whole-merge (ns ∷ mss) rest) in
      merged_all-append join good laws (whole (merged join) ms ∷ []) (map (whole (merged join)) (ns ∷ mss)) (whole (merged join) ms) b ((whole-leaf ms first).0, tt) (good-all (map (whole (merged join)) (ns ∷ mss)) (whole-leaves (ns ∷ mss) rest)) refl refl
      ∙ sym (merged_all-append join good laws (members_of ms) (flat (ns ∷ mss)) (whole (merged join) ms) b (good-all (members_of ms) first) (good-all (flat (ns ∷ mss)) rest) refl behind)

module _ {V : Type 0} (good : V → Type 0) (join : V → V → V) (laws : IsGoodJoin good join) (encoded : V → List ℕ) where
  -- A level has the merge of the one below it.
  next-merge : (us : List (List (List ℕ × V))) → 2 ≤ length us → All (IsLeafTable good) us → merged_all join (next (is_marked encoded) (merged join) us) ≡ merged_all join us
  next-merge us two all =
      let same : flat (groups_of (is_marked encoded) us) ≡ us = ap flat (groups-over (is_marked encoded) us two) ∙ flat-groups (is_marked encoded) us in
      whole-merge good join laws (groups_of (is_marked encoded) us) (subst (All (IsLeafTable good)) (sym same) all) ∙ ap (merged_all join) same

  pub next-leaves : (us : List (List (List ℕ × V))) → All (IsLeafTable good) us → All (IsLeafTable good) (next (is_marked encoded) (merged join) us)
  next-leaves us all = whole-leaves good join laws (groups_of (is_marked encoded) us) (go (few_or_two (length us)))
    where
      go : (length us ≤ 1) ⊎ (2 ≤ length us) → All (IsLeafTable good) (flat (groups_of (is_marked encoded) us))
      go (inl few) = subst (λ (mss : List (Members (List (List ℕ × V)))). All (IsLeafTable good) (flat mss)) (sym (groups-none (is_marked encoded) us few)) (All-nil (IsLeafTable good))
      go (inr two) = subst (All (IsLeafTable good)) (sym (ap flat (groups-over (is_marked encoded) us two) ∙ flat-groups (is_marked encoded) us)) all

module _ {V : Type 0} (good : ℕ → V → Type 0) (joined : ℕ → V → V → V) (setting : ℕ) (laws : IsGoodJoin (good setting) (joined setting)) (encoded : V → List ℕ) where
  -- The root over a level is that over the one below it.
  pub root-next : (us : List (List (List ℕ × V))) (root : Option (SheetOf V)) → 2 ≤ length us → All (IsLeafTable (good setting)) us → IsMergeOver joined setting (next (is_marked encoded) (merged (joined setting)) us) root → IsMergeOver joined setting us root
  root-next us None two all over =
      let n = ap length over in
      let m = length-map (groups_of (is_marked encoded) us) (whole (merged (joined setting))) in
      let some = groups-some (is_marked encoded) us two in
      absurd (omega (arith, n, m, some))
  root-next us (Some s) two all over = (over.0, sym (next-merge (good setting) (joined setting) laws encoded us two all) ∙ over.1)

module _ {J V M : Type 0} (good : ℕ → V → Type 0) (joined : ℕ → V → V → V) (setting : ℕ) (encoded : V → List ℕ) where
  -- A level of one group is the root's.
  pub root-only : (mss : List (Members (List (List ℕ × V)))) (gs : List (Group J V M)) (g : Group J V M) (s : SheetOf V) → AreOver joined setting encoded mss gs → gs ≡ g ∷ [] → s ≡ group_sheet g → IsMergeOver joined setting (map (whole (merged (joined setting))) mss) (Some s)
  root-only mss gs g s are one is = go mss (subst (λ (hs : List (Group J V M)). AreOver joined setting encoded mss hs) one are)
    where
      go : (ns : List (Members (List (List ℕ × V)))) → AreOver joined setting encoded ns (g ∷ []) → IsMergeOver joined setting (map (whole (merged (joined setting))) ns) (Some s)
      go [] over = absurd over
      go (ms ∷ []) over = let same = is ∙ over-sheet joined setting encoded ms g over.0 in (ap (λ (t : SheetOf V). t.setting) same, ap (λ (t : SheetOf V). Some t.entries) (sym same))
      go (ms ∷ ns ∷ more) over = absurd over.1

  -- A level of any other number of groups leaves the root to the levels above.
  pub root-above : (laws : IsGoodJoin (good setting) (joined setting)) (mss : List (Members (List (List ℕ × V)))) (gs : List (Group J V M)) (root : Option (SheetOf V)) → AreOver joined setting encoded mss gs → (length gs ≡ 1 → ⊥) → All (IsLeafTable (good setting)) (map (whole (merged (joined setting))) mss)
      → IsMergeOver joined setting (map (whole (merged (joined setting))) (groups_above joined setting encoded mss)) root → IsMergeOver joined setting (map (whole (merged (joined setting))) mss) root
  root-above laws mss gs root are other leaves above = go mss refl
    where
      count : length gs ≡ length mss
      count = over-length joined setting encoded mss gs are

      go : (ns : List (Members (List (List ℕ × V)))) → mss ≡ ns → IsMergeOver joined setting (map (whole (merged (joined setting))) mss) root
      go [] none = subst (λ (ns : List (Members (List (List ℕ × V)))). IsMergeOver joined setting (map (whole (merged (joined setting))) ns) root) (sym none)
          (subst (λ (ns : List (Members (List (List ℕ × V)))). IsMergeOver joined setting (map (whole (merged (joined setting))) (groups_above joined setting encoded ns)) root) none above)
      go (m ∷ []) one = absurd (other (count ∙ ap length one))
      go (m ∷ n ∷ ns) more =
          let a = ap length more in
          let b = length-map mss (whole (merged (joined setting))) in
          root-next good joined setting laws encoded (map (whole (merged (joined setting))) mss) root (omega (arith, a, b)) leaves above

-- A list of one item.
pub only-one : {X : Type 0} (xs : List X) (d : X) → length xs ≡ 1 → xs ≡ get_or xs 0 d ∷ []
only-one [] d one = absurd (omega (arith, one))
only-one (x ∷ []) d one = refl
only-one (x ∷ y ∷ xs) d one = absurd (omega (arith, one))

-- The root over levels, by the lowest one.
module _ {J V M : Type 0} (good : ℕ → V → Type 0) (joined : ℕ → V → V → V) (encoded : V → List ℕ) where
  pub at-none : (levels : List (Level J V M)) → levels ≡ [] → IsRootOf good joined encoded (map now_of levels) None
  at-none levels none setting mss are leaves = ap (map (whole (merged (joined setting)))) (subst (λ (ks : List (Level J V M)). AreLevels joined setting encoded mss (map now_of ks)) none are)

  pub at-only : (levels more : List (Level J V M)) (l : Level J V M) (g : Group J V M) (s : SheetOf V) → levels ≡ l ∷ more → now_of l ≡ g ∷ [] → s ≡ group_sheet g → IsRootOf good joined encoded (map now_of levels) (Some s)
  at-only levels more l g s is one same setting mss are leaves =
      let here = subst (λ (ks : List (Level J V M)). AreLevels joined setting encoded mss (map now_of ks)) is are in
      root-only good joined setting encoded mss (now_of l) g s here.0 one same

  pub at-other : ((setting : ℕ) → IsGoodJoin (good setting) (joined setting)) → (levels more : List (Level J V M)) (l : Level J V M) (root : Option (SheetOf V)) → levels ≡ l ∷ more → (length (now_of l) ≡ 1 → ⊥) → IsRootOf good joined encoded (map now_of more) root → IsRootOf good joined encoded (map now_of levels) root
  at-other laws levels more l root is other above setting mss are leaves =
      let here = subst (λ (ks : List (Level J V M)). AreLevels joined setting encoded mss (map now_of ks)) is are in
      let next_ones = next-leaves (good setting) (joined setting) (laws setting) encoded (map (whole (merged (joined setting))) mss) leaves in
      root-above good joined setting encoded (laws setting) mss (now_of l) root here.0 other leaves (above setting (groups_above joined setting encoded mss) here.1 next_ones)

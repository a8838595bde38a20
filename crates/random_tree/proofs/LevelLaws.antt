-- Groups over members: their sheets, how many they are, and lists of them.
use Rattle.std.proofs.Common.{◌≡◌, ℕ, suc, zero, ◌+◌, ◌-◌, true, List, [], ◌∷◌, ◌++◌, length, map, take, drop, fold, Some, None, refl, sym, ap, ◌∙◌, arith, add-one}
use Rattle.std.specs.List.{All, slice_get}
use Rattle.std.proofs.lemmas.List.Elements.{All-head, All-tail, All-cons, All-nil}
use Rattle.definitions.specs.Tables.{merged}
use Rattle.definitions.proofs.TableLaws.{IsRising-merged}
use Rattle.sheets.specs.Sheets.{SheetOf}
use Rattle.tree_laws.specs.Pairs.{merge_of}
use Rattle.tree_laws.specs.Holds.{sheet_of}
use Rattle.tree_laws.specs.declared.hold.Hold.{Hold}
use Rattle.tree_laws.proofs.KeyCounts.{within-merged}
use Rattle.random_tree.specs.declared.group.Group.{Group}
use Rattle.random_tree.specs.Groups.{Members, size, whole, Ends}
use Rattle.random_tree.specs.Inputs.{pair_at, is_marked}
use Rattle.random_tree.specs.Levels.{sheet_at, IsTableOf, last_sheet, group_sheet, group_table, count_of, span, AreSet, IsKept, AreMerges, IsOver, AreOver}
use Rattle.random_tree.proofs.GroupLaws.{flat, sizes}

-- Items of a list.

module _ {X : Type 0} where
  drop-next : (ys : List X) (k : ℕ) (x : X) → slice_get ys k ≡ Some x → drop k ys ≡ x ∷ drop (suc k) ys
  drop-next [] k x e = absurd (let no : None ≡ Some x = e in cc)
  drop-next (y ∷ ys) zero x e = let same : y ≡ x = (let some : Some y ≡ Some x = e in cc) in ap (λ (z : X). z ∷ ys) same
  drop-next (y ∷ ys) (suc k) x e = drop-next ys k x e

  pub get-drop : (xs : List X) (i : ℕ) (x : X) → slice_get xs i ≡ Some x → drop i xs ≡ x ∷ drop (i + 1) xs
  get-drop xs i x is = drop-next xs i x is ∙ ap (λ (n : ℕ). x ∷ drop n xs) (sym (add-one i))

module _ {J V M : Type 0} where
  -- A member, read from its level.
  pub member-set : (setting : ℕ) (gs : List (Group J V M)) (i : ℕ) (s : SheetOf V) → AreSet setting gs → slice_get (map group_sheet gs) i ≡ Some s → s ≡ sheet_at setting s.entries
  member-set setting [] i s all is = absurd (let no : None ≡ Some s = is in cc)
  member-set setting (g ∷ gs) zero s all is =
      let same : group_sheet g ≡ s = (let some : Some (group_sheet g) ≡ Some s = is in cc) in
      let set : s.setting ≡ setting = ap (λ (t : SheetOf V). t.setting) (sym same) ∙ All-head (λ (h : Group J V M). (group_sheet h).setting ≡ setting) g gs all in
      λ i. record { setting = set i; entries = s.entries }
  member-set setting (g ∷ gs) (suc i) s all is = member-set setting gs i s (All-tail (λ (h : Group J V M). (group_sheet h).setting ≡ setting) g gs all) is

  get-table : (gs : List (Group J V M)) (i : ℕ) (s : SheetOf V) → slice_get (map group_sheet gs) i ≡ Some s → slice_get (map group_table gs) i ≡ Some s.entries
  get-table [] i s is = absurd (let no : None ≡ Some s = is in cc)
  get-table (g ∷ gs) zero s is = let same : group_sheet g ≡ s = (let some : Some (group_sheet g) ≡ Some s = is in cc) in ap (λ (t : SheetOf V). Some t.entries) same
  get-table (g ∷ gs) (suc i) s is = get-table gs i s is

  pub member-drop : (gs : List (Group J V M)) (i : ℕ) (s : SheetOf V) → slice_get (map group_sheet gs) i ≡ Some s → drop i (map group_table gs) ≡ s.entries ∷ drop (i + 1) (map group_table gs)
  member-drop gs i s is = get-drop (map group_table gs) i s.entries (get-table gs i s is)

  -- The sheet of the last hold.
  pub last-of : (s : SheetOf V) (hs : List (Hold J V M)) (h : Hold J V M) → slice_get hs (length hs - 1) ≡ Some h → last_sheet s hs ≡ sheet_of h
  last-of s [] h is = absurd (let no : None ≡ Some h = is in cc)
  last-of s (g ∷ []) h is = let same : g ≡ h = (let some : Some g ≡ Some h = is in cc) in ap sheet_of same
  last-of s (g ∷ f ∷ hs) h is =
      last-of (sheet_of g) (f ∷ hs) h (ap (slice_get (g ∷ f ∷ hs)) (let n : suc (length (f ∷ hs) - 1) ≡ length (g ∷ f ∷ hs) - 1 = omega arith in n) ∙ is)

  module _ (joined : ℕ → V → V → V) (setting : ℕ) where
    -- The last sheet is the merge of all.
    last-whole : (t : List (List ℕ × V)) (us : List (List (List ℕ × V))) (hs : List (Hold J V M)) → AreMerges joined setting t us hs → last_sheet (sheet_at setting t) hs ≡ sheet_at setting (fold (merged (joined setting)) t us)
    last-whole t [] [] are = refl
    last-whole t [] (h ∷ hs) are = absurd are
    last-whole t (u ∷ us) [] are = absurd are
    last-whole t (u ∷ us) (h ∷ hs) are = ap (λ (s : SheetOf V). last_sheet s hs) are.0 ∙ last-whole (merged (joined setting) t u) us hs are.2

    merges-count : (t : List (List ℕ × V)) (us : List (List (List ℕ × V))) (hs : List (Hold J V M)) → AreMerges joined setting t us hs → length hs ≡ length us
    merges-count t [] [] are = refl
    merges-count t [] (h ∷ hs) are = absurd are
    merges-count t (u ∷ us) [] are = absurd are
    merges-count t (u ∷ us) (h ∷ hs) are = ap suc (merges-count (merged (joined setting) t u) us hs are.2)

    -- One merge more.
    pub merges-push : (t : List (List ℕ × V)) (us : List (List (List ℕ × V))) (hs : List (Hold J V M)) (u : List (List ℕ × V)) (h : Hold J V M) → AreMerges joined setting t us hs
        → sheet_of h ≡ merge_of joined (pair_at setting (fold (merged (joined setting)) t us) u) → IsKept (pair_at setting (fold (merged (joined setting)) t us) u) h → AreMerges joined setting t (us ++ u ∷ []) (hs ++ h ∷ [])
    merges-push t [] [] u h are is kept = (is, kept, tt)
    merges-push t [] (g ∷ hs) u h are is kept = absurd are
    merges-push t (v ∷ us) [] u h are is kept = absurd are
    merges-push t (v ∷ us) (g ∷ hs) u h are is kept = (are.0, are.1, merges-push (merged (joined setting) t v) us hs u h are.2 is kept)

    module _ (encoded : V → List ℕ) where
      pub over-sheet : (ms : Members (List (List ℕ × V))) (g : Group J V M) → IsOver joined setting encoded ms g → group_sheet g ≡ sheet_at setting (whole (merged (joined setting)) ms)
      over-sheet ms g over = ap (λ (s : SheetOf V). last_sheet s g.holds.items) over.first_is ∙ last-whole ms.first ms.others g.holds.items over.holds_are

      pub over-count : (ms : Members (List (List ℕ × V))) (g : Group J V M) → IsOver joined setting encoded ms g → count_of g ≡ size ms
      over-count ms g over = let n = merges-count ms.first ms.others g.holds.items over.holds_are in omega (arith, n)

      pub over-tables : (mss : List (Members (List (List ℕ × V)))) (gs : List (Group J V M)) → AreOver joined setting encoded mss gs → map group_table gs ≡ map (whole (merged (joined setting))) mss
      over-tables [] [] are = refl
      over-tables [] (g ∷ gs) are = absurd are
      over-tables (ms ∷ mss) [] are = absurd are
      over-tables (ms ∷ mss) (g ∷ gs) are =
          let head : group_table g ≡ whole (merged (joined setting)) ms = ap (λ (s : SheetOf V). s.entries) (over-sheet ms g are.0) in
          let rest = over-tables mss gs are.1 in
          λ i. head i ∷ rest i

      pub over-set : (mss : List (Members (List (List ℕ × V)))) (gs : List (Group J V M)) → AreOver joined setting encoded mss gs → AreSet setting gs
      over-set [] [] are = All-nil (λ (h : Group J V M). (group_sheet h).setting ≡ setting)
      over-set [] (g ∷ gs) are = absurd are
      over-set (ms ∷ mss) [] are = absurd are
      over-set (ms ∷ mss) (g ∷ gs) are = All-cons (λ (h : Group J V M). (group_sheet h).setting ≡ setting) g gs (ap (λ (s : SheetOf V). s.setting) (over-sheet ms g are.0)) (over-set mss gs are.1)

      pub over-length : (mss : List (Members (List (List ℕ × V)))) (gs : List (Group J V M)) → AreOver joined setting encoded mss gs → length gs ≡ length mss
      over-length [] [] are = refl
      over-length [] (g ∷ gs) are = absurd are
      over-length (ms ∷ mss) [] are = absurd are
      over-length (ms ∷ mss) (g ∷ gs) are = ap suc (over-length mss gs are.1)

      pub over-span : (mss : List (Members (List (List ℕ × V)))) (gs : List (Group J V M)) → AreOver joined setting encoded mss gs → span gs ≡ sizes mss
      over-span [] [] are = refl
      over-span [] (g ∷ gs) are = absurd are
      over-span (ms ∷ mss) [] are = absurd are
      over-span (ms ∷ mss) (g ∷ gs) are = let a = over-count ms g are.0 in let b = over-span mss gs are.1 in omega (arith, a, b)

      pub over-take : (n : ℕ) (mss : List (Members (List (List ℕ × V)))) (gs : List (Group J V M)) → AreOver joined setting encoded mss gs → AreOver joined setting encoded (take n mss) (take n gs)
      over-take zero mss gs are = tt
      over-take (suc n) [] [] are = tt
      over-take (suc n) [] (g ∷ gs) are = absurd are
      over-take (suc n) (ms ∷ mss) [] are = absurd are
      over-take (suc n) (ms ∷ mss) (g ∷ gs) are = (are.0, over-take n mss gs are.1)

      pub over-drop : (n : ℕ) (mss : List (Members (List (List ℕ × V)))) (gs : List (Group J V M)) → AreOver joined setting encoded mss gs → AreOver joined setting encoded (drop n mss) (drop n gs)
      over-drop zero mss gs are = are
      over-drop (suc n) [] [] are = tt
      over-drop (suc n) [] (g ∷ gs) are = absurd are
      over-drop (suc n) (ms ∷ mss) [] are = absurd are
      over-drop (suc n) (ms ∷ mss) (g ∷ gs) are = over-drop n mss gs are.1

      pub over-append : (mss nss : List (Members (List (List ℕ × V)))) (gs hs : List (Group J V M)) → AreOver joined setting encoded mss gs → AreOver joined setting encoded nss hs → AreOver joined setting encoded (mss ++ nss) (gs ++ hs)
      over-append [] nss [] hs are more = more
      over-append [] nss (g ∷ gs) hs are more = absurd are
      over-append (ms ∷ mss) nss [] hs are more = absurd are
      over-append (ms ∷ mss) nss (g ∷ gs) hs are more = (are.0, over-append mss nss gs hs are.1 more)

      pub over-ends : (mss : List (Members (List (List ℕ × V)))) (gs : List (Group J V M)) → AreOver joined setting encoded mss gs → All (λ g. g.ended ≡ true) gs → All (Ends (is_marked encoded)) mss
      over-ends [] gs are all = All-nil (Ends (is_marked encoded))
      over-ends (ms ∷ mss) [] are all = absurd are
      over-ends (ms ∷ mss) (g ∷ gs) are all =
          All-cons (Ends (is_marked encoded)) ms mss (are.0.ended_is (All-head (λ (h : Group J V M). h.ended ≡ true) g gs all)) (over-ends mss gs are.1 (All-tail (λ (h : Group J V M). h.ended ≡ true) g gs all))

-- Tables of a level are tables of the leaves.
module _ {V : Type 0} (joined : ℕ → V → V → V) (setting : ℕ) (all : List (List (List ℕ × V))) where
  pub fold-table : (t : List (List ℕ × V)) (us : List (List (List ℕ × V))) → IsTableOf all t → All (IsTableOf all) us → IsTableOf all (fold (merged (joined setting)) t us)
  fold-table t [] a bs = a
  fold-table t (u ∷ us) a bs =
      let b = All-head (IsTableOf all) u us bs in
      fold-table (merged (joined setting) t u) us (IsRising-merged (joined setting) t u, within-merged (joined setting) t u all a.1 b.1) (All-tail (IsTableOf all) u us bs)

  pub whole-tables : (mss : List (Members (List (List ℕ × V)))) → All (IsTableOf all) (flat mss) → All (IsTableOf all) (map (whole (merged (joined setting))) mss)
  whole-tables [] a = All-nil (IsTableOf all)
  whole-tables (ms ∷ mss) a =
      All-cons (IsTableOf all) (whole (merged (joined setting)) ms) (map (whole (merged (joined setting))) mss)
      (fold-table ms.first ms.others (All-head (IsTableOf all) ms.first (ms.others ++ flat mss) a) (All-front ms.others (flat mss) (All-tail (IsTableOf all) ms.first (ms.others ++ flat mss) a)))
      (whole-tables mss (All-back ms.others (flat mss) (All-tail (IsTableOf all) ms.first (ms.others ++ flat mss) a)))
    where
      All-front : (xs ys : List (List (List ℕ × V))) → All (IsTableOf all) (xs ++ ys) → All (IsTableOf all) xs
      All-front [] ys h = All-nil (IsTableOf all)
      All-front (x ∷ xs) ys h = All-cons (IsTableOf all) x xs (All-head (IsTableOf all) x (xs ++ ys) h) (All-front xs ys (All-tail (IsTableOf all) x (xs ++ ys) h))

      All-back : (xs ys : List (List (List ℕ × V))) → All (IsTableOf all) (xs ++ ys) → All (IsTableOf all) ys
      All-back [] ys h = h
      All-back (x ∷ xs) ys h = All-back xs ys (All-tail (IsTableOf all) x (xs ++ ys) h)

-- The levels over leaves: each node is the merge of the leaves below it, and few nodes are merges.
use Rattle.std.proofs.Common.{◌≡◌, ◌⊎◌, inl, inr, ℕ, suc, zero, ◌+◌, ◌-◌, ◌*◌, ◌%◌, ◌^◌, ◌<◌, ◌≤◌, arith, sym, ap, ◌∙◌, refl, subst, List, [], ◌∷◌, ◌++◌, length, length-append, append_assoc, Option, Some, None}
use Rattle.std.specs.List.{slice_get, All}
use Rattle.std.specs.Option.{option_map}
use Rattle.std.proofs.lemmas.Bool.{cases_eq}
use Rattle.std.proofs.lemmas.Option.{slice_get-map}
use native.Mathlib.Nat.{pow-suc}
use Rattle.std.proofs.lemmas.List.{take_at, drop_at, append-nil}
use Rattle.std.proofs.lemmas.List.Elements.{All-take, All-drop, All-head, All-tail}
use Rattle.definitions.specs.Tables.{IsGoodJoin}
use Rattle.sheets.specs.Sheets.{SheetOf}
use Rattle.sheets.specs.United.{tables_of}
use Rattle.tree_laws.specs.Pairs.{PairOf}
use Rattle.tree_laws.specs.Trees.{IsLeaf, IsMergeOver}
use Rattle.tree_laws.specs.declared.hold.Hold.TheVariants.{Pinned, Loose}
use Rattle.tree_laws.proofs.LeafLaws.{leaf-over, both-over}
use Rattle.folding_tree.specs.declared.part.Part.{Part}
use Rattle.folding_tree.specs.declared.part.Part.TheVariants.{Shared, Merged}
use Rattle.folding_tree.specs.Levels.{Row, part_at, sheet_at, part_sheet, part_pins, parts_pins, sheets_of, IsMade, IsMerged, IsOver, IsTower}
use Rattle.folding_tree.proofs.RowLaws.{at-before, at-behind}
use Rattle.folding_tree.proofs.AlignLaws.{over-most, over-empty}

all-left : {X : Type 0} (P : X → Type 0) (xs ys : List X) → All P (xs ++ ys) → All P xs
all-left P xs ys h = subst (All P) (take_at xs ys (length xs) refl) (All-take P (length xs) (xs ++ ys) h)

all-right : {X : Type 0} (P : X → Type 0) (xs ys : List X) → All P (xs ++ ys) → All P ys
all-right P xs ys h = subst (All P) (drop_at xs ys (length xs) refl) (All-drop P (length xs) (xs ++ ys) h)

-- The items of two places on.
next-two : {X : Type 0} (a b : X) (xs : List X) (q : ℕ) → (slice_get (a ∷ (b ∷ xs)) (2 * suc q) ≡ slice_get xs (2 * q)) × (slice_get (a ∷ (b ∷ xs)) (2 * suc q + 1) ≡ slice_get xs (2 * q + 1))
next-two a b xs q =
    let e : 2 * suc q ≡ suc (suc (2 * q)) = omega arith in
    let f : 2 * suc q + 1 ≡ suc (suc (2 * q + 1)) = omega arith in
    (ap (slice_get (a ∷ (b ∷ xs))) e, ap (slice_get (a ∷ (b ∷ xs))) f)

some-none : {X : Type 0} (x : X) → ◌≡◌ {A = Option X} (Some x) None → ⊥
some-none x e = cc

none-some : {X : Type 0} (x : X) → ◌≡◌ {A = Option X} None (Some x) → ⊥
none-some x e = cc

same-some : {X : Type 0} (x y : X) → ◌≡◌ {A = Option X} (Some x) (Some y) → x ≡ y
same-some x y e = cc

parity : (n : ℕ) → (n % 2 ≡ 0) ⊎ (n % 2 ≡ 1)
parity n = elim (cases_eq (n % 2) 0) [ inl e ↦ inl e | inr off ↦ inr (omega (arith, off)) ]

module _ {V : Type 0} (joined : ℕ → V → V → V) where
  -- Each sheet of a list is the merge of some leaves, from left to right.
  abbrev pub Groups : ℕ → List (SheetOf V) → List (SheetOf V) → Type 0
  Groups setting [] leaves = leaves ≡ []
  Groups setting (x ∷ xs) leaves = (us : List (SheetOf V)) × (vs : List (SheetOf V)) × (leaves ≡ us ++ vs) × IsMergeOver joined setting (tables_of us) (Some x) × Groups setting xs vs

  module _ (good : ℕ → V → Type 0) (setting : ℕ) (laws : IsGoodJoin (good setting) (joined setting)) where
    pub groups-leaves : (leaves : List (SheetOf V)) → All (IsLeaf good setting) leaves → Groups setting leaves leaves
    groups-leaves [] all = refl
    groups-leaves (s ∷ leaves) all = (s ∷ [], leaves, refl, leaf-over good joined setting s (All-head (IsLeaf good setting) s leaves all), groups-leaves leaves (All-tail (IsLeaf good setting) s leaves all))

module _ {J V M : Type 0} (joined : ℕ → V → V → V) where
  -- The parts are over pairs of the sheets, from left to right.
  abbrev pub ArePaired : List (SheetOf V) → List (Part J V M) → Type 0
  ArePaired below parts = (q : ℕ) → IsMade joined (slice_get below (2 * q)) (slice_get below (2 * q + 1)) (slice_get parts q)

  paired-rest : (a b : SheetOf V) (below : List (SheetOf V)) (p : Part J V M) (parts : List (Part J V M)) → ArePaired (a ∷ (b ∷ below)) (p ∷ parts) → ArePaired below parts
  paired-rest a b below p parts h q =
      let e = next-two a b below q in
      subst (λ (x : Option (SheetOf V)). IsMade joined x (slice_get below (2 * q + 1)) (slice_get parts q)) e.0
      (subst (λ (y : Option (SheetOf V)). IsMade joined (slice_get (a ∷ (b ∷ below)) (2 * suc q)) y (slice_get parts q)) e.1 (h (suc q)))

  module _ (good : ℕ → V → Type 0) (setting : ℕ) (laws : IsGoodJoin (good setting) (joined setting)) where
    both-sheet : (us vs : List (SheetOf V)) (a b : SheetOf V) (p : Part J V M) → All (IsLeaf good setting) us → All (IsLeaf good setting) vs → IsMergeOver joined setting (tables_of us) (Some a) → IsMergeOver joined setting (tables_of vs) (Some b) → IsMerged joined a b p → IsMergeOver joined setting (tables_of (us ++ vs)) (Some (part_sheet p))
    both-sheet us vs a b (Shared s) x y oa ob is = absurd is
    both-sheet us vs a b (Merged h) x y oa ob is = both-over good joined setting us vs a b (part_sheet {J = J} {V = V} {M = M} (Merged h)) laws x y oa ob is

    pub groups-paired : (below : List (SheetOf V)) (parts : List (Part J V M)) (leaves : List (SheetOf V)) → ArePaired below parts → All (IsLeaf good setting) leaves → Groups joined setting below leaves → Groups joined setting (sheets_of parts) leaves
    groups-paired [] [] leaves h all g = g
    groups-paired [] (p ∷ parts) leaves h all g = absurd (some-none p (h 0))
    groups-paired (a ∷ []) [] leaves h all g = absurd (none-some {X = Part J V M} (Shared a) (h 0))
    groups-paired (a ∷ []) (p ∷ []) leaves h all g =
        let is : p ≡ Shared a = same-some p (Shared a) (h 0) in
        subst (λ (x : SheetOf V). Groups joined setting (x ∷ []) leaves) (sym (ap part_sheet is)) g
    groups-paired (a ∷ []) (p ∷ (r ∷ parts)) leaves h all g = absurd (some-none r (h 1))
    groups-paired (a ∷ (b ∷ below)) [] leaves h all g = absurd (h 0)
    groups-paired (a ∷ (b ∷ below)) (p ∷ parts) leaves h all g =
        let us = g.0 in
        let rest = g.4 in
        let vs = rest.0 in
        let ws = rest.1 in
        let whole : leaves ≡ (us ++ vs) ++ ws = g.2 ∙ ap (λ (xs : List (SheetOf V)). us ++ xs) rest.2 ∙ sym (append_assoc us vs ws) in
        let all_parts : All (IsLeaf good setting) ((us ++ vs) ++ ws) = subst (All (IsLeaf good setting)) whole all in
        let firsts = all-left (IsLeaf good setting) (us ++ vs) ws all_parts in (
          us ++ vs,
          ws,
          whole,
          both-sheet us vs a b p (all-left (IsLeaf good setting) us vs firsts) (all-right (IsLeaf good setting) us vs firsts) g.3 rest.3 (h 0),
          groups-paired below parts ws (paired-rest a b below p parts h) (all-right (IsLeaf good setting) (us ++ vs) ws all_parts) rest.4,
        )

  -- A merge has one pin, and saves a node.
  one-pin : (digest_of : PairOf V → List ℕ) (p : Part J V M) → length (part_pins digest_of p) ≤ 1
  one-pin digest_of (Shared s) = omega arith
  one-pin digest_of (Merged (Pinned p)) = omega arith
  one-pin digest_of (Merged (Loose s)) = omega arith

  pub paired-few : (digest_of : PairOf V → List ℕ) (below : List (SheetOf V)) (parts : List (Part J V M)) → ArePaired below parts → length (parts_pins digest_of parts) + length parts ≤ length below
  paired-few digest_of [] [] h = omega arith
  paired-few digest_of [] (p ∷ parts) h = absurd (some-none p (h 0))
  paired-few digest_of (a ∷ []) [] h = omega arith
  paired-few digest_of (a ∷ []) (p ∷ []) h =
      let is : p ≡ Shared a = same-some p (Shared a) (h 0) in
      subst (λ (x : Part J V M). length (parts_pins digest_of (x ∷ [])) + 1 ≤ 1) (sym is) (omega arith)
  paired-few digest_of (a ∷ []) (p ∷ (r ∷ parts)) h = absurd (some-none r (h 1))
  paired-few digest_of (a ∷ (b ∷ below)) [] h = omega arith
  paired-few digest_of (a ∷ (b ∷ below)) (p ∷ parts) h =
      let one = one-pin digest_of p in
      let rest = paired-few digest_of below parts (paired-rest a b below p parts h) in
      let sum = length-append (part_pins digest_of p) (parts_pins digest_of parts) in
      omega (arith, one, rest, sum)

  -- A row over one whose first node is a left half, and over one whose first node is a right half.
  module _ (below above : Row J V M) (over : IsOver joined below above) where
    below-sheet : (place : ℕ) → below.low ≤ place → sheet_at below place ≡ slice_get (sheets_of below.parts) (place - below.low)
    below-sheet place le = ap (option_map part_sheet) (at-behind below place le) ∙ sym (slice_get-map part_sheet below.parts (place - below.low))

    above-part : (q : ℕ) → part_at above (above.low + q) ≡ slice_get above.parts q
    above-part q = at-behind above (above.low + q) (omega arith) ∙ ap (slice_get above.parts) (omega arith)

    made-from : (x y : Option (SheetOf V)) (q : ℕ) → sheet_at below (2 * (above.low + q)) ≡ x → sheet_at below (2 * (above.low + q) + 1) ≡ y → IsMade joined x y (slice_get above.parts q)
    made-from x y q p r =
        subst (λ (u : Option (SheetOf V)). IsMade joined u y (slice_get above.parts q)) p
        (subst (λ (u : Option (SheetOf V)). IsMade joined (sheet_at below (2 * (above.low + q))) u (slice_get above.parts q)) r
        (subst (λ (u : Option (Part J V M)). IsMade joined (sheet_at below (2 * (above.low + q))) (sheet_at below (2 * (above.low + q) + 1)) u) (above-part q) (over.made (above.low + q))))

    even-paired : below.low % 2 ≡ 0 → ArePaired (sheets_of below.parts) above.parts
    even-paired even q =
        let low = over.low in
        made-from (slice_get (sheets_of below.parts) (2 * q)) (slice_get (sheets_of below.parts) (2 * q + 1)) q
        (below-sheet (2 * (above.low + q)) (omega (arith, low, even)) ∙ ap (slice_get (sheets_of below.parts)) (omega (arith, low, even)))
        (below-sheet (2 * (above.low + q) + 1) (omega (arith, low, even)) ∙ ap (slice_get (sheets_of below.parts)) (omega (arith, low, even)))

    odd-first : below.low % 2 ≡ 1 → IsMade joined None (slice_get (sheets_of below.parts) 0) (slice_get above.parts 0)
    odd-first odd =
        let low = over.low in
        made-from None (slice_get (sheets_of below.parts) 0) 0
        (ap (option_map part_sheet) (at-before below (2 * (above.low + 0)) (omega (arith, low, odd))))
        (below-sheet (2 * (above.low + 0) + 1) (omega (arith, low, odd)) ∙ ap (slice_get (sheets_of below.parts)) (omega (arith, low, odd)))

    odd-next : below.low % 2 ≡ 1 → (q : ℕ) → IsMade joined (slice_get (sheets_of below.parts) (suc (2 * q))) (slice_get (sheets_of below.parts) (suc (2 * q + 1))) (slice_get above.parts (suc q))
    odd-next odd q =
        let low = over.low in
        made-from (slice_get (sheets_of below.parts) (suc (2 * q))) (slice_get (sheets_of below.parts) (suc (2 * q + 1))) (suc q)
        (below-sheet (2 * (above.low + suc q)) (omega (arith, low, odd)) ∙ ap (slice_get (sheets_of below.parts)) (omega (arith, low, odd)))
        (below-sheet (2 * (above.low + suc q) + 1) (omega (arith, low, odd)) ∙ ap (slice_get (sheets_of below.parts)) (omega (arith, low, odd)))

  shared-first : (below : List (SheetOf V)) (parts : List (Part J V M)) → IsMade joined None (slice_get below 0) (slice_get parts 0) → ((q : ℕ) → IsMade joined (slice_get below (suc (2 * q))) (slice_get below (suc (2 * q + 1))) (slice_get parts (suc q)))
      → ((below ≡ []) × (parts ≡ [])) ⊎ ((a : SheetOf V) × (bs : List (SheetOf V)) × (ps : List (Part J V M)) × (below ≡ a ∷ bs) × (parts ≡ Shared a ∷ ps) × ArePaired bs ps)
  shared-first [] [] first next = inl (refl, refl)
  shared-first [] (p ∷ ps) first next = absurd (some-none p first)
  shared-first (a ∷ bs) [] first next = absurd (none-some {X = Part J V M} (Shared a) first)
  shared-first (a ∷ bs) (p ∷ ps) first next = inr (a, bs, ps, refl, ap (λ (x : Part J V M). x ∷ ps) (same-some p (Shared a) first), next)

  pub over-few : (digest_of : PairOf V → List ℕ) (below above : Row J V M) → IsOver joined below above → length (parts_pins digest_of above.parts) + length above.parts ≤ length (sheets_of below.parts)
  over-few digest_of below above over = elim (parity below.low) [
    | inl even ↦ paired-few digest_of (sheets_of below.parts) above.parts (even-paired below above over even)
    | inr odd ↦ elim (shared-first (sheets_of below.parts) above.parts (odd-first below above over odd) (odd-next below above over odd)) [
      | inl none ↦ subst (λ (ps : List (Part J V M)). length (parts_pins digest_of ps) + length ps ≤ length (sheets_of below.parts)) (sym none.1) (omega arith)
      | inr some ↦
          let rest = paired-few digest_of some.1 some.2 some.5 in
          let n = ap length some.3 in
          subst (λ (ps : List (Part J V M)). length (parts_pins digest_of ps) + length ps ≤ length (sheets_of below.parts)) (sym some.4) (omega (arith, rest, n))
    ]
  ]

  module _ (good : ℕ → V → Type 0) (setting : ℕ) (laws : IsGoodJoin (good setting) (joined setting)) (leaves : List (SheetOf V)) (all : All (IsLeaf good setting) leaves) where
    groups-over : (below above : Row J V M) → IsOver joined below above → Groups joined setting (sheets_of below.parts) leaves → Groups joined setting (sheets_of above.parts) leaves
    groups-over below above over g = elim (parity below.low) [
      | inl even ↦ groups-paired good setting laws (sheets_of below.parts) above.parts leaves (even-paired below above over even) all g
      | inr odd ↦ elim (shared-first (sheets_of below.parts) above.parts (odd-first below above over odd) (odd-next below above over odd)) [
        | inl none ↦ subst (λ (ps : List (Part J V M)). Groups joined setting (sheets_of ps) leaves) (sym none.1) (subst (λ (ss : List (SheetOf V)). Groups joined setting ss leaves) none.0 g)
        | inr some ↦
            let h = subst (λ (ss : List (SheetOf V)). Groups joined setting ss leaves) some.3 g in
            let all_parts : All (IsLeaf good setting) (h.0 ++ h.1) = subst (All (IsLeaf good setting)) h.2 all in
            subst (λ (ps : List (Part J V M)). Groups joined setting (sheets_of ps) leaves) (sym some.4)
            (h.0, h.1, h.2, h.3, groups-paired good setting laws some.1 some.2 h.1 some.5 (all-right (IsLeaf good setting) h.0 h.1 all_parts) h.4)
      ]
    ]

    pub groups-tower : (height : ℕ) (rows : ℕ → Row J V M) → ((k : ℕ) → k < height → IsOver joined (rows k) (rows (suc k))) → Groups joined setting (sheets_of (rows 0).parts) leaves → (k : ℕ) → k ≤ height → Groups joined setting (sheets_of (rows k).parts) leaves
    groups-tower height rows over g zero le = g
    groups-tower height rows over g (suc k) le = groups-over (rows k) (rows (suc k)) (over k (omega (arith, le))) (groups-tower height rows over g k (omega (arith, le)))

  -- The last row of a tower has at most one node.
  end-fits : (height : ℕ) (rows : ℕ → Row J V M) → ((k : ℕ) → k < height → IsOver joined (rows k) (rows (suc k))) → (rows 0).low + length (rows 0).parts ≤ 2 ^ height → (k : ℕ) → k ≤ height → 0 < length (rows k).parts → (rows k).low + length (rows k).parts ≤ 2 ^ (height - k)
  end-fits height rows over fits zero le some = let e : height ≡ height - zero = omega arith in subst (λ (n : ℕ). (rows 0).low + length (rows 0).parts ≤ 2 ^ n) e fits
  end-fits height rows over fits (suc k) le some =
      let up = over k (omega (arith, le)) in
      let most = over-most joined (rows k) (rows (suc k)) up some in
      let none = over-empty joined (rows k) (rows (suc k)) up in
      let e : height - k ≡ suc (height - suc k) = omega (arith, le) in
      let twice : 2 ^ (height - k) ≡ 2 ^ (height - suc k) * 2 = ap (λ (n : ℕ). 2 ^ n) e ∙ pow-suc 2 (height - suc k) in
      elim (cases_eq (length (rows k).parts) 0) [
        | inl z ↦ (let n = none z in absurd (omega (arith, n, some)))
        | inr off ↦
            let before = end-fits height rows over fits k (omega (arith, le)) (omega (arith, off)) in
            omega (arith, before, most, twice)
      ]

  pub top-one : (height : ℕ) (rows : ℕ → Row J V M) → IsTower joined height rows → length (rows height).parts ≤ 1
  top-one height rows tower = elim (cases_eq (length (rows height).parts) 0) [
    | inl z ↦ omega (arith, z)
    | inr off ↦
        let fits = end-fits height rows tower.over tower.fits height (omega arith) (omega (arith, off)) in
        let e : height - height ≡ 0 = omega arith in
        let one : 2 ^ (height - height) ≡ 1 = ap (λ (n : ℕ). 2 ^ n) e in
        omega (arith, fits, one)
  ]

  -- The node of the last row is the merge of all leaves.
  pub tower-root : (good : ℕ → V → Type 0) (setting : ℕ) → IsGoodJoin (good setting) (joined setting) → (height : ℕ) (rows : ℕ → Row J V M) → IsTower joined height rows → All (IsLeaf good setting) (sheets_of (rows 0).parts)
      → IsMergeOver joined setting (tables_of (sheets_of (rows 0).parts)) (option_map part_sheet (slice_get (rows height).parts 0))
  tower-root good setting laws height rows tower all =
      root_of (rows height).parts (top-one height rows tower)
      (groups-tower good setting laws (sheets_of (rows 0).parts) all height rows tower.over (groups-leaves joined good setting laws (sheets_of (rows 0).parts) all) height (omega arith))
    where
      root_of : (parts : List (Part J V M)) → length parts ≤ 1 → Groups joined setting (sheets_of parts) (sheets_of (rows 0).parts) → IsMergeOver joined setting (tables_of (sheets_of (rows 0).parts)) (option_map part_sheet (slice_get parts 0))
      root_of [] le g = ap tables_of g
      root_of (p ∷ []) le g =
          let whole : sheets_of (rows 0).parts ≡ g.0 = g.2 ∙ ap (λ (xs : List (SheetOf V)). g.0 ++ xs) g.4 ∙ append-nil g.0 in
          subst (λ (ss : List (SheetOf V)). IsMergeOver joined setting (tables_of ss) (Some (part_sheet p))) (sym whole) g.3
      root_of (p ∷ (q ∷ parts)) le g = absurd (omega (arith, le))

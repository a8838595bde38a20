-- The draft of the leaves, from which those of all levels are made.
use Rattle.std.proofs.Common.{◌≡◌, ◌⊎◌, inl, inr, ℕ, suc, zero, ◌+◌, ◌-◌, ◌*◌, ◌^◌, ◌<◌, ◌≤◌, ◌||◌, arith, sym, ap, ◌∙◌, refl, subst, List, [], ◌∷◌, ◌++◌, length, length-take, length-drop, take, drop, set, map, get_or, Bool, false}
use Rattle.std.specs.List.{All}
use Rattle.std.specs.List.Sorted.{IsStrictlyIncreasing}
use Rattle.std.proofs.lemmas.Bool.{cases_lt}
use Rattle.std.proofs.lemmas.List.{length-map, map-append, drop-map, take-map, take-append-drop, map-set, get_or-map, take_all}
use Rattle.std.proofs.lemmas.List.Elements.{All-append, All-set, All-take, All-drop, All-nil, All-head, All-tail, All-cons}
use Rattle.sheets.specs.Sheets.{SheetOf}
use Rattle.job_laws.specs.declared.meter.Counts.{Counts}
use Rattle.job_laws.specs.Counted.{RoseBy}
use Rattle.sheets.specs.United.{tables_of}
use Rattle.record_text.specs.Shifts.{put_at}
use Rattle.tree_laws.specs.Pairs.{PairOf}
use Rattle.tree_laws.specs.Trees.{IsLeaf, IsWithin}
use Rattle.tree_laws.proofs.LeafLaws.{all-within}
use Rattle.folding_tree.specs.declared.part.Part.{Part}
use Rattle.folding_tree.specs.declared.part.Part.TheVariants.{Shared}
use Rattle.folding_tree.specs.declared.span.Span.{Span}
use Rattle.folding_tree.specs.Levels.{Row, Ahead, row_after, parts_after, part_sheet, parts_loose, parts_pins, ahead_loose, sheets_of, IsPlain, IsFit, IsOver, IsAligned, IsBegun, IsTower, EachSheet, no_ahead}
use Rattle.folding_tree.specs.Folding.{IsMoved}
use Rattle.folding_tree.proofs.RowLaws.{after-length}
use Rattle.folding_tree.proofs.SheetLaws.{each-all}

-- Items put at places.
pub put-take : {X : Type 0} (ps : List ℕ) (news xs : List X) → put_at ps (take (length ps) news) xs ≡ put_at ps news xs
put-take [] news xs = refl
put-take (p ∷ ps) [] xs = refl
put-take (p ∷ ps) (y ∷ news) xs = put-take ps news (set xs p y)

pub map-put : {X Y : Type 0} (f : X → Y) (ps : List ℕ) (news xs : List X) → map f (put_at ps news xs) ≡ put_at ps (map f news) (map f xs)
map-put f [] news xs = refl
map-put f (p ∷ ps) [] xs = refl
map-put f (p ∷ ps) (y ∷ news) xs = map-put f ps news (set xs p y) ∙ ap (put_at ps (map f news)) (map-set f xs p y)

pub all-put : {X : Type 0} (P : X → Type 0) (ps : List ℕ) (news xs : List X) → All P news → All P xs → All P (put_at ps news xs)
all-put P [] news xs a b = b
all-put P (p ∷ ps) [] xs a b = b
all-put P (p ∷ ps) (y ∷ news) xs a b = all-put P ps news (set xs p y) (All-tail P y news a) (All-set P xs p y (All-head P y news a) b)

-- Places that are moved, and moved back.
moved-back : (low : ℕ) (ps : List ℕ) → map (λ (p : ℕ). p - low) (map (λ (p : ℕ). low + p) ps) ≡ ps
moved-back low [] = refl
moved-back low (p ∷ ps) = let e : low + p - low ≡ p = omega arith in ap (λ (x : ℕ). x ∷ map (λ (p : ℕ). p - low) (map (λ (p : ℕ). low + p) ps)) e ∙ ap (λ (xs : List ℕ). p ∷ xs) (moved-back low ps)

get-moved : (low : ℕ) (ps : List ℕ) (k : ℕ) → k < length ps → get_or (map (λ (p : ℕ). low + p) ps) k 0 ≡ low + get_or ps k 0
get-moved low [] k lt = absurd (omega (arith, lt))
get-moved low (p ∷ ps) zero lt = refl
get-moved low (p ∷ ps) (suc k) lt = get-moved low ps k (omega (arith, lt))

length-moved : (low : ℕ) (ps : List ℕ) → length (map (λ (p : ℕ). low + p) ps) ≡ length ps
length-moved low [] = refl
length-moved low (p ∷ ps) = ap suc (length-moved low ps)

module _ (J V M : Type 0) where
  shared-sheets : (ss : List (SheetOf V)) → map (part_sheet {J = J} {V = V} {M = M}) (map Shared ss) ≡ ss
  shared-sheets [] = refl
  shared-sheets (s ∷ ss) = ap (λ (xs : List (SheetOf V)). s ∷ xs) (shared-sheets ss)

  shared-plain : (ss : List (SheetOf V)) → All (IsPlain {J = J} {V = V} {M = M}) (map Shared ss)
  shared-plain [] = All-nil IsPlain
  shared-plain (s ∷ ss) = All-cons IsPlain (Shared s) (map Shared ss) tt (shared-plain ss)

  shared-tight : (ss : List (SheetOf V)) → parts_loose {J = J} {V = V} {M = M} (map Shared ss) ≡ false
  shared-tight [] = refl
  shared-tight (s ∷ ss) = shared-tight ss

  pub shared-pins : (digest_of : PairOf V → List ℕ) (ss : List (SheetOf V)) → parts_pins {J = J} {V = V} {M = M} digest_of (map Shared ss) ≡ []
  shared-pins digest_of [] = refl
  shared-pins digest_of (s ∷ ss) = shared-pins digest_of ss

-- Leaves that are shared in two parts.
pub leaves-at : {V : Type 0} (good : ℕ → V → Type 0) (setting n : ℕ) (news : List (SheetOf V)) → All (λ (s : SheetOf V). IsLeaf good s.setting s) (take n news) → All (λ (s : SheetOf V). IsLeaf good s.setting s) (drop n news) → All (λ (s : SheetOf V). s.setting ≡ setting) news → All (IsLeaf good setting) news
leaves-at good setting n news a b same =
    let all = subst (All (λ s. IsLeaf good s.setting s)) (take-append-drop n news) (All-append (λ s. IsLeaf good s.setting s) (take n news) (drop n news) a b) in
    λ k d lt. subst (λ (m : ℕ). IsLeaf good m (get_or news k d)) (same k d lt) (all k d lt)

module _ {J V M : Type 0} (row : Row J V M) (from : ℕ) (kept whole : Span) (changed : List ℕ) (news : List (SheetOf V)) where
  -- The draft of the leaves.
  abbrev pub begun : Ahead J V M
  begun = record { from = from; low = kept.low; mid = kept.high; high = whole.high; places = map (λ (p : ℕ). kept.low + p) changed; changed = map Shared (take (length changed) news); fresh = map Shared (drop (length changed) news) }

  -- It is so by its parts.
  pub begun-is : (a : Ahead J V M) → (a.from ≡ from) × (a.low ≡ kept.low) × (a.mid ≡ kept.high) × (a.high ≡ whole.high) → a.places ≡ map (λ (p : ℕ). kept.low + p) changed → a.changed ≡ map Shared (take (length changed) news) → a.fresh ≡ map Shared (drop (length changed) news) → a ≡ begun
  begun-is a numbers places_are changed_are fresh_are = λ i. record { from = numbers.0 i; low = numbers.1 i; mid = numbers.2 i; high = numbers.3 i; places = places_are i; changed = changed_are i; fresh = fresh_are i }

  module _ (order : kept.low ≤ kept.high) (grown : kept.high ≤ whole.high) (moved : kept.low < kept.high → IsMoved row from kept) (within : All (λ (p : ℕ). kept.low + p < kept.high) changed) (rising : IsStrictlyIncreasing changed) (count : kept.high + length news ≡ whole.high + length changed) where
    enough-news : length changed ≤ length news
    enough-news = omega (arith, count, grown)

    pub begun-fit : IsFit row begun
    begun-fit = record {
      kept = order;
      fresh = (let f : SheetOf V → Part J V M = Shared in let a = length-map (drop (length changed) news) f in let b = length-drop (length changed) news in let e = enough-news in omega (arith, a, b, e, count));
      enough = elim (cases_lt kept.low kept.high) [
        | inl some ↦ (let m = moved some in let a = m.0 in let b = m.1 in omega (arith, a, b))
        | inr none ↦ omega (arith, none)
      ];
      within = λ k d lt.
          let n = length-moved kept.low changed in
          let at = get_or-map (λ (p : ℕ). kept.low + p) changed k 0 d (omega (arith, lt, n)) in
          let below = within k 0 (omega (arith, lt, n)) in
          (omega (arith, at), omega (arith, at, below));
      rising = λ k lt.
          let n = length-moved kept.low changed in
          let here = get-moved kept.low changed k (omega (arith, lt, n)) in
          let next = get-moved kept.low changed (k + 1) (omega (arith, lt, n)) in
          let up = rising k (omega (arith, lt, n)) in
          omega (arith, here, next, up);
      changed =
          let f : SheetOf V → Part J V M = Shared in
          let a = length-map (take (length changed) news) f in
          let b = length-take (length changed) news in
          let n = length-moved kept.low changed in
          let e = enough-news in
          omega (arith, a, b, n, e);
    }

    pub begun-aligned : kept.high ≤ 2 ^ kept.height → (kept.low ≡ kept.high → kept.low ≡ 0) → IsAligned kept.height 0 row begun
    begun-aligned small none =
        let e : kept.height - 0 ≡ kept.height = omega arith in
        record {
          fit = begun-fit;
          stays = λ some.
              let m = moved some in
              let b = m.1 in
              let j = m.2 in
              (m.0, omega (arith, b), (j.0, j.1 ∙ ap (λ (h : ℕ). kept.low + j.0 * 2 ^ h) (sym e)));
          last = λ some all. (moved some).1;
          small = subst (λ (h : ℕ). kept.high ≤ 2 ^ h) (sym e) small;
          none = λ all. none (omega (arith, all, order, grown));
        }

    -- The leaves after it.
    pub begun-leaves : sheets_of (parts_after row begun) ≡ put_at changed news (take (kept.high - kept.low) (drop (from - row.low) (sheets_of row.parts))) ++ drop (length changed) news
    begun-leaves =
        let f : Part J V M → SheetOf V = part_sheet in
        let places : List ℕ = map (λ (p : ℕ). p - kept.low) (map (λ (p : ℕ). kept.low + p) changed) in
        let firsts : List (Part J V M) = map Shared (take (length changed) news) in
        let rest : List (Part J V M) = map Shared (drop (length changed) news) in
        let stay : List (Part J V M) = take (kept.high - kept.low) (drop (from - row.low) row.parts) in
        let stay_is : map f stay ≡ take (kept.high - kept.low) (drop (from - row.low) (map f row.parts)) = sym (take-map f (kept.high - kept.low) (drop (from - row.low) row.parts)) ∙ ap (take (kept.high - kept.low)) (sym (drop-map f (from - row.low) row.parts)) in
        map-append f (put_at places firsts stay) rest
        ∙ ap (λ (xs : List (SheetOf V)). xs ++ map f rest) (map-put f places firsts stay)
        ∙ ap (λ (xs : List (SheetOf V)). put_at places (map f firsts) (map f stay) ++ xs) (shared-sheets J V M (drop (length changed) news))
        ∙ ap (λ (xs : List (SheetOf V)). put_at places xs (map f stay) ++ drop (length changed) news) (shared-sheets J V M (take (length changed) news))
        ∙ ap (λ (ps : List ℕ). put_at ps (take (length changed) news) (map f stay) ++ drop (length changed) news) (moved-back kept.low changed)
        ∙ ap (λ (xs : List (SheetOf V)). xs ++ drop (length changed) news) (put-take changed news (map f stay))
        ∙ ap (λ (xs : List (SheetOf V)). put_at changed news xs ++ drop (length changed) news) stay_is

    pub begun-plain : All IsPlain row.parts → All IsPlain (parts_after row begun)
    begun-plain plain =
        let places : List ℕ = map (λ (p : ℕ). p - kept.low) (map (λ (p : ℕ). kept.low + p) changed) in
        let firsts : List (Part J V M) = map Shared (take (length changed) news) in
        let rest : List (Part J V M) = map Shared (drop (length changed) news) in
        let stay : List (Part J V M) = take (kept.high - kept.low) (drop (from - row.low) row.parts) in
        All-append IsPlain (put_at places firsts stay) rest
        (all-put IsPlain places firsts stay (shared-plain J V M (take (length changed) news)) (All-take IsPlain (kept.high - kept.low) (drop (from - row.low) row.parts) (All-drop IsPlain (from - row.low) row.parts plain)))
        (shared-plain J V M (drop (length changed) news))

    pub begun-sound : (P : SheetOf V → Type 0) → All P news → All P (sheets_of row.parts) → All P (sheets_of (parts_after row begun))
    begun-sound P fresh old =
        subst (All P) (sym begun-leaves)
        (All-append P (put_at changed news (take (kept.high - kept.low) (drop (from - row.low) (sheets_of row.parts)))) (drop (length changed) news)
        (all-put P changed news (take (kept.high - kept.low) (drop (from - row.low) (sheets_of row.parts))) fresh (All-take P (kept.high - kept.low) (drop (from - row.low) (sheets_of row.parts)) (All-drop P (from - row.low) (sheets_of row.parts) old)))
        (All-drop P (length changed) news fresh))

    -- Each key of a leaf is in the tables of all of them.
    pub begun-within : EachSheet (λ (s : SheetOf V). IsWithin s.entries (tables_of (sheets_of (parts_after row begun)))) (row_after row begun)
    begun-within = each-all (λ (s : SheetOf V). IsWithin s.entries (tables_of (sheets_of (parts_after row begun)))) (row_after row begun) (all-within (sheets_of (parts_after row begun)))

  pub begun-tight : ahead_loose begun ≡ false
  begun-tight =
      ap (λ (b : Bool). b || parts_loose {J = J} {V = V} {M = M} (map Shared (drop (length changed) news))) (shared-tight J V M (take (length changed) news))
      ∙ shared-tight J V M (drop (length changed) news)

-- The rows before and after the draft of the leaves, if levels were added.
module _ {J V M : Type 0} (joined : ℕ → V → V → V) (rows deep : ℕ → Row J V M) (same : (k : ℕ) → deep k ≡ rows k) (from : ℕ) (kept whole : Span) (changed : List ℕ) (news : List (SheetOf V)) (leaves : Ahead J V M) (is : leaves ≡ begun (rows 0) from kept whole changed news)
    (order : kept.low ≤ kept.high) (grown : kept.high ≤ whole.high) (moved : kept.low < kept.high → IsMoved (rows 0) from kept) (within : All (λ (p : ℕ). kept.low + p < kept.high) changed) (rising : IsStrictlyIncreasing changed) (count : kept.high + length news ≡ whole.high + length changed) where
  abbrev first : Row J V M
  first = row_after (rows 0) (begun (rows 0) from kept whole changed news)

  first_is : row_after (deep 0) leaves ≡ first
  first_is = ap (λ (r : Row J V M). row_after r leaves) (same 0) ∙ ap (row_after (rows 0)) is

  pub build-begun : kept.high ≤ 2 ^ kept.height → (kept.low ≡ kept.high → kept.low ≡ 0) → kept.height ≤ whole.height → ((k : ℕ) → k < kept.height → IsOver joined (rows k) (rows (suc k))) → (kept.height ≡ whole.height) ⊎ (kept.high < whole.high) → IsBegun joined whole.height deep leaves
  build-begun small none lower over grows = record {
    folded = kept.height;
    lower = lower;
    over = λ k lt. subst (λ (r : Row J V M). IsOver joined r (deep (suc k))) (sym (same k)) (subst (IsOver joined (rows k)) (sym (same (suc k))) (over k lt));
    aligned = subst (λ (r : Row J V M). IsAligned kept.height 0 r leaves) (sym (same 0)) (subst (IsAligned kept.height 0 (rows 0)) (sym is) (begun-aligned (rows 0) from kept whole changed news order grown moved within rising count small none));
    grows = subst (λ (a : Ahead J V M). (kept.height ≡ whole.height) ⊎ (a.mid < a.high)) (sym is) grows;
  }

  pub build-each : (P : SheetOf V → Type 0) → All P news → All P (sheets_of (rows 0).parts) → EachSheet P (row_after (deep 0) leaves)
  build-each P fresh old = subst (EachSheet P) (sym first_is) (each-all P first (begun-sound (rows 0) from kept whole changed news order grown moved within rising count P fresh old))

  pub build-within : EachSheet (λ (s : SheetOf V). IsWithin s.entries (tables_of (put_at changed news (take (kept.high - kept.low) (drop (from - (rows 0).low) (sheets_of (rows 0).parts))) ++ drop (length changed) news))) (row_after (deep 0) leaves)
  build-within =
      subst (EachSheet (λ (s : SheetOf V). IsWithin s.entries (tables_of (put_at changed news (take (kept.high - kept.low) (drop (from - (rows 0).low) (sheets_of (rows 0).parts))) ++ drop (length changed) news)))) (sym first_is)
      (subst (λ (ss : List (SheetOf V)). EachSheet (λ (s : SheetOf V). IsWithin s.entries (tables_of ss)) first) (begun-leaves (rows 0) from kept whole changed news order grown moved within rising count) (begun-within (rows 0) from kept whole changed news order grown moved within rising count))

  pub build-tight : ahead_loose leaves ≡ false
  build-tight = ap ahead_loose is ∙ begun-tight (rows 0) from kept whole changed news

  pub build-counted : (keys : ℕ) (x y : Counts) → (let n = leaves.high - leaves.mid + (2 + length leaves.places) * whole.height in RoseBy 0 n (n * keys) x y) → (let n = whole.high - kept.high + (2 + length changed) * whole.height in RoseBy 0 n (n * keys) x y)
  build-counted keys x y h =
      subst (λ (l : ℕ). let n = whole.high - kept.high + (2 + l) * whole.height in RoseBy 0 n (n * keys) x y) (length-moved kept.low changed)
      (subst (λ (a : Ahead J V M). let n = a.high - a.mid + (2 + length a.places) * whole.height in RoseBy 0 n (n * keys) x y) is h)

  -- The tree that all drafts make.
  module _ (last : ℕ → Row J V M) (like : (k : ℕ) → last k ≡ rows k) (aheads : ℕ → Ahead J V M) (begins : aheads 0 ≡ leaves) where
    end_is : row_after (last 0) (aheads 0) ≡ first
    end_is = ap (λ (r : Row J V M). row_after r (aheads 0)) (like 0) ∙ ap (row_after (rows 0)) (begins ∙ is)

    pub build-leaves : sheets_of (row_after (last 0) (aheads 0)).parts ≡ put_at changed news (take (kept.high - kept.low) (drop (from - (rows 0).low) (sheets_of (rows 0).parts))) ++ drop (length changed) news
    build-leaves = ap (λ (r : Row J V M). sheets_of r.parts) end_is ∙ begun-leaves (rows 0) from kept whole changed news order grown moved within rising count

    pub build-sound : (P : SheetOf V → Type 0) → All P news → All P (sheets_of (rows 0).parts) → All P (sheets_of (row_after (last 0) (aheads 0)).parts)
    build-sound P fresh old = subst (λ (r : Row J V M). All P (sheets_of r.parts)) (sym end_is) (begun-sound (rows 0) from kept whole changed news order grown moved within rising count P fresh old)

    pub build-low : (row_after (last 0) (aheads 0)).low ≡ kept.low
    build-low = ap (λ (r : Row J V M). r.low) end_is

    pub build-high : (row_after (last 0) (aheads 0)).low + length (row_after (last 0) (aheads 0)).parts ≡ whole.high
    build-high =
        ap (λ (r : Row J V M). r.low + length r.parts) end_is
        ∙ after-length (rows 0) (begun (rows 0) from kept whole changed news) (begun-fit (rows 0) from kept whole changed news order grown moved within rising count)

    pub build-tower : All IsPlain (rows 0).parts → whole.high ≤ 2 ^ whole.height → ((k : ℕ) → k < whole.height → IsOver joined (row_after (last k) (aheads k)) (row_after (last (suc k)) (aheads (suc k)))) → ((k : ℕ) → whole.height < k → aheads k ≡ no_ahead) → IsTower joined whole.height (λ k. row_after (last k) (aheads k))
    build-tower plain fits over past = record {
      over = over;
      above = λ k lt. ap (λ (a : Ahead J V M). (row_after (last k) a).parts) (past k lt);
      plain = subst (λ (r : Row J V M). All IsPlain r.parts) (sym end_is) (begun-plain (rows 0) from kept whole changed news order grown moved within rising count plain);
      fits =
          let e = after-length (rows 0) (begun (rows 0) from kept whole changed news) (begun-fit (rows 0) from kept whole changed news order grown moved within rising count) in
          let at : (row_after (last 0) (aheads 0)).low + length (row_after (last 0) (aheads 0)).parts ≡ first.low + length first.parts = ap (λ (r : Row J V M). r.low + length r.parts) end_is in
          omega (arith, e, at, fits);
    }

-- The leaves that stay, if a number of them leave.
pub kept-whole : {X : Type 0} (low gone from a b : ℕ) (xs : List X) → from ≡ low + gone → b ≡ a + (length xs - gone) → take (b - a) (drop (from - low) xs) ≡ drop gone xs
kept-whole low gone from a b xs f c =
    let d : from - low ≡ gone = omega (arith, f) in
    let n = length-drop gone xs in
    ap (λ (k : ℕ). take (b - a) (drop k xs)) d ∙ take_all (b - a) (drop gone xs) (omega (arith, c, n))

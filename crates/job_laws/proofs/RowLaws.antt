-- How a row of meters increases: by nothing, by one meter in its place, and by one call after another.
use Rattle.std.proofs.Common.{◌≡◌, ◌≢◌, ℕ, zero, suc, ◌+◌, ◌<◌, ◌≤◌, ◌==◌, true, false, List, [], ◌∷◌, length, refl, sym, ap, subst, ◌∙◌, arith}
use Rattle.std.proofs.lemmas.List.{get_or-set_same, get_or-set_other, get_or_read}
use Rattle.std.specs.Prelude.{slice_index_or, slice_set}
use Rattle.std.proofs.lemmas.Bool.Decides.{nat_tests}
use Rattle.job_laws.specs.declared.meter.Counts.{Counts}
use Rattle.job_laws.specs.Rows.{Row, sum_of, LaneRose, PartRose, RowRose, WorkedWithin}

-- what holds of the element at a place, after one is replaced
pub set_at : {M : Type 0} (P : M → Type 0) (xs : List M) (k : ℕ) (y : M) → k < length xs → (i : ℕ) (d : M) → (k ≡ i → P y) → (i ≢ k → P (slice_index_or xs i d)) → P (slice_index_or (slice_set xs k y) i d)
set_at P xs k y within i d here there =
    elim (i == k) as (λ b. i == k ≡ b → P (slice_index_or (slice_set xs k y) i d)) [
      | true ↦ λ eq.
          let at : k ≡ i = grind (arith, nat_tests) in
          subst (λ n. P (slice_index_or (slice_set xs k y) n d)) at (subst P (sym (get_or-set_same xs k y d within)) (here at))
      | false ↦ λ other.
          let differ : i ≢ k = grind (arith, nat_tests) in
          subst P (sym (get_or-set_other xs k i y d differ)) (there differ)
    ] refl

-- what holds of each element by its place also holds after one is replaced, if it holds of the new one
pub replaced : {M : Type 0} (rose : M → M → Type 0) → ((x : M) → rose x x) → (xs : List M) (k : ℕ) (x y : M) → k < length xs → x ≡ slice_index_or xs k x → rose x y
    → (i : ℕ) (d : M) → rose (slice_index_or xs i d) (slice_index_or (slice_set xs k y) i d)
replaced rose same xs k x y within at here i d =
    set_at (rose (slice_index_or xs i d)) xs k y within i d
    (λ eq. subst (λ n. rose (slice_index_or xs n d) y) eq (subst (λ z. rose z y) (get_or_read xs k x within at d) here))
    (λ differ. same (slice_index_or xs i d))

-- the sum of a count after one meter is replaced
pub sum_of-set : {M : Type 0} (count : M → ℕ) (ms : List M) (k : ℕ) (m d : M) → k < length ms → sum_of count (slice_set ms k m) + count (slice_index_or ms k d) ≡ sum_of count ms + count m
sum_of-set count [] k m d h = absurd (omega (arith, h))
sum_of-set count (x ∷ ms) zero m d h = omega arith
sum_of-set count (x ∷ ms) (suc k) m d h = let rest = sum_of-set count ms k m d (omega (arith, h)) in omega (arith, rest)

-- if one meter's count increased at most by a number, so did the sum
pub sum_rose : {M : Type 0} (count : M → ℕ) (most : ℕ) (ms : List M) (k : ℕ) (m n : M) → k < length ms → m ≡ slice_index_or ms k m → count n ≤ count m + most → sum_of count (slice_set ms k n) ≤ sum_of count ms + most
sum_rose count most ms k m n within at rose =
    let all = sum_of-set count ms k n m within in
    let here = ap count at in
    omega (arith, all, here, rose)

module _ {M : Type 0} (counts : M → Counts) where
  -- nothing was counted
  pub row_same : (r : Row M) → RowRose counts r r
  row_same r = record { lanes = λ i d. (omega arith, refl, omega arith); parts = λ i d. (refl, omega arith, omega arith) }

  -- one call counted, and then another
  pub row_then : (r s t : Row M) → RowRose counts r s → RowRose counts s t → RowRose counts r t
  row_then r s t h k = record {
    lanes = λ i d.
        let a = h.lanes i d in let b = k.lanes i d in
        let a0 = a.0 in let b0 = b.0 in let a2 = a.2 in let b2 = b.2 in
        (omega (arith, a0, b0), b.1 ∙ a.1, omega (arith, a2, b2));
    parts = λ i d.
        let a = h.parts i d in let b = k.parts i d in
        let a1 = a.1 in let b1 = b.1 in let a2 = a.2 in let b2 = b.2 in
        (b.0 ∙ a.0, omega (arith, a1, b1), omega (arith, a2, b2));
  }

  -- the meter of lane k counted
  pub lane_counted : (r s : Row M) (k : ℕ) (m n : M) → k < length r.lanes → m ≡ slice_index_or r.lanes k m → LaneRose (counts m) (counts n) → s.lanes ≡ slice_set r.lanes k n → s.parts ≡ r.parts → RowRose counts r s
  lane_counted r s k m n within at rose lanes parts = record {
    lanes = λ i d. subst (λ (l : List M). LaneRose (counts (slice_index_or r.lanes i d)) (counts (slice_index_or l i d))) (sym lanes)
        (replaced (λ x y. LaneRose (counts x) (counts y)) (λ x. (omega arith, refl, omega arith)) r.lanes k m n within at rose i d);
    parts = λ i d. subst (λ (l : List M). PartRose (counts (slice_index_or r.parts i d)) (counts (slice_index_or l i d))) (sym parts) (refl, omega arith, omega arith);
  }

  -- the meter of part k counted
  pub part_counted : (r s : Row M) (k : ℕ) (m n : M) → k < length r.parts → m ≡ slice_index_or r.parts k m → PartRose (counts m) (counts n) → s.lanes ≡ r.lanes → s.parts ≡ slice_set r.parts k n → RowRose counts r s
  part_counted r s k m n within at rose lanes parts = record {
    lanes = λ i d. subst (λ (l : List M). LaneRose (counts (slice_index_or r.lanes i d)) (counts (slice_index_or l i d))) (sym lanes) (omega arith, refl, omega arith);
    parts = λ i d. subst (λ (l : List M). PartRose (counts (slice_index_or r.parts i d)) (counts (slice_index_or l i d))) (sym parts)
        (replaced (λ x y. PartRose (counts x) (counts y)) (λ x. (refl, omega arith, omega arith)) r.parts k m n within at rose i d);
  }

  -- no work was done
  pub worked_none : (r : Row M) → WorkedWithin counts 0 0 r r
  worked_none r = record { lanes = omega arith; parts = λ i d. omega arith }

  -- there may be more
  pub worked_more : (records leaves all_records all_leaves : ℕ) (r s : Row M) → records ≤ all_records → leaves ≤ all_leaves → WorkedWithin counts records leaves r s → WorkedWithin counts all_records all_leaves r s
  worked_more records leaves all_records all_leaves r s p q h = record {
    lanes = let a = h.lanes in omega (arith, p, a);
    parts = λ i d. let a = h.parts i d in omega (arith, q, a);
  }

  -- one call did its work, and then another
  pub worked_then : (records leaves more_records more_leaves : ℕ) (r s t : Row M) → WorkedWithin counts records leaves r s → WorkedWithin counts more_records more_leaves s t → WorkedWithin counts (records + more_records) (leaves + more_leaves) r t
  worked_then records leaves more_records more_leaves r s t h k = record {
    lanes = let a = h.lanes in let b = k.lanes in omega (arith, a, b);
    parts = λ i d. let a = h.parts i d in let b = k.parts i d in omega (arith, a, b);
  }

  -- The parts before a place counted at most one merge each, and those from it on none.
  pub record MergedBefore (n : ℕ) (old new : List M) : Type 0 where
    pub before : (i : ℕ) (d : M) → (counts (slice_index_or new i d)).merges ≤ (counts (slice_index_or old i d)).merges + 1
    pub after : (i : ℕ) (d : M) → n ≤ i → (counts (slice_index_or new i d)).merges ≤ (counts (slice_index_or old i d)).merges

  -- no part counted a merge
  pub merged_none : (ms : List M) → MergedBefore 0 ms ms
  merged_none ms = record { before = λ i d. omega arith; after = λ i d far. omega arith }

  -- the part at the place counted a merge
  pub merged_next : (n : ℕ) (parts now : List M) (x y : M) → MergedBefore n parts now → n < length now → x ≡ slice_index_or now n x → (counts y).merges ≤ (counts x).merges + 1 → MergedBefore (n + 1) parts (slice_set now n y)
  merged_next n parts now x y h within at rose = record {
    before = λ i d. set_at (λ z. (counts z).merges ≤ (counts (slice_index_or parts i d)).merges + 1) now n y within i d
        (λ same.
        let was = h.after i d (omega (arith, same)) in
        let here = ap (λ z. (counts z).merges) (get_or_read now n x within at d) in
        let there = ap (λ (q : ℕ). (counts (slice_index_or now q d)).merges) same in
        omega (arith, was, here, there, rose))
        (λ differ. h.before i d);
    after = λ i d far. set_at (λ z. (counts z).merges ≤ (counts (slice_index_or parts i d)).merges) now n y within i d
        (λ same. absurd (omega (arith, far, same)))
        (λ differ. h.after i d (omega (arith, far)));
  }

  -- the lanes mapped a number of records, and the parts up to a place merged
  pub worked_by : (records n : ℕ) (r s : Row M) → sum_of (λ m. (counts m).maps) s.lanes ≤ sum_of (λ m. (counts m).maps) r.lanes + records → MergedBefore n r.parts s.parts → WorkedWithin counts records 1 r s
  worked_by records n r s mapped merged = record { lanes = mapped; parts = merged.before }

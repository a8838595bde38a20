-- What meters counted together, each at its place.
use Rattle.std.proofs.Common.{◌≡◌, ℕ, zero, suc, ◌+◌, ◌*◌, ◌<◌, ◌≤◌, List, [], ◌∷◌, ◌++◌, length, map, refl, ap, sym, ◌∙◌, arith}
use Rattle.std.specs.Prelude.{slice_index_or}
use Rattle.std.proofs.Math.Nat.{mul-add}
use Rattle.std.proofs.lemmas.Nat.{mul-le}
use Rattle.std.proofs.lemmas.List.Concat.{flat_map-append}
use Rattle.definitions.specs.Tables.{keys_of, table_of}
use Rattle.definitions.specs.Answer.{pairs_of}
use Rattle.job_laws.specs.Counted.{RoseWithin}
use Rattle.job_laws.specs.Meanings.{Meaning}
use Rattle.job_laws.specs.Rows.{sum_of}
use Rattle.marker_chunker.specs.Cuts.{joined}
use Rattle.sheets.specs.Parts.{sum_below, in_part, PartsShare}
use Rattle.sheets.specs.United.{end_to_end}
use Rattle.window_manager.specs.Windows.{Leaf}
use Rattle.tree_laws.specs.Trees.{distinct_keys}
use Rattle.run_engine.specs.Engines.{part_table}
use Rattle.run_engine.specs.Runs.{greatest}

below-first : (b : ℕ → ℕ) (n : ℕ) → sum_below b (suc n) ≡ b 0 + sum_below (λ k. b (suc k)) n
below-first b zero = omega arith
below-first b (suc n) =
    let h = below-first b n in
    omega (arith, h)

sum-same : {M : Type 0} (f : M → ℕ) (old new : List M) → length new ≡ length old → ((k : ℕ) (d : M) → slice_index_or new k d ≡ slice_index_or old k d) → sum_of f new ≡ sum_of f old
sum-same f [] [] count same = refl
sum-same f [] (n ∷ new) count same = absurd (omega (arith, count))
sum-same f (m ∷ old) [] count same = absurd (omega (arith, count))
sum-same f (m ∷ old) (n ∷ new) count same =
    let a = ap f (same 0 n) in
    let b = sum-same f old new (omega (arith, count)) (λ k d. same (suc k) d) in
    omega (arith, a, b)

-- The meters of the first places counted each within its bound, and all others stayed.
pub sum-rose : {M : Type 0} (f : M → ℕ) (b : ℕ → ℕ) (n : ℕ) (old new : List M) → n ≤ length old → length new ≡ length old
    → ((k : ℕ) (d e : M) → k < n → RoseWithin (b k) (f (slice_index_or old k d)) (f (slice_index_or new k e)))
    → ((k : ℕ) (d : M) → n ≤ k → slice_index_or new k d ≡ slice_index_or old k d)
    → RoseWithin (sum_below b n) (sum_of f old) (sum_of f new)
sum-rose f b zero old new le count rose others =
    let s = sum-same f old new count (λ k d. others k d (omega arith)) in
    (omega (arith, s), omega (arith, s))
sum-rose f b (suc n) [] new le count rose others = absurd (omega (arith, le))
sum-rose f b (suc n) (m ∷ old) [] le count rose others = absurd (omega (arith, count))
sum-rose f b (suc n) (m ∷ old) (o ∷ new) le count rose others =
    let a = rose 0 m o (omega arith) in
    let r = sum-rose f (λ k. b (suc k)) n old new (omega (arith, le)) (omega (arith, count)) (λ k d e lt. rose (suc k) d e (omega (arith, lt))) (λ k d h. others (suc k) d (omega (arith, h))) in
    let s = below-first b n in
    (omega (arith, a, r), omega (arith, a, r, s))

pub greatest-within : {A : Type 0} (f : A → ℕ) (xs : List A) (k : ℕ) (d : A) → k < length xs → f (slice_index_or xs k d) ≤ greatest (map f xs)
greatest-within f [] k d lt = absurd (omega (arith, lt))
greatest-within f (x ∷ xs) zero d lt = omega arith
greatest-within f (x ∷ xs) (suc k) d lt = let r = greatest-within f xs k d (omega (arith, lt)) in omega (arith, r)

-- Products with one factor within a bound.
pub below-scaled : (b d : ℕ → ℕ) (most n : ℕ) → ((k : ℕ) → k < n → b k ≤ most) → sum_below (λ k. b k * d k) n ≤ most * sum_below d n
below-scaled b d most zero less = omega arith
below-scaled b d most (suc n) less =
    let a = below-scaled b d most n (λ k lt. less k (omega (arith, lt))) in
    let p : b n * d n ≤ most * d n = mul-le (b n) (d n) most (d n) (less n (omega arith)) (omega arith) in
    let q = mul-add most (sum_below d n) (d n) in
    omega (arith, a, p, q)

-- The keys of the leaves are distributed over the parts.
module _ {V : Type 0} (m : Meaning V) where
  ends-are : (leaves : List Leaf) → end_to_end (map (pairs_of m.emits) leaves) ≡ pairs_of m.emits (joined leaves)
  ends-are [] = refl
  ends-are (l ∷ leaves) = ap (λ (ps : List (List ℕ × V)). pairs_of m.emits l ++ ps) (ends-are leaves) ∙ sym (flat_map-append m.emits l (joined leaves))

  tables-are : (parts part : ℕ) (leaves : List Leaf) → map (λ pairs. in_part parts part (table_of m.joined pairs)) (map (pairs_of m.emits) leaves) ≡ map (part_table m parts part) leaves
  tables-are parts part [] = refl
  tables-are parts part (l ∷ leaves) = ap (λ (ts : List (List (List ℕ × V))). part_table m parts part l ∷ ts) (tables-are parts part leaves)

  below-tables : (parts : ℕ) (leaves : List Leaf) (n : ℕ) → sum_below (λ part. length (keys_of (end_to_end (map (λ pairs. in_part parts part (table_of m.joined pairs)) (map (pairs_of m.emits) leaves))))) n ≡ sum_below (λ part. distinct_keys (map (part_table m parts part) leaves)) n
  below-tables parts leaves zero = refl
  below-tables parts leaves (suc n) =
      let a = below-tables parts leaves n in
      let b = ap (distinct_keys {V = V}) (tables-are parts n leaves) in
      omega (arith, a, b)

  pub keys-shared : PartsShare m.joined → (parts : ℕ) (leaves : List Leaf) → 1 ≤ parts → sum_below (λ part. distinct_keys (map (part_table m parts part) leaves)) parts ≡ length (keys_of (pairs_of m.emits (joined leaves)))
  keys-shared share parts leaves some = sym (below-tables parts leaves parts) ∙ share parts (map (pairs_of m.emits) leaves) some ∙ ap (λ (ps : List (List ℕ × V)). length (keys_of ps)) (ends-are leaves)

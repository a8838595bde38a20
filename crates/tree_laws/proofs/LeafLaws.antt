-- Leaves under merges: the merge over them, and what one merge more costs.
use Rattle.std.proofs.Common.{◌≡◌, ℕ, suc, zero, ◌+◌, ◌*◌, ◌<◌, ◌≤◌, List, [], ◌∷◌, ◌++◌, length, map, Option, Some, None, refl, sym, ap, subst, ◌∙◌, arith}
use Rattle.std.specs.List.{All}
use Rattle.std.proofs.lemmas.List.{map-append, length-map}
use Rattle.std.proofs.lemmas.List.Elements.{All-head, All-tail, All-cons, All-nil, All-weaker}
use Rattle.std.proofs.Math.Nat.{mul-le-mul_left}
use Rattle.definitions.specs.Tables.{IsRising, HasGoodValues, IsGoodJoin, merged, common_keys}
use Rattle.definitions.proofs.TableLaws.{IsRising-merged, good-merged}
use Rattle.job_laws.specs.declared.meter.Counts.{Counts}
use Rattle.job_laws.specs.Counted.{RoseBy}
use Rattle.job_laws.proofs.CountLaws.{rose_none, rose_then, rose_more}
use Rattle.sheets.specs.Sheets.{SheetOf}
use Rattle.sheets.specs.United.{tables_of}
use Rattle.tree_laws.specs.Pairs.{pair_of, merge_of}
use Rattle.tree_laws.specs.Trees.{merged_all, IsMergeOver, IsLeaf, IsWithin, distinct_keys}
use Rattle.tree_laws.proofs.KeyCounts.{common-within, within-merged, within-first, within-next}
use Rattle.tree_laws.proofs.MergedAll.{AllGoodTables, merged_all-append, rising-merged_all}

module _ {V : Type 0} (good : ℕ → V → Type 0) (joined : ℕ → V → V → V) (setting : ℕ) where
  good-tables : (laws : IsGoodJoin (good setting) (joined setting)) (sheets : List (SheetOf V)) → All (IsLeaf good setting) sheets → AllGoodTables (joined setting) (good setting) laws (tables_of sheets)
  good-tables laws [] all = tt
  good-tables laws (s ∷ sheets) all = ((All-head (IsLeaf good setting) s sheets all).values, good-tables laws sheets (All-tail (IsLeaf good setting) s sheets all))

  -- A leaf is the merge over itself.
  pub leaf-over : (s : SheetOf V) → IsLeaf good setting s → IsMergeOver joined setting (tables_of (s ∷ [])) (Some s)
  leaf-over s leaf = (leaf.setting_is, refl)

  -- The merge of two merges is the merge over the leaves of both.
  pub both-over : (us vs : List (SheetOf V)) (a b s : SheetOf V) → IsGoodJoin (good setting) (joined setting) → All (IsLeaf good setting) us → All (IsLeaf good setting) vs
      → IsMergeOver joined setting (tables_of us) (Some a) → IsMergeOver joined setting (tables_of vs) (Some b) → s ≡ merge_of joined (pair_of a b) → IsMergeOver joined setting (tables_of (us ++ vs)) (Some s)
  both-over us vs a b s laws x y over under is =
      let is_set : s.setting ≡ a.setting = ap (λ (t : SheetOf V). t.setting) is in
      let is_merged : s.entries ≡ merged (joined a.setting) a.entries b.entries = ap (λ (t : SheetOf V). t.entries) is in
      let at : merged (joined setting) a.entries b.entries ≡ s.entries = ap (λ (n : ℕ). merged (joined n) a.entries b.entries) (sym over.0) ∙ sym is_merged in (
        is_set ∙ over.0,
        ap (merged_all (joined setting)) (map-append (λ (t : SheetOf V). t.entries) us vs)
            ∙ (merged_all-append (joined setting) (good setting) laws (tables_of us) (tables_of vs) a.entries b.entries (good-tables laws us x) (good-tables laws vs y) over.1 under.1
            ∙ ap (λ (t : List (List ℕ × V)). Some t) at),
      )

  -- There are leaves if there is a merge over them.
  pub over-some : (us : List (SheetOf V)) (a : SheetOf V) → IsMergeOver joined setting (tables_of us) (Some a) → 1 ≤ length us
  over-some [] a over = absurd (let no : None ≡ Some a.entries = over.1 in cc)
  over-some (u ∷ us) a over = omega arith

  pub over-none : (us : List (SheetOf V)) → IsMergeOver joined setting (tables_of us) None → us ≡ []
  over-none [] over = refl
  over-none (u ∷ us) over = absurd (let no : tables_of (u ∷ us) ≡ [] = over in cc)

  pub rising-over : (us : List (SheetOf V)) (a : SheetOf V) → All (IsLeaf good setting) us → IsMergeOver joined setting (tables_of us) (Some a) → IsRising a.entries
  rising-over [] a x over = absurd (let no : None ≡ Some a.entries = over.1 in cc)
  rising-over (u ∷ us) a x over = rising-merged_all (joined setting) u.entries (tables_of us) a.entries (All-head (IsLeaf good setting) u us x).rising over.1

  within-fold : (t : List (List ℕ × V)) (us : List (SheetOf V)) (ts : List (List (List ℕ × V))) → IsWithin t ts → All (λ (s : SheetOf V). IsWithin s.entries ts) us → (a : List (List ℕ × V)) → merged_all (joined setting) (t ∷ tables_of us) ≡ Some a → IsWithin a ts
  within-fold t [] ts w x a is = subst (λ (u : List (List ℕ × V)). IsWithin u ts) (let some : Some t ≡ Some a = is in let same : t ≡ a = cc in same) w
  within-fold t (u ∷ us) ts w x a is = within-fold (merged (joined setting) t u.entries) us ts (within-merged (joined setting) t u.entries ts w (All-head (λ (s : SheetOf V). IsWithin s.entries ts) u us x)) (All-tail (λ (s : SheetOf V). IsWithin s.entries ts) u us x) a is

  pub within-over : (us : List (SheetOf V)) (a : SheetOf V) (ts : List (List (List ℕ × V))) → All (λ (s : SheetOf V). IsWithin s.entries ts) us → IsMergeOver joined setting (tables_of us) (Some a) → IsWithin a.entries ts
  within-over [] a ts x over = absurd (let no : None ≡ Some a.entries = over.1 in cc)
  within-over (u ∷ us) a ts x over = within-fold u.entries us ts (All-head (λ (s : SheetOf V). IsWithin s.entries ts) u us x) (All-tail (λ (s : SheetOf V). IsWithin s.entries ts) u us x) a.entries over.1

  -- A merge joins at most the distinct keys.
  pub cost-within : (us : List (SheetOf V)) (a b : SheetOf V) (ts : List (List (List ℕ × V))) → All (IsLeaf good setting) us → All (λ (s : SheetOf V). IsWithin s.entries ts) us → IsMergeOver joined setting (tables_of us) (Some a) → common_keys a.entries b.entries ≤ distinct_keys ts
  cost-within us a b ts x w over = common-within a.entries b.entries ts (rising-over us a x over) (within-over us a ts w over)

module _ {V : Type 0} (joined : ℕ → V → V → V) where
  -- What holds of leaves holds of their merge.
  pub leaf-merge : (good : ℕ → V → Type 0) (setting : ℕ) → IsGoodJoin (good setting) (joined setting) → (a b : SheetOf V) → IsLeaf good setting a → IsLeaf good setting b → IsLeaf good setting (merge_of joined (pair_of a b))
  leaf-merge good setting laws a b x y = record {
    setting_is = x.setting_is;
    values = subst (λ (s : ℕ). HasGoodValues (good setting) (merged (joined s) a.entries b.entries)) (sym x.setting_is) (good-merged laws a.entries b.entries x.values y.values);
    rising = IsRising-merged (joined a.setting) a.entries b.entries;
  }

  pub within-merge : (ts : List (List (List ℕ × V))) (a b : SheetOf V) → IsWithin a.entries ts → IsWithin b.entries ts → IsWithin (merge_of joined (pair_of a b)).entries ts
  within-merge ts a b x y = within-merged (joined a.setting) a.entries b.entries ts x y

module _ {V : Type 0} where
  -- Each leaf of a list is within its tables.
  pub all-within : (us : List (SheetOf V)) → All (λ (s : SheetOf V). IsWithin s.entries (tables_of us)) us
  all-within [] = All-nil (λ (s : SheetOf V). IsWithin s.entries (tables_of []))
  all-within (u ∷ us) = All-cons (λ (s : SheetOf V). IsWithin s.entries (tables_of (u ∷ us))) u us (within-first u.entries (tables_of us))
      (All-weaker (λ (s : SheetOf V). IsWithin s.entries (tables_of us)) (λ (s : SheetOf V). IsWithin s.entries (tables_of (u ∷ us))) (λ s w. within-next s.entries u.entries (tables_of us) w) us (all-within us))

-- One merge more, where each joins at most k keys.
pub merged-more : (n k j : ℕ) (x y z : Counts) → j ≤ k → RoseBy 0 n (n * k) x y → RoseBy 0 1 j y z → RoseBy 0 (n + 1) ((n + 1) * k) x z
merged-more n k j x y z le a b = rose_more 0 (n + 1) (n * k + j) 0 (n + 1) ((n + 1) * k) x z (omega arith) (omega arith) (omega arith) (rose_then 0 n (n * k) 0 1 j x y z a b)

-- A greater bound.
pub merged-within : (n m k : ℕ) (x y : Counts) → n ≤ m → RoseBy 0 n (n * k) x y → RoseBy 0 m (m * k) x y
merged-within n m k x y le a = rose_more 0 n (n * k) 0 m (m * k) x y (omega arith) le (let h = mul-le-mul_left k le in omega (arith, h)) a

-- Merges, and then more, where each joins at most k keys.
pub rose-more : (n m k : ℕ) (x y z : Counts) → RoseBy 0 n (n * k) x y → RoseBy 0 m (m * k) y z → RoseBy 0 (n + m) ((n + m) * k) x z
rose-more n m k x y z a b = rose_more 0 (n + m) (n * k + m * k) 0 (n + m) ((n + m) * k) x z (omega arith) (omega arith) (sums n m k) (rose_then 0 n (n * k) 0 m (m * k) x y z a b)
  where
    sums : (n m k : ℕ) → n * k + m * k ≤ (n + m) * k
    sums n m k = grind arith

-- Nothing was merged.
pub rose-still : (n k : ℕ) (x : Counts) → RoseBy 0 n k x x
rose-still n k x = rose_more 0 0 0 0 n k x x (omega arith) (omega arith) (omega arith) (rose_none x)

-- How many merges a level takes.
use Rattle.std.proofs.Common.{◌≡◌, ◌⊎◌, inl, inr, ℕ, suc, zero, ◌+◌, ◌-◌, ◌*◌, ◌/◌, ◌<◌, ◌≤◌, arith, ap, ◌∙◌, refl, List, [], ◌∷◌, ◌++◌, length, get_or, Option, Some, None, cond}
use Rattle.std.specs.List.Sorted.{IsStrictlyIncreasing}
use Rattle.std.proofs.lemmas.Bool.{cases_lt, lt-ltb, le-ltb}
use Rattle.sheets.specs.Sheets.{SheetOf}
use Rattle.folding_tree.specs.Levels.{Row, sheet_at, merges_by, merges_over, beyond, places_from}
use Rattle.folding_tree.proofs.ListLaws.{rising-above}

module _ {V : Type 0} where
  pub merges_by-few : (a b : Option (SheetOf V)) → merges_by a b ≤ 1
  merges_by-few None b = omega arith
  merges_by-few (Some a) None = omega arith
  merges_by-few (Some a) (Some b) = omega arith

  merges_by-none : (a b : Option (SheetOf V)) → b ≡ None → merges_by a b ≡ 0
  merges_by-none None b e = refl
  merges_by-none (Some a) None e = refl
  merges_by-none (Some a) (Some b) e = absurd (let no : Some b ≡ None = e in cc)

module _ {J V M : Type 0} (row : Row J V M) where
  pub merges-few : (places : List ℕ) → merges_over row places ≤ length places
  merges-few [] = omega arith
  merges-few (p ∷ places) =
      let one = merges_by-few (sheet_at row (2 * p)) (sheet_at row (2 * p + 1)) in
      let rest = merges-few places in
      omega (arith, one, rest)

  pub merges-append : (xs ys : List ℕ) → merges_over row (xs ++ ys) ≡ merges_over row xs + merges_over row ys
  merges-append [] ys = omega arith
  merges-append (x ∷ xs) ys = let h = merges-append xs ys in omega (arith, h)

  -- Of the places from one on only those with a right half take a merge.
  pub merges-behind : (high : ℕ) → ((i : ℕ) → high ≤ i → sheet_at row i ≡ None) → (m n : ℕ) → (merges_over row (places_from m n) ≤ n) × (merges_over row (places_from m n) ≤ high / 2 - m)
  merges-behind high none m zero = (omega arith, omega arith)
  merges-behind high none m (suc n) =
      let before = merges-behind high none m n in
      let b0 = before.0 in
      let b1 = before.1 in
      let sum = merges-append (places_from m n) ((m + n) ∷ []) in
      let one = merges_by-few (sheet_at row (2 * (m + n))) (sheet_at row (2 * (m + n) + 1)) in
      elim (cases_lt (2 * (m + n) + 1) high) [
        | inl lt ↦ (omega (arith, b0, sum, one), omega (arith, b0, b1, sum, one, lt))
        | inr ge ↦
            let zero_here = merges_by-none (sheet_at row (2 * (m + n))) (sheet_at row (2 * (m + n) + 1)) (none (2 * (m + n) + 1) ge) in
            (omega (arith, b0, sum, zero_here), omega (arith, b1, sum, zero_here))
      ]

beyond-yes : (low p : ℕ) (ps : List ℕ) → low < p → beyond low (p ∷ ps) ≡ beyond low ps + 1
beyond-yes low p ps lt = ap (λ b. cond b 1 0 + beyond low ps) (lt-ltb low p lt) ∙ omega arith

beyond-no : (low p : ℕ) (ps : List ℕ) → p ≤ low → beyond low (p ∷ ps) ≡ beyond low ps
beyond-no low p ps le = ap (λ b. cond b 1 0 + beyond low ps) (le-ltb low p le) ∙ omega arith

beyond-most : (low p : ℕ) (ps : List ℕ) → beyond low ps ≤ beyond low (p ∷ ps)
beyond-most low p ps = elim (cases_lt low p) [
  | inl lt ↦ (let e = beyond-yes low p ps lt in omega (arith, e))
  | inr le ↦ (let e = beyond-no low p ps le in omega (arith, e))
]

pub beyond-few : (low : ℕ) (ps : List ℕ) → beyond low ps ≤ length ps
beyond-few low [] = omega arith
beyond-few low (p ∷ ps) = elim (cases_lt low p) [
  | inl lt ↦ (let e = beyond-yes low p ps lt in let h = beyond-few low ps in omega (arith, e, h))
  | inr le ↦ (let e = beyond-no low p ps le in let h = beyond-few low ps in omega (arith, e, h))
]

beyond-all : (low : ℕ) (ps : List ℕ) → ((k : ℕ) → k < length ps → low < get_or ps k 0) → beyond low ps ≡ length ps
beyond-all low [] all = refl
beyond-all low (p ∷ ps) all =
    let e = beyond-yes low p ps (all 0 (omega arith)) in
    let h = beyond-all low ps (λ k lt. all (suc k) (omega (arith, lt))) in
    omega (arith, e, h)

-- Of rising places at most one is not beyond the first.
pub rising-few : (low : ℕ) (ps : List ℕ) → IsStrictlyIncreasing ps → ((k : ℕ) → k < length ps → low ≤ get_or ps k 0) → length ps ≤ beyond low ps + 1
rising-few low [] r all = omega arith
rising-few low (p ∷ ps) r all =
    let first = all 0 (omega arith) in
    let rest = beyond-all low ps (λ k lt. let above = rising-above p ps r k lt in omega (arith, above, first)) in
    let more = beyond-most low p ps in
    omega (arith, rest, more)

pub beyond-push : (low : ℕ) (ps : List ℕ) (p : ℕ) → beyond low (ps ++ p ∷ []) ≡ beyond low ps + beyond low (p ∷ [])
beyond-push low [] p = omega arith
beyond-push low (q ∷ ps) p = let h = beyond-push low ps p in omega (arith, h)

-- One place more, and its parent.
pub beyond-parent : (low p : ℕ) → low ≤ p → beyond (low / 2) (p / 2 ∷ []) ≤ beyond low (p ∷ [])
beyond-parent low p le = elim (cases_lt (low / 2) (p / 2)) [
  | inl lt ↦
      let a = beyond-yes (low / 2) (p / 2) [] lt in
      let b = beyond-yes low p [] (omega (arith, lt, le)) in
      omega (arith, a, b)
  | inr ge ↦ (let a = beyond-no (low / 2) (p / 2) [] ge in omega (arith, a))
]

pub beyond-itself : (low : ℕ) → beyond low (low ∷ []) ≡ 0
beyond-itself low = beyond-no low low [] (omega arith)

-- The merges of one level, less those that its fresh nodes save.
pub level-few : (count behind b low mid high above_mid above_high : ℕ) → count ≤ b + 1 → behind ≤ high / 2 - above_mid → above_high ≡ (high + 1) / 2 → (mid < high) × (above_mid ≡ mid / 2) ⊎ (mid ≡ high) × (above_mid ≡ above_high) → count + behind ≤ 2 + b + (high - mid) - (above_high - above_mid)
level-few count behind b low mid high above_mid above_high a c g (inl h) = let m = h.1 in let x = h.0 in omega (arith, a, c, g, m, x)
level-few count behind b low mid high above_mid above_high a c g (inr h) = let m = h.1 in let x = h.0 in omega (arith, a, c, g, m, x)

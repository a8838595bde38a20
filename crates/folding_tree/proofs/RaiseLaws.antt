-- A level's draft, made from the one of the level below.
use Rattle.std.proofs.Common.{◌≡◌, ◌⊎◌, inl, inr, ℕ, ◌+◌, ◌-◌, ◌*◌, ◌/◌, ◌%◌, ◌<◌, ◌≤◌, ◌||◌, arith, sym, ap, ◌∙◌, subst, List, [], ◌++◌, get_or, None, true}
use Rattle.std.specs.List.{All}
use Rattle.std.specs.Option.{option_map}
use Rattle.std.proofs.lemmas.Bool.{cases_lt, or_cases}
use Rattle.std.proofs.lemmas.List.{get_or_default, append-nil}
use Rattle.job_laws.specs.declared.meter.Counts.{Counts}
use Rattle.job_laws.specs.Counted.{RoseBy}
use Rattle.pin_table.specs.Views.{CallerView}
use Rattle.pin_table.specs.Covers.{PinName, IsLater}
use Rattle.pin_table.specs.OwnEvents.{Met}
use Rattle.pin_table.proofs.OwnEvents.{any-met-later, any-met-before}
use Rattle.tree_laws.proofs.LeafLaws.{merged-within, rose-more}
use Rattle.folding_tree.specs.declared.part.Part.{Part}
use Rattle.folding_tree.specs.Levels.{Row, Ahead, part_sheet, sheet_at, row_after, IsFit, HasHalf, AreParents, places_from, beyond, merges_over, parts_loose}
use Rattle.tree_laws.specs.Trades.{Trades}
use Rattle.tree_laws.proofs.TradeLaws.{trades-then, trades-beside}
use Rattle.folding_tree.proofs.RowLaws.{after-outside}
use Rattle.folding_tree.proofs.AlignLaws.{length-places_from, get-places_from}
use Rattle.folding_tree.proofs.BoundLaws.{merges-few, merges-behind, rising-few, level-few}

-- New pins in addition to others.
pub trades-add : (u v w : CallerView) (os ps qs : List PinName) → Trades u os v ps → Trades v [] w qs → Trades u os w (ps ++ qs)
trades-add u v w os ps qs a b = trades-then u v w os ps (ps ++ qs) a (subst (λ (xs : List PinName). Trades v xs w (ps ++ qs)) (append-nil ps) (trades-beside v w ps [] qs b))

-- A step that adds no pin.
pub trades-idle : (u v w : CallerView) (os ps : List PinName) → Trades u os v ps → Trades v [] w [] → Trades u os w ps
trades-idle u v w os ps a b = subst (λ (xs : List PinName). Trades u os w xs) (append-nil ps) (trades-add u v w os ps [] a b)

-- What was met in either of two steps.
pub met-either : {J V M : Type 0} (changed fresh : List (Part J V M)) (u v w : CallerView) → IsLater u v → IsLater v w → (parts_loose changed ≡ true → Met u v) → (parts_loose fresh ≡ true → Met v w) → (parts_loose changed || parts_loose fresh) ≡ true → Met u w
met-either changed fresh u v w a b f g h = elim (or_cases (parts_loose changed) (parts_loose fresh) h) [
  | inl c ↦ any-met-later u v w b (f c)
  | inr d ↦ any-met-before u v w a b (g d)
]

-- The ends of the nodes that stay, and of the level.
pub end-within : (low mid high above_mid above_high : ℕ) → low ≤ mid → mid ≤ high → above_high ≡ high / 2 + high % 2 → (mid < high → above_mid ≡ mid / 2) → (high ≤ mid → above_mid ≡ above_high)
    → (low / 2 ≤ above_mid) × (above_mid ≤ above_high) × (above_high ≡ (high + 1) / 2) × ((mid < high) × (above_mid ≡ mid / 2) ⊎ (mid ≡ high) × (above_mid ≡ above_high))
end-within low mid high above_mid above_high a b g f h = elim (cases_lt mid high) [
  | inl lt ↦ (let m = f lt in (omega (arith, m, a), omega (arith, m, g, b), omega (arith, g), inl (lt, m)))
  | inr le ↦ (let m = h le in (omega (arith, m, g, a, b), omega (arith, m), omega (arith, g), inr (omega (arith, le, b), m)))
]

module _ {J V M : Type 0} (row : Row J V M) (ahead : Ahead J V M) (fit : IsFit row ahead) (begins : ahead.low ≡ ahead.high → ahead.low ≡ 0) where
  pub fit-high : ahead.mid ≤ ahead.high
  fit-high = let e = fit.fresh in omega (arith, e)

  one-half : (place : ℕ) → ahead.low / 2 ≤ place → place < (ahead.high + 1) / 2 → HasHalf ahead place
  one-half place le lt =
      let kept = fit.kept in
      let mid = fit-high in (
        omega (arith, le),
        omega (arith, lt),
        elim (cases_lt ahead.low ahead.high) [
          | inl some ↦ some
          | inr none ↦ (let nil = begins (omega (arith, none, kept, mid)) in absurd (omega (arith, nil, none, lt)))
        ],
      )

  pub parents-half : (mid : ℕ) (places : List ℕ) → mid ≤ (ahead.high + 1) / 2 → AreParents row ahead mid places → All (HasHalf ahead) places
  parents-half mid places le parents k d lt =
      let w = parents.within k d lt in
      let below = w.1 in
      one-half (get_or places k d) w.0 (omega (arith, below, le))

  pub behind-half : (mid high : ℕ) → ahead.low / 2 ≤ mid → mid ≤ high → high ≡ (ahead.high + 1) / 2 → All (HasHalf ahead) (places_from mid (high - mid))
  behind-half mid high low le is k d lt =
      let n = length-places_from mid (high - mid) in
      let at : get_or (places_from mid (high - mid)) k d ≡ mid + k = get_or_default (places_from mid (high - mid)) k d 0 lt ∙ get-places_from mid (high - mid) k (omega (arith, lt, n)) in
      subst (HasHalf ahead) (sym at) (one-half (mid + k) (omega (arith, low)) (omega (arith, lt, n, le, is)))

  -- The merges of the level.
  pub level-merges : (above_mid above_high : ℕ) (places : List ℕ) → AreParents row ahead above_mid places → above_high ≡ (ahead.high + 1) / 2 → (ahead.mid < ahead.high) × (above_mid ≡ ahead.mid / 2) ⊎ (ahead.mid ≡ ahead.high) × (above_mid ≡ above_high)
      → merges_over (row_after row ahead) places + merges_over (row_after row ahead) (places_from above_mid (above_high - above_mid)) ≤ 2 + beyond ahead.low ahead.places + (ahead.high - ahead.mid) - (above_high - above_mid)
  level-merges above_mid above_high places parents high mid =
      let R = row_after row ahead in
      let a = merges-few R places in
      let b = rising-few (ahead.low / 2) places parents.rising (λ k lt. (parents.within k 0 lt).0) in
      let c = parents.few in
      let none : (i : ℕ) → ahead.high ≤ i → sheet_at R i ≡ None = λ i le. ap (option_map part_sheet) (after-outside row ahead fit i (inr le)) in
      let d = merges-behind R ahead.high none above_mid (above_high - above_mid) in
      let e = d.1 in
      level-few (merges_over R places) (merges_over R (places_from above_mid (above_high - above_mid))) (beyond ahead.low ahead.places) ahead.low ahead.mid ahead.high above_mid above_high (omega (arith, a, b, c)) e high mid

  pub changed-merges : (above_mid above_high : ℕ) (places : List ℕ) → AreParents row ahead above_mid places → above_high ≡ (ahead.high + 1) / 2 → (ahead.mid < ahead.high) × (above_mid ≡ ahead.mid / 2) ⊎ (ahead.mid ≡ ahead.high) × (above_mid ≡ above_high)
      → merges_over (row_after row ahead) places ≤ 2 + beyond ahead.low ahead.places + (ahead.high - ahead.mid)
  changed-merges above_mid above_high places parents high mid = let all = level-merges above_mid above_high places parents high mid in omega (arith, all)

  pub all-merges : (above_mid above_high : ℕ) (places : List ℕ) → AreParents row ahead above_mid places → above_high ≡ (ahead.high + 1) / 2 → (ahead.mid < ahead.high) × (above_mid ≡ ahead.mid / 2) ⊎ (ahead.mid ≡ ahead.high) × (above_mid ≡ above_high)
      → merges_over (row_after row ahead) places + merges_over (row_after row ahead) (places_from above_mid (above_high - above_mid)) ≤ 2 + beyond ahead.low ahead.places + (ahead.high - ahead.mid)
  all-merges above_mid above_high places parents high mid = let all = level-merges above_mid above_high places parents high mid in omega (arith, all)

-- Merges of two steps within a bound.
pub rose-two : (n m most k : ℕ) (x y z : Counts) → n + m ≤ most → RoseBy 0 n (n * k) x y → RoseBy 0 m (m * k) y z → RoseBy 0 most (most * k) x z
rose-two n m most k x y z le a b = merged-within (n + m) most k x z le (rose-more n m k x y z a b)

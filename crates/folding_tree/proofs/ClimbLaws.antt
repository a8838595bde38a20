-- One level more of a draft.
use Rattle.std.proofs.Common.{◌≡◌, ◌⊎◌, inl, inr, ℕ, suc, ◌+◌, ◌-◌, ◌*◌, ◌/◌, ◌<◌, ◌≤◌, arith, sym, ap, refl, subst, true}
use Rattle.std.proofs.lemmas.Bool.{cases_eq, cases_lt}
use Rattle.std.proofs.lemmas.List.Elements.{All-nil}
use Rattle.std.proofs.Math.Nat.{mul-le-mul_left}
use Rattle.job_laws.specs.declared.meter.Counts.{Counts}
use Rattle.job_laws.specs.Counted.{RoseBy}
use Rattle.pin_table.specs.Views.{CallerView}
use Rattle.pin_table.specs.Covers.{IsLater}
use Rattle.pin_table.specs.OwnEvents.{Met}
use Rattle.pin_table.proofs.OwnEvents.{any-met-later, any-met-before}
use Rattle.tree_laws.proofs.LeafLaws.{merged-within, rose-more}
use Rattle.folding_tree.specs.Levels.{Row, Ahead, no_ahead, row_after, IsOver, IsFit, IsRaised, IsAligned, ahead_loose, beyond}
use Rattle.folding_tree.proofs.AlignLaws.{raised-aligned, raised-over}

module _ {J V M : Type 0} (joined : ℕ → V → V → V) (rows : ℕ → Row J V M) (before now : ℕ → Ahead J V M) (k : ℕ) (same : (i : ℕ) → i ≤ k → now i ≡ before i) (raised : IsRaised joined (rows k) (before k) (now (suc k))) where
  module _ (folded : ℕ) (aligned : (i : ℕ) → i ≤ k → IsAligned folded i (rows i) (before i)) (over : k < folded → IsOver joined (rows k) (rows (suc k))) (grows : (k < folded) ⊎ ((before k).mid < (before k).high)) where
    pub climb-aligned : (i : ℕ) → i ≤ suc k → IsAligned folded i (rows i) (now i)
    climb-aligned i le = elim (cases_eq i (suc k)) [
      | inl e ↦ subst (λ (n : ℕ). IsAligned folded n (rows n) (now n)) (sym e) (raised-aligned joined folded k (rows k) (rows (suc k)) (before k) (now (suc k)) (aligned k (omega arith)) raised over grows)
      | inr off ↦ (let low : i ≤ k = omega (arith, le, off) in subst (IsAligned folded i (rows i)) (sym (same i low)) (aligned i low))
    ]

    pub climb-over : ((i : ℕ) → i < k → IsOver joined (row_after (rows i) (before i)) (row_after (rows (suc i)) (before (suc i)))) → (i : ℕ) → i < suc k → IsOver joined (row_after (rows i) (now i)) (row_after (rows (suc i)) (now (suc i)))
    climb-over overs i lt = elim (cases_eq i k) [
      | inl e ↦ subst (λ (n : ℕ). IsOver joined (row_after (rows n) (now n)) (row_after (rows (suc n)) (now (suc n)))) (sym e)
          (subst (λ (a : Ahead J V M). IsOver joined (row_after (rows k) a) (row_after (rows (suc k)) (now (suc k)))) (sym (same k (omega arith)))
          (raised-over joined folded k (rows k) (rows (suc k)) (before k) (now (suc k)) (aligned k (omega arith)) raised over grows))
      | inr off ↦
          let less : i < k = omega (arith, lt, off) in
          subst (λ (a : Ahead J V M). IsOver joined (row_after (rows i) a) (row_after (rows (suc i)) (now (suc i)))) (sym (same i (omega (arith, less))))
          (subst (λ (a : Ahead J V M). IsOver joined (row_after (rows i) (before i)) (row_after (rows (suc i)) a)) (sym (same (suc i) (omega (arith, less)))) (overs i less))
    ]

  -- Fresh nodes below ask for some above.
  pub climb-grows : ((i : ℕ) → i ≤ k → (before i).mid < (before i).high) → (i : ℕ) → i ≤ suc k → (now i).mid < (now i).high
  climb-grows more i le = elim (cases_eq i (suc k)) [
    | inl e ↦ subst (λ (n : ℕ). (now n).mid < (now n).high) (sym e) (let lt = more k (omega arith) in let g = raised.high in elim raised.mid [ inl h ↦ (let m = h.1 in omega (arith, lt, g, m)) | inr h ↦ (let a = h.0 in absurd (omega (arith, a, lt))) ])
    | inr off ↦ (let low : i ≤ k = omega (arith, le, off) in subst (λ (a : Ahead J V M). a.mid < a.high) (sym (same i low)) (more i low))
  ]

  pub climb-few : (most : ℕ) → beyond (before k).low (before k).places ≤ most → beyond (now (suc k)).low (now (suc k)).places ≤ most
  climb-few most le =
      let few = raised.parents.few in
      let low = raised.low in
      let at : beyond (now (suc k)).low (now (suc k)).places ≡ beyond ((before k).low / 2) (now (suc k)).places = ap (λ (n : ℕ). beyond n (now (suc k)).places) low in
      omega (arith, few, at, le)

  pub climb-loose : (u v w : CallerView) → IsLater u v → IsLater v w → ((i : ℕ) → ahead_loose (before i) ≡ true → Met u v) → (ahead_loose (now (suc k)) ≡ true → Met v w) → ((i : ℕ) → suc (suc k) ≤ i → ahead_loose (now i) ≡ true → ⊥) → (i : ℕ) → ahead_loose (now i) ≡ true → Met u w
  climb-loose u v w a b old new none i h = elim (cases_eq i (suc k)) [
    | inl e ↦ any-met-before u v w a b (new (subst (λ (n : ℕ). ahead_loose (now n) ≡ true) e h))
    | inr off ↦ elim (cases_lt i (suc k)) [
      | inl lt ↦ any-met-later u v w b (old i (subst (λ (x : Ahead J V M). ahead_loose x ≡ true) (same i (omega (arith, lt))) h))
      | inr ge ↦ absurd (none i (omega (arith, ge, off)) h)
    ]
  ]

-- A level has at most one fresh node more than the one below.
pub raised-few : {J V M : Type 0} (joined : ℕ → V → V → V) (row : Row J V M) (ahead above : Ahead J V M) → IsRaised joined row ahead above → above.high - above.mid ≤ (ahead.high - ahead.mid) + 1
raised-few joined row ahead above raised = let g = raised.high in elim raised.mid [ inl h ↦ (let m = h.1 in let x = h.0 in omega (arith, g, m, x)) | inr h ↦ (let m = h.1 in omega (arith, m)) ]

-- The merges of one level more.
pub climb-spent : (n m most k c b f g : ℕ) (keys : ℕ) (x y z : Counts) → b ≤ c → n + f ≤ most + (2 + c) * k → g ≤ f + 1 → m ≤ 2 + b + f - g → RoseBy 0 n (n * keys) x y → RoseBy 0 m (m * keys) y z
    → (s : ℕ) × (s + g ≤ most + (2 + c) * (k + 1)) × RoseBy 0 s (s * keys) x z
climb-spent n m most k c b f g keys x y z few spent fresh made p q =
    let step : (2 + c) * (k + 1) ≡ (2 + c) * k + (2 + c) = grind arith in
    (n + m, omega (arith, few, spent, fresh, made, step), rose-more n m keys x y z p q)

-- The merges if no other level is made.
pub climb-ended : (n most k height c f keys : ℕ) (x y : Counts) → k ≤ height → n + f ≤ most + (2 + c) * k → RoseBy 0 n (n * keys) x y → RoseBy 0 (most + (2 + c) * height) ((most + (2 + c) * height) * keys) x y
climb-ended n most k height c f keys x y le spent p =
    let grow = mul-le-mul_left (2 + c) le in
    merged-within n (most + (2 + c) * height) keys x y (omega (arith, spent, grow)) p

-- The merges if the next level fails.
pub climb-stopped : (n m most k height c b f keys : ℕ) (x y z : Counts) → k < height → b ≤ c → n + f ≤ most + (2 + c) * k → m ≤ 2 + b + f → RoseBy 0 n (n * keys) x y → RoseBy 0 m (m * keys) y z → RoseBy 0 (most + (2 + c) * height) ((most + (2 + c) * height) * keys) x z
climb-stopped n m most k height c b f keys x y z lt few spent made p q =
    let step : (2 + c) * (k + 1) ≡ (2 + c) * k + (2 + c) = grind arith in
    climb-ended (n + m) most (k + 1) height c 0 keys x z (omega (arith, lt)) (omega (arith, few, spent, made, step)) (rose-more n m keys x y z p q)

module _ {J V M : Type 0} where
  none-fit : (row : Row J V M) → IsFit row no_ahead
  none-fit row = record {
    kept = omega arith;
    fresh = omega arith;
    enough = omega arith;
    within = All-nil (λ (place : ℕ). (0 ≤ place) × (place < 0));
    rising = λ k lt. absurd (omega (arith, lt));
    changed = refl;
  }

  -- The drafts so far fit their levels.
  pub all-fit : (folded k : ℕ) (rows : ℕ → Row J V M) (aheads : ℕ → Ahead J V M) → ((i : ℕ) → i ≤ k → IsAligned folded i (rows i) (aheads i)) → ((i : ℕ) → k < i → aheads i ≡ no_ahead) → (i : ℕ) → IsFit (rows i) (aheads i)
  all-fit folded k rows aheads aligned past i = elim (cases_lt k i) [
    | inl lt ↦ subst (IsFit (rows i)) (sym (past i lt)) (none-fit (rows i))
    | inr le ↦ (aligned i le).fit
  ]

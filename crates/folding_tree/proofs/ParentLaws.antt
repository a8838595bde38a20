-- The places over changed ones, found one after the other.
use Rattle.std.proofs.Common.{◌≡◌, inl, inr, ℕ, suc, zero, ◌+◌, ◌-◌, ◌/◌, ◌%◌, ◌<◌, ◌≤◌, arith, sym, ap, ◌∙◌, refl, subst, List, [], ◌∷◌, ◌++◌, length, get_or, take}
use Rattle.std.specs.List.{All, Contains}
use Rattle.std.specs.List.Sorted.{IsStrictlyIncreasing}
use Rattle.std.proofs.lemmas.Bool.{cases_eq}
use Rattle.std.proofs.lemmas.List.{take_more, take_all, get_or_default, length_push, get_or_push, get_or_append_left}
use Rattle.std.proofs.lemmas.List.Elements.{All-push, Contains-push, Contains-append_left}
use Rattle.folding_tree.specs.Levels.{Row, Ahead, IsFit, IsFirst, IsAdded, AreParents, beyond}
use Rattle.folding_tree.proofs.BoundLaws.{beyond-push, beyond-parent, beyond-itself}
use Rattle.folding_tree.proofs.ListLaws.{rising-le}
use Rattle.folding_tree.proofs.FlowLaws.{rising-push}

-- The places over the first changed ones.
pub record SoFar {J V M : Type 0} (row : Row J V M) (ahead : Ahead J V M) (mid i : ℕ) (above : List ℕ) : Type 0 where
  pub within : All (λ (place : ℕ). (ahead.low / 2 ≤ place) × (place < mid)) above
  pub rising : IsStrictlyIncreasing above
  pub first : row.low < ahead.from → ahead.low % 2 ≡ 1 → ahead.low / 2 < mid → Contains above (ahead.low / 2)
  pub over : (k : ℕ) → k < i → k < length ahead.places → get_or ahead.places k 0 / 2 < mid → Contains above (get_or ahead.places k 0 / 2)
  pub few : beyond (ahead.low / 2) above ≤ beyond ahead.low (take i ahead.places)
  pub next : (j k : ℕ) → i ≤ j → j < length ahead.places → k < length above → get_or above k 0 ≤ get_or ahead.places j 0 / 2

module _ {J V M : Type 0} (row : Row J V M) (ahead : Ahead J V M) (mid : ℕ) (fit : IsFit row ahead) where
  pub parents-begin : (above : List ℕ) → IsFirst row ahead mid above → SoFar row ahead mid 0 above
  parents-begin above (inl h) = subst (SoFar row ahead mid 0) (sym h.1) (record {
    within = λ k d lt. absurd (omega (arith, lt));
    rising = λ k lt. absurd (omega (arith, lt));
    first = λ a b c. absurd (h.0 a b c);
    over = λ k lt. absurd (omega (arith, lt));
    few = omega arith;
    next = λ j k le lt some. absurd (omega (arith, some));
  })
  parents-begin above (inr h) = subst (SoFar row ahead mid 0) (sym h.3) (record {
    within = only_one;
    rising = λ k lt. absurd (omega (arith, lt));
    first = λ a b c. (0, omega arith, refl);
    over = λ k lt. absurd (omega (arith, lt));
    few = (let e = beyond-itself (ahead.low / 2) in omega (arith, e));
    next = only_next;
  })
    where
      only_one : (k d : ℕ) → k < length ((ahead.low / 2) ∷ []) → (ahead.low / 2 ≤ get_or ((ahead.low / 2) ∷ []) k d) × (get_or ((ahead.low / 2) ∷ []) k d < mid)
      only_one zero d lt = (omega arith, h.2)
      only_one (suc k) d lt = absurd (omega (arith, lt))

      only_next : (j k : ℕ) → 0 ≤ j → j < length ahead.places → k < length ((ahead.low / 2) ∷ []) → get_or ((ahead.low / 2) ∷ []) k 0 ≤ get_or ahead.places j 0 / 2
      only_next j zero le lt some = (let w = fit.within j 0 lt in let low = w.0 in omega (arith, low))
      only_next j (suc k) le lt some = absurd (omega (arith, some))

  module _ (i : ℕ) (above new : List ℕ) (so_far : SoFar row ahead mid i above) (lt : i < length ahead.places) where
    abbrev here : ℕ
    here = get_or ahead.places i 0

    abbrev more : List ℕ
    more = take (i + 1) ahead.places

    counted : beyond ahead.low more ≡ beyond ahead.low (take i ahead.places) + beyond ahead.low (here ∷ [])
    counted = ap (beyond ahead.low) (take_more ahead.places i 0 lt) ∙ beyond-push ahead.low (take i ahead.places) here

    -- The place over it is there already, or comes later.
    same-more : (here / 2 < mid → Contains above (here / 2)) → SoFar row ahead mid (i + 1) above
    same-more there = record {
      within = so_far.within;
      rising = so_far.rising;
      first = so_far.first;
      over = λ k k_lt k_in below. elim (cases_eq k i) [
        | inl e ↦ subst (λ (n : ℕ). get_or ahead.places n 0 / 2 < mid → Contains above (get_or ahead.places n 0 / 2)) (sym e) there below
        | inr off ↦ so_far.over k (omega (arith, k_lt, off)) k_in below
      ];
      few = (let a = so_far.few in let b = counted in omega (arith, a, b));
      next = λ j k le j_in k_in. so_far.next j k (omega (arith, le)) j_in k_in;
    }

    pub parents-more : IsAdded mid (here / 2) above new → SoFar row ahead mid (i + 1) new
    parents-more (inl h) = subst (SoFar row ahead mid (i + 1)) (sym h.1) (same-more (λ below. let le = h.0 in absurd (omega (arith, le, below))))
    parents-more (inr (inl h)) = subst (SoFar row ahead mid (i + 1)) (sym h.2) (same-more (λ below.
        let some = h.0 in
        (length above - 1, omega (arith, some), get_or_default above (length above - 1) (here / 2) 0 (omega (arith, some)) ∙ h.1)))
    parents-more (inr (inr h)) = subst (SoFar row ahead mid (i + 1)) (sym h.2) (record {
      within = All-push (λ (place : ℕ). (ahead.low / 2 ≤ place) × (place < mid)) above (here / 2) so_far.within ((let w = fit.within i 0 lt in let low = w.0 in omega (arith, low)), h.0);
      rising = rising-push above (here / 2) so_far.rising (λ some.
          let le = so_far.next i (length above - 1) (omega arith) lt (omega (arith, some)) in
          let off = h.1 some in
          strict (get_or above (length above - 1) 0) (here / 2) le off);
      first = λ a b c. Contains-append_left above ((here / 2) ∷ []) (ahead.low / 2) (so_far.first a b c);
      over = λ k k_lt k_in below. elim (cases_eq k i) [
        | inl e ↦ subst (λ (n : ℕ). Contains (above ++ (here / 2) ∷ []) (get_or ahead.places n 0 / 2)) (sym e) (Contains-push above (here / 2))
        | inr off ↦ Contains-append_left above ((here / 2) ∷ []) (get_or ahead.places k 0 / 2) (so_far.over k (omega (arith, k_lt, off)) k_in below)
      ];
      few =
          let a = so_far.few in
          let b = counted in
          let c = beyond-push (ahead.low / 2) above (here / 2) in
          let w = fit.within i 0 lt in
          let d = beyond-parent ahead.low here w.0 in
          omega (arith, a, b, c, d);
      next = λ j k le j_in k_in. elim (cases_eq k (length above)) [
        | inl e ↦ (let p = get_or_push above (here / 2) 0 k (sym e) in let up = rising_le i j (omega (arith, le)) j_in in omega (arith, p, up))
        | inr off ↦
            let n = length_push above (here / 2) in
            let less : k < length above = omega (arith, k_in, n, off) in
            let p = get_or_append_left above ((here / 2) ∷ []) 0 k less in
            let old = so_far.next j k (omega (arith, le)) j_in less in
            omega (arith, p, old)
      ];
    })
      where
        strict : (a b : ℕ) → a ≤ b → (a ≡ b → ⊥) → a < b
        strict a b le off = omega (arith, le, off)

        rising_le : (a b : ℕ) → a ≤ b → b < length ahead.places → get_or ahead.places a 0 ≤ get_or ahead.places b 0
        rising_le a b le b_in = rising-le ahead.places fit.rising a b le b_in

  pub parents-end : (above : List ℕ) (i : ℕ) → length ahead.places ≤ i → SoFar row ahead mid i above → AreParents row ahead mid above
  parents-end above i le so_far = record {
    within = so_far.within;
    rising = so_far.rising;
    first = so_far.first;
    over = λ k d k_in below.
        let e : get_or ahead.places k 0 ≡ get_or ahead.places k d = get_or_default ahead.places k 0 d k_in in
        subst (λ (p : ℕ). Contains above (p / 2)) e (so_far.over k (omega (arith, k_in, le)) k_in (subst (λ (p : ℕ). p / 2 < mid) (sym e) below));
    few = subst (λ (ps : List ℕ). beyond (ahead.low / 2) above ≤ beyond ahead.low ps) (take_all i ahead.places le) so_far.few;
  }

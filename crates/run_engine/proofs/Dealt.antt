-- Inputs dealt to lanes: how often each text goes to a lane, and what that makes of the lane.
use Rattle.std.proofs.Common.{◌≡◌, ℕ, zero, suc, ◌+◌, ◌<◌, ◌≤◌, Bool, true, false, cond, ◌||◌, ◌==◌, nat_lt, List, [], ◌∷◌, ◌++◌, length, take, refl, ap, sym, ◌∙◌, arith}
use Rattle.std.specs.Prelude.{slice_index, slice_index_or}
use Rattle.std.proofs.lemmas.Nat.{mod_below}
use Rattle.std.proofs.lemmas.Bool.Decides.{nat_tests}
use Rattle.std.proofs.lemmas.List.{take_more, map-append}
use Rattle.std.proofs.lemmas.List.Sums.{sum_by-cons, sum_by-append}
use Rattle.std.proofs.lemmas.List.Elements.{filter-append}
use Rattle.window_manager.specs.Windows.{Leaf}
use Rattle.map_tasks.specs.Inputs.{InputView, input_digest, lane_at}
use Rattle.map_tasks.specs.Texts.{same_text, used_of, came_of}
use Rattle.map_tasks.specs.Lanes.{LaneView}
use Rattle.map_tasks.proofs.Totals.{same-itself, quiet-none}
use Rattle.run_engine.specs.NewTexts.{times, is_among}
use Rattle.run_engine.specs.Inputs.{texts_of, goes_to}
use Rattle.run_engine.specs.Engines.{IsLaneOf, of_lane}
use Rattle.run_engine.specs.LaneTasks.{is_held, MayLeave, new_weight}
use Rattle.run_engine.specs.Phases.{IsDealtLane}
use Rattle.run_engine.proofs.TextCounts.{number-same, weight, weight-on, lane_texts, lane-own, lane-times}

-- The lane of a text, of 16.
abbrev pub leaf_lane : Leaf → ℕ
leaf_lane t = lane_at (input_digest t) 16

pub leaf-lane-within : (t : Leaf) → leaf_lane t < 16
leaf-lane-within t = mod_below (slice_index (input_digest t) 0) 16 (omega arith)

-- Texts of the inputs of a lane are the lane's texts of the inputs.
pub goes-texts : (k : ℕ) (inputs : List InputView) → texts_of (goes_to k inputs) ≡ lane_texts leaf_lane k (texts_of inputs)
goes-texts k [] = refl
goes-texts k (i ∷ is) = by (leaf_lane i.text == k) (goes-texts k is)
  where
    by : (b : Bool) → texts_of (goes_to k is) ≡ lane_texts leaf_lane k (texts_of is) → texts_of (cond b (i ∷ goes_to k is) (goes_to k is)) ≡ cond b (i.text ∷ lane_texts leaf_lane k (texts_of is)) (lane_texts leaf_lane k (texts_of is))
    by true h = ap (λ (l : List Leaf). i.text ∷ l) h
    by false h = h

pub goes-times : (k : ℕ) (inputs : List InputView) (t : Leaf) → times t (texts_of (goes_to k inputs)) ≡ of_lane k t (times t (texts_of inputs))
goes-times k inputs t = ap (times t) (goes-texts k inputs) ∙ lane-times leaf_lane k t (texts_of inputs)

-- One input more.
pub goes-more : (k : ℕ) (inputs : List InputView) (i : ℕ) (x : InputView) → i < length inputs → x ≡ slice_index_or inputs i x → goes_to k (take (i + 1) inputs) ≡ goes_to k (take i inputs) ++ goes_to k (x ∷ [])
goes-more k inputs i x lt read =
    ap (goes_to k) (take_more inputs i x lt ∙ ap (λ (y : InputView). take i inputs ++ y ∷ []) (sym read))
    ∙ filter-append (λ (j : InputView). lane_at (input_digest j.text) 16 == k) (take i inputs) (x ∷ [])

-- A text is among leaves if it is there at least once.
pub among-times : (leaves : List Leaf) (t : Leaf) → is_among leaves t ≡ nat_lt 0 (times t leaves)
among-times [] t = refl
among-times (u ∷ leaves) t =
    let c = sum_by-cons {X = Leaf} (λ v. cond {A = ℕ} (same_text t v) 1 0) u leaves in
    by (same_text t u) refl (among-times leaves t) c
  where
    by : (b : Bool) → same_text t u ≡ b → is_among leaves t ≡ nat_lt 0 (times t leaves) → times t (u ∷ leaves) ≡ cond {A = ℕ} (same_text t u) 1 0 + times t leaves → (same_text t u || is_among leaves t) ≡ nat_lt 0 (times t (u ∷ leaves))
    by true is h c =
        let d : cond {A = ℕ} (same_text t u) 1 0 ≡ 1 = ap (λ (b : Bool). cond {A = ℕ} b 1 0) is in
        let n : 0 < times t (u ∷ leaves) = omega (arith, c, d) in
        let h : nat_lt 0 (times t (u ∷ leaves)) ≡ true = grind (arith, nat_tests) in
        ap (λ (b : Bool). b || is_among leaves t) is ∙ sym h
    by false is h c =
        let d : cond {A = ℕ} (same_text t u) 1 0 ≡ 0 = ap (λ (b : Bool). cond {A = ℕ} b 1 0) is in
        let n : times t (u ∷ leaves) ≡ times t leaves = omega (arith, c, d) in
        ap (λ (b : Bool). b || is_among leaves t) is ∙ h ∙ ap (λ (m : ℕ). nat_lt 0 m) (sym n)

module _ (parts setting : ℕ) (leaves : List Leaf) (k : ℕ) (l : LaneView) (holds : IsLaneOf parts setting leaves k l) where
  -- A lane between runs holds the lane's texts of the leaves.
  pub lane-holds : (t : Leaf) → leaf_lane t ≡ k → is_held l.texts t ≡ is_among leaves t
  lane-holds t own =
      let u = holds.used t in
      let c = (quiet-none t l.texts holds.quiet).0 in
      let b : of_lane k t (times t leaves) ≡ times t leaves = ap (λ (b : Bool). cond {A = ℕ} b (times t leaves) 0) (number-same (leaf_lane t) k own) in
      let n : used_of t l.texts + came_of t l.texts ≡ times t leaves = omega (arith, u, c, b) in
      ap (λ (m : ℕ). nat_lt 0 m) n ∙ sym (among-times leaves t)

  -- The cost of those of a lane's own texts that it does not hold.
  pub lane-weight : (w : Leaf → ℕ) (inputs : List InputView) → new_weight w l.texts (goes_to k inputs) ≡ weight w (is_among leaves) (lane_texts leaf_lane k (texts_of inputs))
  lane-weight w inputs =
      ap (weight w (is_held l.texts)) (goes-texts k inputs)
      ∙ weight-on w (is_held l.texts) (is_among leaves) (lane_texts leaf_lane k (texts_of inputs)) (λ u h. lane-holds u (lane-own leaf_lane k (texts_of inputs) u h))

  -- It may let those leave that belong to it.
  pub lane-may-leave : (gone : List Leaf) (own : List InputView) → ((t : Leaf) → times t (texts_of own) ≡ of_lane k t (times t gone)) → ((t : Leaf) → times t gone ≤ times t leaves) → MayLeave l own
  lane-may-leave gone own went less t =
      let u = holds.used t in
      let g = (quiet-none t l.texts holds.quiet).1 in
      let m = went t in
      let n = within (leaf_lane t == k) (less t) in
      omega (arith, u, g, m, n)
    where
      within : (b : Bool) → times t gone ≤ times t leaves → cond {A = ℕ} b (times t gone) 0 ≤ cond {A = ℕ} b (times t leaves) 0
      within true h = h
      within false h = omega arith

-- A lane that brought and noted what belongs to it, and settled, holds the lane's texts of the present leaves.
pub lane-led : (k : ℕ) (t : Leaf) (leaves fresh gone now : List Leaf) (used came went left_used : ℕ) → used ≡ of_lane k t (times t leaves) → came ≡ of_lane k t (times t fresh) → went ≡ of_lane k t (times t gone) → times t now + times t gone ≡ times t leaves + times t fresh → left_used + went ≡ used + came → left_used ≡ of_lane k t (times t now)
lane-led k t leaves fresh gone now used came went left_used = by (leaf_lane t == k)
  where
    by : (b : Bool) → used ≡ cond b (times t leaves) 0 → came ≡ cond b (times t fresh) 0 → went ≡ cond b (times t gone) 0 → times t now + times t gone ≡ times t leaves + times t fresh → left_used + went ≡ used + came → left_used ≡ cond b (times t now) 0
    by true u c g b e = omega (arith, u, c, g, b, e)
    by false u c g b e = omega (arith, u, c, g, e)

-- A text among leaves is there.
pub there-once : (leaves : List Leaf) (i : ℕ) (d : Leaf) → i < length leaves → 0 < times (slice_index_or leaves i d) leaves
there-once [] i d lt = absurd (omega (arith, lt))
there-once (u ∷ leaves) zero d lt =
    let c = sum_by-cons {X = Leaf} (λ v. cond {A = ℕ} (same_text u v) 1 0) u leaves in
    let e : cond {A = ℕ} (same_text u u) 1 0 ≡ 1 = ap (λ (b : Bool). cond {A = ℕ} b 1 0) (same-itself u) in
    omega (arith, c, e)
there-once (u ∷ leaves) (suc i) d lt =
    let t = slice_index_or leaves i d in
    let c = sum_by-cons {X = Leaf} (λ v. cond {A = ℕ} (same_text t v) 1 0) u leaves in
    let r = there-once leaves i d (omega (arith, lt)) in
    omega (arith, c, r)

-- A lane that was dealt inputs and then others got the texts that belong to it.
pub dealt-lane : (k : ℕ) (fresh gone : List InputView) (left_texts : List Leaf) (a b c d e f : List InputView) → texts_of gone ≡ left_texts → c ≡ a ++ goes_to k fresh → e ≡ c → f ≡ d ++ goes_to k gone → d ≡ b → IsDealtLane fresh left_texts k a b e f
dealt-lane k fresh gone left_texts a b c d e f texts came kept went same = record {
  came = kept ∙ came;
  went = λ t.
      let n = ap (λ (l : List InputView). times t (texts_of l)) (went ∙ ap (λ (l : List InputView). l ++ goes_to k gone) same) ∙ ap (times t) (map-append (λ (i : InputView). i.text) b (goes_to k gone)) ∙ sum_by-append {X = Leaf} (λ u. cond {A = ℕ} (same_text t u) 1 0) (texts_of b) (texts_of (goes_to k gone)) in
      let m = goes-times k gone t ∙ ap (λ (ts : List Leaf). of_lane k t (times t ts)) texts in
      n ∙ ap (λ (i : ℕ). times t (texts_of b) + i) m;
}

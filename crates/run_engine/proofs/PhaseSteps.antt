-- The first phase, for each lane.
use Rattle.std.proofs.Common.{◌≡◌, ℕ, zero, suc, ◌+◌, ◌<◌, ◌≤◌, ◌⊎◌, inl, inr, ⊎_elim, Bool, true, false, true≢false, ◌==◌, List, [], ◌++◌, length, All, refl, ap, sym, subst, ◌∙◌, arith}
use Rattle.std.specs.Prelude.{slice_index_or}
use Rattle.std.proofs.lemmas.List.Elements.{All-filter}
use Rattle.atomic_table.specs.Seated.{TableId}
use Rattle.definitions.specs.Answer.{pairs_of}
use Rattle.job_laws.specs.declared.meter.Counts.{Counts}
use Rattle.job_laws.specs.Counted.{RoseBy, RoseWithin}
use Rattle.job_laws.specs.Meanings.{Meaning}
use Rattle.job_laws.specs.Rows.{LaneRose, sum_of}
use Rattle.job_laws.proofs.CountLaws.{rose_none, rose_more, lane_rose}
use Rattle.pin_table.proofs.Covering.{later-same}
use Rattle.window_manager.specs.Windows.{Leaf}
use Rattle.map_tasks.specs.Inputs.{InputView, input_digest, lane_at}
use Rattle.map_tasks.specs.Lanes.{LaneView}
use Rattle.map_tasks.proofs.Totals.{quiet-none}
use Rattle.run_engine.specs.NewTexts.{times, is_among}
use Rattle.run_engine.specs.Inputs.{texts_of, goes_to}
use Rattle.run_engine.specs.LaneTasks.{IsReadyLane, IsWorkedLane, IsInputFor, new_weight}
use Rattle.run_engine.specs.Engines.{IsLaneOf, of_lane}
use Rattle.run_engine.specs.Phases.{IsTriedLane, IsBroughtLane, IsDealtLane, LanesCounted}
use Rattle.run_engine.specs.Rows.{OthersStay}
use Rattle.run_engine.proofs.TextCounts.{weight, lane_texts, lanes-weight, below-same}
use Rattle.run_engine.proofs.Dealt.{leaf_lane, leaf-lane-within, goes-times, lane-may-leave}
use Rattle.run_engine.proofs.Sums.{sum-rose}

module _ {V : Type 0} (m : Meaning V) (setting parts : ℕ) where
  -- A lane between runs that was dealt what comes and what leaves is ready.
  pub lane-ready : (locks : List TableId) (leaves gone : List Leaf) (fresh : List InputView) (k : ℕ) (lane lane_now : LaneView) (old_fresh old_gone new_fresh new_gone : List InputView) → lane.caller.locks ≡ locks → IsLaneOf parts setting leaves k lane → (1 ≤ parts) × (parts ≤ 16) → All (IsInputFor m setting parts) fresh → ((t : Leaf) → times t gone ≤ times t leaves)
      → old_fresh ≡ [] → old_gone ≡ [] → lane_now ≡ lane → IsDealtLane fresh gone k old_fresh old_gone new_fresh new_gone → IsReadyLane m setting parts locks lane_now new_fresh new_gone
  lane-ready locks leaves gone fresh k lane lane_now old_fresh old_gone new_fresh new_gone of holds within inputs less no_fresh no_gone same dealt =
      subst (λ (l : LaneView). IsReadyLane m setting parts locks l new_fresh new_gone) (sym same) (record {
        brings = record {
          of = of;
          within = within;
          mapped = holds.mapped;
          inputs = subst (All (IsInputFor m setting parts)) (sym (dealt.came ∙ ap (λ (l : List InputView). l ++ goes_to k fresh) no_fresh)) (All-filter (λ i. lane_at (input_digest i.text) 16 == k) (IsInputFor m setting parts) fresh inputs);
        };
        leaves = lane-may-leave parts setting leaves k lane holds gone new_gone (λ t. dealt.went t ∙ ap (λ (l : List InputView). times t (texts_of l) + of_lane k t (times t gone)) no_gone ∙ zero-first (of_lane k t (times t gone))) less;
      })
    where
      zero-first : (n : ℕ) → 0 + n ≡ n
      zero-first n = omega arith

  -- A lane that was done was tried.
  pub lane-tried : (fresh gone : List InputView) (old new : LaneView) (a b : Counts) (failed : Bool) → IsWorkedLane m setting parts fresh gone old new a b failed → IsTriedLane parts setting old new
  lane-tried fresh gone old new a b failed w = record { later = w.later; mapped = w.mapped; used = w.used }

  -- If it did not fail, it brought what belongs to it.
  pub lane-brought : (leaves gone : List Leaf) (fresh : List InputView) (k : ℕ) (lane new : LaneView) (old_fresh old_gone new_fresh new_gone : List InputView) (a b : Counts) → IsLaneOf parts setting leaves k lane → old_fresh ≡ [] → old_gone ≡ [] → IsDealtLane fresh gone k old_fresh old_gone new_fresh new_gone → IsWorkedLane m setting parts new_fresh new_gone lane new a b false
      → IsBroughtLane (texts_of fresh) gone k new
  lane-brought leaves gone fresh k lane new old_fresh old_gone new_fresh new_gone a b holds no_fresh no_gone dealt w = record {
    came = λ t.
        let c = w.came refl t in
        let q = (quiet-none t lane.texts holds.quiet).0 in
        let d = ap (λ (l : List InputView). times t (texts_of l)) (dealt.came ∙ ap (λ (l : List InputView). l ++ goes_to k fresh) no_fresh) ∙ goes-times k fresh t in
        omega (arith, c, q, d);
    went = λ t.
        let c = w.went refl t in
        let q = (quiet-none t lane.texts holds.quiet).1 in
        let d = dealt.went t in
        let z : times t (texts_of old_gone) ≡ 0 = ap (λ (l : List InputView). times t (texts_of l)) no_gone in
        omega (arith, c, q, d, z);
  }

-- What all lanes counted together is what the new texts cost.
pub lanes-counted : {M : Type 0} (f : M → ℕ) (w : Leaf → ℕ) (leaves fresh : List Leaf) (b : ℕ → ℕ) → ((k : ℕ) → k < 16 → b k ≡ weight w (is_among leaves) (lane_texts leaf_lane k fresh)) → (old new : List M) → 16 ≤ length old → length new ≡ length old
    → ((k : ℕ) (d e : M) → k < 16 → RoseWithin (b k) (f (slice_index_or old k d)) (f (slice_index_or new k e))) → ((k : ℕ) (d : M) → 16 ≤ k → slice_index_or new k d ≡ slice_index_or old k d)
    → RoseWithin (weight w (is_among leaves) fresh) (sum_of f old) (sum_of f new)
lanes-counted f w leaves fresh b is old new le count rose others =
    let r = sum-rose f b 16 old new le count rose others in
    let s = below-same b (λ k. weight w (is_among leaves) (lane_texts leaf_lane k fresh)) 16 is in
    let t = lanes-weight leaf_lane w 16 leaf-lane-within (is_among leaves) fresh in
    (r.0, omega (arith, r, s, t))

module _ {V : Type 0} (m : Meaning V) (setting parts : ℕ) where
  -- Less is known of a lane that may have failed.
  pub lane-failed : (fresh gone : List InputView) (old new : LaneView) (a b : Counts) (failed : Bool) → IsWorkedLane m setting parts fresh gone old new a b failed → IsWorkedLane m setting parts fresh gone old new a b true
  lane-failed fresh gone old new a b failed w = record { later = w.later; mapped = w.mapped; used = w.used; came = λ is. absurd (true≢false is); went = λ is. absurd (true≢false is); counted = w.counted }

  -- A lane whose task was not done.
  pub lane-idle : (locks : List TableId) (fresh gone : List InputView) (lane : LaneView) (a : Counts) → IsReadyLane m setting parts locks lane fresh gone → IsWorkedLane m setting parts fresh gone lane lane a a true
  lane-idle locks fresh gone lane a ready = record {
    later = later-same lane.caller;
    mapped = ready.brings.mapped;
    used = λ t. refl;
    came = λ is. absurd (true≢false is);
    went = λ is. absurd (true≢false is);
    counted = rose_more 0 0 0 (new_weight length lane.texts fresh) 0 (new_weight (λ t. length (pairs_of m.emits t)) lane.texts fresh) a a (omega arith) (omega arith) (omega arith) (rose_none a);
  }

-- What the meters of all lanes counted, by what each counted.
pub all-counted : {V M : Type 0} (m : Meaning V) (counts : M → Counts) (leaves texts : List Leaf) (old new : List M) → 16 ≤ length old → OthersStay 16 old new
    → ((k : ℕ) (d e : M) → k < 16 → RoseBy (weight length (is_among leaves) (lane_texts leaf_lane k texts)) 0 (weight (λ t. length (pairs_of m.emits t)) (is_among leaves) (lane_texts leaf_lane k texts)) (counts (slice_index_or old k d)) (counts (slice_index_or new k e)))
    → LanesCounted m counts leaves texts old new
all-counted {V} {M} m counts leaves texts old new le others rose = record {
  count = others.count;
  each = λ i d. each i d (side i 16);
  maps = lanes-counted (λ n. (counts n).maps) length leaves texts (λ k. weight length (is_among leaves) (lane_texts leaf_lane k texts)) (λ k lt. refl) old new le others.count (λ k d e lt. (rose k d e lt).maps) others.same;
  joins = lanes-counted (λ n. (counts n).joins) (λ t. length (pairs_of m.emits t)) leaves texts (λ k. weight (λ t. length (pairs_of m.emits t)) (is_among leaves) (lane_texts leaf_lane k texts)) (λ k lt. refl) old new le others.count (λ k d e lt. (rose k d e lt).joins) others.same;
}
  where
    side : (k n : ℕ) → (k < n) ⊎ (n ≤ k)
    side k zero = inr (omega arith)
    side zero (suc n) = inl (omega arith)
    side (suc k) (suc n) = ⊎_elim (λ (l : k < n). inl (omega (arith, l))) (λ (r : n ≤ k). inr (omega (arith, r))) (side k n)

    each : (i : ℕ) (d : M) → (i < 16) ⊎ (16 ≤ i) → LaneRose (counts (slice_index_or old i d)) (counts (slice_index_or new i d))
    each i d at = ⊎_elim (λ (l : i < 16). lane_rose (weight length (is_among leaves) (lane_texts leaf_lane i texts)) (weight (λ t. length (pairs_of m.emits t)) (is_among leaves) (lane_texts leaf_lane i texts)) (counts (slice_index_or old i d)) (counts (slice_index_or new i d)) (rose i d d l))
        (λ (r : 16 ≤ i). subst (λ (x : M). LaneRose (counts (slice_index_or old i d)) (counts x)) (sym (others.same i d r)) (omega arith, refl, omega arith)) at

-- Meters that did not count.
pub none-counted : {V M : Type 0} (m : Meaning V) (counts : M → Counts) (leaves texts : List Leaf) (old : List M) → LanesCounted m counts leaves texts old old
none-counted m counts leaves texts old = record { count = refl; each = λ i d. (omega arith, refl, omega arith); maps = (omega arith, omega arith); joins = (omega arith, omega arith) }

-- The first phase, for all lanes.
use Rattle.std.proofs.Common.{◌≡◌, ℕ, ◌<◌, ◌≤◌, Bool, true, false, List, ◌++◌, length, All, refl, ap, sym, subst, ◌∙◌, arith}
use Rattle.std.specs.Prelude.{slice_index_or}
use Rattle.std.proofs.lemmas.List.{get_or_default}
use Rattle.atomic_table.specs.Seated.{TableId}
use Rattle.definitions.specs.Answer.{pairs_of}
use Rattle.job_laws.specs.declared.meter.Counts.{Counts}
use Rattle.job_laws.specs.Counted.{RoseBy}
use Rattle.job_laws.specs.Meanings.{Meaning}
use Rattle.pin_table.proofs.Covering.{later-same}
use Rattle.window_manager.specs.Windows.{Leaf}
use Rattle.map_tasks.specs.Inputs.{InputView}
use Rattle.map_tasks.specs.Texts.{IsMappedSo}
use Rattle.map_tasks.specs.Lanes.{LaneView}
use Rattle.run_engine.specs.declared.lane_seat.LaneSeat.{LaneSeat}
use Rattle.run_engine.specs.InPlace.{EachAt, EachPair}
use Rattle.run_engine.specs.NewTexts.{times, is_among}
use Rattle.run_engine.specs.Inputs.{texts_of, goes_to}
use Rattle.run_engine.specs.LaneTasks.{IsReadyLane, IsWorkedLane, IsInputFor, new_weight}
use Rattle.run_engine.specs.Engines.{IsLaneSeat}
use Rattle.run_engine.specs.Phases.{IsTriedLane, IsBroughtLane, IsDealtLane}
use Rattle.run_engine.proofs.InPlaceSteps.{at-place}
use Rattle.run_engine.proofs.TextCounts.{weight, lane_texts}
use Rattle.run_engine.proofs.Dealt.{leaf_lane, lane-weight}
use Rattle.run_engine.proofs.PhaseSteps.{lane-ready, lane-tried, lane-brought, lane-idle, lane-failed}

-- A lane that nothing happened to was tried.
pub tried-same : (parts setting : ℕ) (old new : LaneView) → All (IsMappedSo parts setting) old.texts → new ≡ old → IsTriedLane parts setting old new
tried-same parts setting old new mapped same = subst (IsTriedLane parts setting old) (sym same) (record { later = later-same old.caller; mapped = mapped; used = λ t. refl })

module _ {J V M : Type 0} (m : Meaning V) (setting parts : ℕ) (counts : M → Counts) (locks : List TableId) (leaves gone : List Leaf) (fresh : List InputView) (old mid new : List (LaneSeat J V M)) (before now : List M) (failed : Bool)
    (seats : EachAt (IsLaneSeat parts setting locks leaves) old)
    (dealt : EachPair (λ k s t. (t.lane ≡ s.lane) × IsDealtLane fresh gone k s.fresh.items s.gone.items t.fresh.items t.gone.items) old mid)
    (worked : EachPair (λ k s t. (d e : M) → IsWorkedLane m setting parts s.fresh.items s.gone.items s.lane t.lane (counts (slice_index_or before k d)) (counts (slice_index_or now k e)) failed) mid new) where
  -- One lane: its task, from the lane before on.
  one : (k : ℕ) (d e : LaneSeat J V M) (x y : M) → k < length old → IsWorkedLane m setting parts (slice_index_or mid k d).fresh.items (slice_index_or mid k d).gone.items (slice_index_or old k d).lane (slice_index_or new k e).lane (counts (slice_index_or before k x)) (counts (slice_index_or now k y)) failed
  one k d e x y lt =
      let n = dealt.count in
      subst (λ (l : LaneView). IsWorkedLane m setting parts (slice_index_or mid k d).fresh.items (slice_index_or mid k d).gone.items l (slice_index_or new k e).lane (counts (slice_index_or before k x)) (counts (slice_index_or now k y)) failed) (dealt.each k d d lt).0
      (worked.each k d e (omega (arith, lt, n)) x y)

  pub all-tried : length old ≤ length before → EachPair (λ k s t. IsTriedLane parts setting s.lane t.lane) old new
  all-tried meters =
      let n = dealt.count in
      let o = worked.count in
      record {
        count = omega (arith, n, o);
        each = λ k d e lt.
            let x = at-place before k (omega (arith, lt, meters)) in
            lane-tried m setting parts (slice_index_or mid k d).fresh.items (slice_index_or mid k d).gone.items (slice_index_or old k d).lane (slice_index_or new k e).lane (counts (slice_index_or before k x.0)) (counts (slice_index_or now k x.0)) failed (one k d e x.0 x.0 lt);
      }

  pub all-brought : length old ≤ length before → failed ≡ false → EachAt (λ k s. IsBroughtLane (texts_of fresh) gone k s.lane) new
  all-brought meters is k d lt =
      let n = dealt.count in
      let o = worked.count in
      let lo : k < length old = omega (arith, lt, n, o) in
      let x = at-place before k (omega (arith, lo, meters)) in
      let s = seats k d lo in
      lane-brought m setting parts leaves gone fresh k (slice_index_or old k d).lane (slice_index_or new k d).lane (slice_index_or old k d).fresh.items (slice_index_or old k d).gone.items (slice_index_or mid k d).fresh.items (slice_index_or mid k d).gone.items
      (counts (slice_index_or before k x.0)) (counts (slice_index_or now k x.0)) s.holds s.no_fresh s.no_gone (dealt.each k d d lo).1
      (subst (λ (b : Bool). IsWorkedLane m setting parts (slice_index_or mid k d).fresh.items (slice_index_or mid k d).gone.items (slice_index_or old k d).lane (slice_index_or new k d).lane (counts (slice_index_or before k x.0)) (counts (slice_index_or now k x.0)) b) is (one k d d x.0 x.0 lo))

  pub each-counted : length old ≡ 16 → (k : ℕ) (x y : M) → k < 16 → RoseBy (weight length (is_among leaves) (lane_texts leaf_lane k (texts_of fresh))) 0 (weight (λ t. length (pairs_of m.emits t)) (is_among leaves) (lane_texts leaf_lane k (texts_of fresh))) (counts (slice_index_or before k x)) (counts (slice_index_or now k y))
  each-counted count k x y lt =
      let lo : k < length old = omega (arith, lt, count) in
      let i = at-place old k lo in
      let s = seats k i.0 lo in
      let w = (one k i.0 i.0 x y lo).counted in
      let own : (slice_index_or mid k i.0).fresh.items ≡ goes_to k fresh = (dealt.each k i.0 i.0 lo).1.came ∙ ap (λ (l : List InputView). l ++ goes_to k fresh) s.no_fresh in
      let a : new_weight length (slice_index_or old k i.0).lane.texts (slice_index_or mid k i.0).fresh.items ≡ weight length (is_among leaves) (lane_texts leaf_lane k (texts_of fresh)) =
      ap (new_weight length (slice_index_or old k i.0).lane.texts) own ∙ lane-weight parts setting leaves k (slice_index_or old k i.0).lane s.holds length fresh in
      let b : new_weight (λ t. length (pairs_of m.emits t)) (slice_index_or old k i.0).lane.texts (slice_index_or mid k i.0).fresh.items ≡ weight (λ t. length (pairs_of m.emits t)) (is_among leaves) (lane_texts leaf_lane k (texts_of fresh)) =
      ap (new_weight (λ t. length (pairs_of m.emits t)) (slice_index_or old k i.0).lane.texts) own ∙ lane-weight parts setting leaves k (slice_index_or old k i.0).lane s.holds (λ t. length (pairs_of m.emits t)) fresh in
      subst (λ (n : ℕ). RoseBy n 0 (weight (λ t. length (pairs_of m.emits t)) (is_among leaves) (lane_texts leaf_lane k (texts_of fresh))) (counts (slice_index_or before k x)) (counts (slice_index_or now k y))) a
      (subst (λ (n : ℕ). RoseBy (new_weight length (slice_index_or old k i.0).lane.texts (slice_index_or mid k i.0).fresh.items) 0 n (counts (slice_index_or before k x)) (counts (slice_index_or now k y))) b w)

-- All lanes that were dealt to are ready.
pub all-ready : {J V M : Type 0} (m : Meaning V) (setting parts : ℕ) (locks : List TableId) (leaves gone : List Leaf) (fresh : List InputView) (old mid : List (LaneSeat J V M)) → EachAt (IsLaneSeat parts setting locks leaves) old
    → EachPair (λ k s t. (t.lane ≡ s.lane) × IsDealtLane fresh gone k s.fresh.items s.gone.items t.fresh.items t.gone.items) old mid → (1 ≤ parts) × (parts ≤ 16) → All (IsInputFor m setting parts) fresh → ((t : Leaf) → times t gone ≤ times t leaves)
    → All (λ s. IsReadyLane m setting parts locks s.lane s.fresh.items s.gone.items) mid
all-ready m setting parts locks leaves gone fresh old mid seats dealt within inputs less k d lt =
    let n = dealt.count in
    let lo : k < length old = omega (arith, lt, n) in
    let s = seats k d lo in
    let p = dealt.each k d d lo in
    lane-ready m setting parts locks leaves gone fresh k (slice_index_or old k d).lane (slice_index_or mid k d).lane (slice_index_or old k d).fresh.items (slice_index_or old k d).gone.items (slice_index_or mid k d).fresh.items (slice_index_or mid k d).gone.items
    s.of s.holds within inputs less s.no_fresh s.no_gone p.0 p.1

-- Lanes whose task was not done.
pub all-idle : {J V M : Type 0} (m : Meaning V) (setting parts : ℕ) (counts : M → Counts) (locks : List TableId) (lanes : List (LaneSeat J V M)) (before : List M) → All (λ s. IsReadyLane m setting parts locks s.lane s.fresh.items s.gone.items) lanes → length lanes ≤ length before
    → EachPair (λ k s t. (d e : M) → IsWorkedLane m setting parts s.fresh.items s.gone.items s.lane t.lane (counts (slice_index_or before k d)) (counts (slice_index_or before k e)) true) lanes lanes
all-idle {J} {V} {M} m setting parts counts locks lanes before ready meters = record { count = refl; each = λ k d e lt x y. at k d e lt x y }
  where
    at : (k : ℕ) (d e : LaneSeat J V M) → k < length lanes → (x y : M) → IsWorkedLane m setting parts (slice_index_or lanes k d).fresh.items (slice_index_or lanes k d).gone.items (slice_index_or lanes k d).lane (slice_index_or lanes k e).lane (counts (slice_index_or before k x)) (counts (slice_index_or before k y)) true
    at k d e lt x y =
        let s = slice_index_or lanes k d in
        subst (λ (t : LaneSeat J V M). IsWorkedLane m setting parts s.fresh.items s.gone.items s.lane t.lane (counts (slice_index_or before k x)) (counts (slice_index_or before k y)) true) (get_or_default lanes k d e lt)
        (subst (λ (n : M). IsWorkedLane m setting parts s.fresh.items s.gone.items s.lane s.lane (counts (slice_index_or before k x)) (counts n) true) (get_or_default before k x y (omega (arith, lt, meters)))
        (lane-idle m setting parts locks s.fresh.items s.gone.items s.lane (counts (slice_index_or before k x)) (ready k d lt)))

-- What the lanes' tasks leave, by what each task leaves.
module _ {J V M : Type 0} (m : Meaning V) (setting parts : ℕ) (counts : M → Counts) (lanes now : List (LaneSeat J V M)) (before after : List M) where
  module _ (count : length now ≡ length lanes)
      (each : (k : ℕ) (d f : LaneSeat J V M) (e g : M) → k < length lanes → IsWorkedLane m setting parts (slice_index_or lanes k d).fresh.items (slice_index_or lanes k d).gone.items (slice_index_or lanes k d).lane (slice_index_or now k f).lane (counts (slice_index_or before k e)) (counts (slice_index_or after k g)) (slice_index_or now k f).failed) where
    -- None failed.
    pub lanes-well : All (λ s. s.failed ≡ false) now → EachPair (λ k s t. (d e : M) → IsWorkedLane m setting parts s.fresh.items s.gone.items s.lane t.lane (counts (slice_index_or before k d)) (counts (slice_index_or after k e)) false) lanes now
    lanes-well well = record {
      count = count;
      each = λ k d f lt e g. subst (λ (b : Bool). IsWorkedLane m setting parts (slice_index_or lanes k d).fresh.items (slice_index_or lanes k d).gone.items (slice_index_or lanes k d).lane (slice_index_or now k f).lane (counts (slice_index_or before k e)) (counts (slice_index_or after k g)) b) (well k f (omega (arith, lt, count))) (each k d f e g lt);
    }

    -- Some may have failed.
    pub lanes-unwell : EachPair (λ k s t. (d e : M) → IsWorkedLane m setting parts s.fresh.items s.gone.items s.lane t.lane (counts (slice_index_or before k d)) (counts (slice_index_or after k e)) true) lanes now
    lanes-unwell = record {
      count = count;
      each = λ k d f lt e g. lane-failed m setting parts (slice_index_or lanes k d).fresh.items (slice_index_or lanes k d).gone.items (slice_index_or lanes k d).lane (slice_index_or now k f).lane (counts (slice_index_or before k e)) (counts (slice_index_or after k g)) (slice_index_or now k f).failed (each k d f e g lt);
    }

  -- None was done.
  pub lanes-unworked : (locks : List TableId) → now ≡ lanes → after ≡ before → All (λ s. IsReadyLane m setting parts locks s.lane s.fresh.items s.gone.items) lanes → length lanes ≤ length before → EachPair (λ k s t. (d e : M) → IsWorkedLane m setting parts s.fresh.items s.gone.items s.lane t.lane (counts (slice_index_or before k d)) (counts (slice_index_or after k e)) true) lanes now
  lanes-unworked locks same still ready meters =
      subst (λ (l : List (LaneSeat J V M)). EachPair (λ k s t. (d e : M) → IsWorkedLane m setting parts s.fresh.items s.gone.items s.lane t.lane (counts (slice_index_or before k d)) (counts (slice_index_or after k e)) true) lanes l) (sym same)
      (subst (λ (a : List M). EachPair (λ k s t. (d e : M) → IsWorkedLane m setting parts s.fresh.items s.gone.items s.lane t.lane (counts (slice_index_or before k d)) (counts (slice_index_or a k e)) true) lanes lanes) (sym still)
      (all-idle m setting parts counts locks lanes before ready meters))

-- Lanes between runs have tried nothing.
pub lanes-untried : {J V M : Type 0} (parts setting : ℕ) (locks : List TableId) (leaves : List Leaf) (old : List (LaneSeat J V M)) → EachAt (IsLaneSeat parts setting locks leaves) old → EachPair (λ k s t. IsTriedLane parts setting s.lane t.lane) old old
lanes-untried {J} {V} {M} parts setting locks leaves old seats = record {
  count = refl;
  each = λ k d e lt. tried-same parts setting (slice_index_or old k d).lane (slice_index_or old k e).lane (seats k d lt).holds.mapped (ap (λ (s : LaneSeat J V M). s.lane) (sym (get_or_default old k d e lt)));
}

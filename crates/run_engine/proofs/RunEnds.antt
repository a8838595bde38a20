-- The ends of a run: the engine afterwards, by what it was and what its parts did.
use Rattle.std.proofs.Common.{◌≡◌, ℕ, ◌+◌, ◌<◌, ◌⊎◌, Bool, true, false, List, [], length, map, All, refl, ap, sym, subst, ◌∙◌, arith}
use Rattle.std.specs.Prelude.{Option, slice_index_or}
use Rattle.atomic_table.specs.Seated.{TableId}
use Rattle.job_laws.specs.declared.meter.Counts.{Counts}
use Rattle.job_laws.specs.Meanings.{Meaning, AllAccepted}
use Rattle.job_laws.specs.Rows.{Row, RowRose, sum_of}
use Rattle.record_text.specs.Shifts.{shifted, left, first_after}
use Rattle.record_text.specs.declared.shift.Shift.{Shift}
use Rattle.sheets.specs.Parts.{PartsShare}
use Rattle.pin_table.specs.Views.{MemoView}
use Rattle.pin_table.specs.Covers.{PinName, IsLater}
use Rattle.pin_table.specs.OwnEvents.{Met}
use Rattle.collector.specs.Collectors.{CollectorView, horizon_of}
use Rattle.window_manager.specs.Windows.{Leaf}
use Rattle.window_manager.specs.Views.{WindowView, shift_of}
use Rattle.window_manager.specs.Since.{IsSince, ShiftBalances, fresh_leaves}
use Rattle.map_tasks.specs.Inputs.{InputView}
use Rattle.tree_laws.specs.Trees.{Shape, TreeView, bound_of}
use Rattle.run_settings.specs.declared.settings.Settings.{Settings}
use Rattle.run_engine.specs.declared.lane_seat.LaneSeat.{LaneSeat}
use Rattle.run_engine.specs.declared.part_seat.PartSeat.{PartSeat}
use Rattle.run_engine.specs.InPlace.{EachAt, EachPair}
use Rattle.run_engine.specs.NewTexts.{is_among}
use Rattle.run_engine.specs.Inputs.{texts_of, input_for}
use Rattle.run_engine.specs.Sweeps.{IsSwept, SweptAll, SweptSome, swept_by}
use Rattle.run_engine.specs.Engines.{EngineView, IsWhole, IsPartSeat, IsCollectorIn, engine_of, seat_view}
use Rattle.run_engine.specs.Finishing.{SettlesLane, RevertsLane, SettlesTree, RevertsTree}
use Rattle.run_engine.specs.Phases.{IsTriedLane, IsBroughtLane, IsTriedPart, IsShiftedPart, LanesCounted, PartsCounted}
use Rattle.run_engine.specs.Runs.{IsRun, IsNoRun, IsSameEngine, IsLaterEngine, LanesWorked, PartsWorked, RunWorked}
use Rattle.run_engine.proofs.Moves.{moved-two}
use Rattle.run_engine.proofs.EngineSteps.{since-new, since-balance, texts-for}
use Rattle.run_engine.proofs.Fits.{among-brought}
use Rattle.run_engine.proofs.Leads.{map-shifted}
use Rattle.run_engine.proofs.RunSteps.{maps-within, joins-within}
use Rattle.run_engine.proofs.RunClauses.{lanes-settled, lanes-reverted, lanes-undone, lanes-later, parts-settled, shapes-settled, parts-reverted, trees-undone, parts-later}
use Rattle.run_engine.proofs.RunParts.{parts-rose, parts-clause}

-- The texts of the inputs that were shifted are the window's leaves.
pub texts-shifted : (parts setting : ℕ) (shift : Shift) (fresh now : List Leaf) (leaves leaves_mid news leaves_now : List InputView) → now ≡ shifted shift fresh (texts_of leaves) → leaves_mid ≡ leaves → news ≡ map (input_for parts setting) fresh → leaves_now ≡ shifted shift news leaves_mid → texts_of leaves_now ≡ now
texts-shifted parts setting shift fresh now leaves leaves_mid news leaves_now leads same made is =
    ap texts_of (is ∙ ap (shifted shift news) same)
    ∙ map-shifted (λ (i : InputView). i.text) shift news leaves
    ∙ ap (λ (l : List Leaf). shifted shift l (texts_of leaves)) (ap texts_of made ∙ texts-for parts setting fresh)
    ∙ sym leads

-- A collector that swept is still a collector of its memo.
pub collects : (locks : List TableId) (keep horizon : ℕ) (old new : CollectorView) (failed : Bool) → IsCollectorIn locks keep old → IsSwept horizon old new failed → IsCollectorIn locks keep new
collects locks keep horizon old new failed c s = record { of = s.later.locks ∙ c.of; keep_is = s.keep ∙ c.keep_is }

-- What it swept, by the engine's settings.
pub swept-some : (locks : List TableId) (keep run : ℕ) (old new : CollectorView) (failed : Bool) → IsCollectorIn locks keep old → IsSwept (horizon_of old.keep run) old new failed → SweptSome (horizon_of keep run) old.caller new.caller
swept-some locks keep run old new failed c s = subst (λ (k : ℕ). SweptSome (horizon_of k run) old.caller new.caller) c.keep_is s.some

pub swept-whole : (locks : List TableId) (keep run : ℕ) (old new : CollectorView) → IsCollectorIn locks keep old → IsSwept (horizon_of old.keep run) old new false → SweptAll (horizon_of keep run) old.caller new.caller
swept-whole locks keep run old new c s = subst (λ (k : ℕ). SweptAll (horizon_of k run) old.caller new.caller) c.keep_is (s.all refl)

module _ {J T V M : Type 0} (mean : J → Meaning V) (view : T → TreeView V) (pins : T → List PinName) (most : T → ℕ) (job : J) (settings : Settings) (setting runs first : ℕ) (leaves leaves_now : List InputView) (leaf_memo merge_memo : MemoView)
    (lanes lanes_mid lanes_now : List (LaneSeat J V M)) (parts parts_mid parts_now : List (PartSeat J T V M)) (ls ls_now ms ms_now : Option CollectorView)
    (whole : IsWhole (mean job) view pins most setting first settings (texts_of leaves) leaf_memo.locks merge_memo.locks lanes parts (swept_by ls) (swept_by ms))
    (tried_lanes : EachPair (λ k s t. IsTriedLane settings.parts setting s.lane t.lane) lanes lanes_mid) (tried_parts : EachPair (λ p s t. IsTriedPart view pins s.tree s.caller t.tree t.caller) parts parts_mid)
    (leaf_horizon merge_horizon : ℕ) (failed : Bool) (leaf_swept : IsSwept leaf_horizon (swept_by ls) (swept_by ls_now) failed) (merge_swept : IsSwept merge_horizon (swept_by ms) (swept_by ms_now) failed)
    (v : EngineView J T) (seen : engine_of job settings runs first leaves leaf_memo merge_memo lanes parts ls ms ≡ v) where
  module _ (same : leaves_now ≡ leaves) (lanes_end : EachPair (λ k s t. RevertsLane s.lane t.lane t.fresh.items t.gone.items) lanes_mid lanes_now) (parts_end : EachPair (λ p s t. RevertsTree view pins most s.tree s.caller t.tree t.caller t.fresh.items) parts_mid parts_now) where
    -- A run that was undone: everything holds as before.
    pub whole-undone : IsWhole (mean job) view pins most setting first settings (texts_of leaves_now) leaf_memo.locks merge_memo.locks lanes_now parts_now (swept_by ls_now) (swept_by ms_now)
    whole-undone =
        subst (λ (l : List InputView). IsWhole (mean job) view pins most setting first settings (texts_of l) leaf_memo.locks merge_memo.locks lanes_now parts_now (swept_by ls_now) (swept_by ms_now)) (sym same) (record {
          settings_are = whole.settings_are;
          accepted = whole.accepted;
          lanes_count = lanes_end.count ∙ tried_lanes.count ∙ whole.lanes_count;
          lanes_are = lanes-reverted settings.parts setting leaf_memo.locks (texts_of leaves) lanes lanes_mid lanes_now whole.lanes_are tried_lanes lanes_end;
          parts_count = parts_end.count ∙ tried_parts.count ∙ whole.parts_count;
          parts_are = parts-reverted (mean job) setting settings.parts view pins most settings.places first merge_memo.locks (texts_of leaves) parts parts_mid parts_now whole.parts_are tried_parts parts_end;
          leaf_sweeps = collects leaf_memo.locks settings.keep leaf_horizon (swept_by ls) (swept_by ls_now) failed whole.leaf_sweeps leaf_swept;
          merge_sweeps = collects merge_memo.locks settings.keep merge_horizon (swept_by ms) (swept_by ms_now) failed whole.merge_sweeps merge_swept;
        })

    pub no-run : IsNoRun view v (engine_of job settings runs first leaves_now leaf_memo merge_memo lanes_now parts_now ls_now ms_now)
    no-run = subst (λ (o : EngineView J T). IsNoRun view o (engine_of job settings runs first leaves_now leaf_memo merge_memo lanes_now parts_now ls_now ms_now)) seen (record {
      runs = refl;
      leaves = ap texts_of same;
      first = refl;
      lanes = lanes-undone settings.parts setting leaf_memo.locks (texts_of leaves) lanes lanes_mid lanes_now tried_lanes lanes_end;
      trees = trees-undone (mean job) setting settings.parts view pins most settings.places first merge_memo.locks (texts_of leaves) parts parts_mid parts_now tried_parts parts_end;
    })

    pub later-undone : IsLaterEngine v (engine_of job settings runs first leaves_now leaf_memo merge_memo lanes_now parts_now ls_now ms_now)
    later-undone = subst (λ (o : EngineView J T). IsLaterEngine o (engine_of job settings runs first leaves_now leaf_memo merge_memo lanes_now parts_now ls_now ms_now)) seen (record {
      lanes = lanes-later settings.parts setting leaf_memo.locks (texts_of leaves) lanes lanes_mid lanes_now (λ k (s t : LaneSeat J V M). RevertsLane s.lane t.lane t.fresh.items t.gone.items) (λ k s t r. r.finished.later) tried_lanes lanes_end;
      parts = parts-later (mean job) setting settings.parts view pins most settings.places first merge_memo.locks (texts_of leaves) parts parts_mid parts_now (λ p (s t : PartSeat J T V M). RevertsTree view pins most s.tree s.caller t.tree t.caller t.fresh.items) (λ p s t r. r.balanced.later) tried_parts parts_end;
      leaf_collector = leaf_swept.later;
      merge_collector = merge_swept.later;
    })

  module _ (w : WindowView) (since : IsSince first (texts_of leaves) w) (texts_now : texts_of leaves_now ≡ w.window.leaves) (first_now : ℕ) (first_is : first_now ≡ first_after (shift_of w) first) (shaped : Shape → Shift → Shape) (accepted : All (AllAccepted (mean job)) w.window.leaves) (balances : ShiftBalances)
      (brought : EachAt (λ k s. IsBroughtLane (fresh_leaves w) (left [] (shift_of w) (texts_of leaves)) k s.lane) lanes_mid)
      (took : EachPair (λ p s t. IsShiftedPart view (mean job) settings.parts shaped (shift_of w) (fresh_leaves w) p s.tree t.tree) parts parts_mid)
      (lanes_end : EachPair (λ k s t. SettlesLane s.lane t.lane t.fresh.items t.gone.items) lanes_mid lanes_now) (parts_end : EachPair (λ p s t. SettlesTree view pins most s.tree s.caller t.tree t.caller t.fresh.items) parts_mid parts_now) where
    -- A run that is kept.
    pub whole-settled : IsWhole (mean job) view pins most setting first_now settings (texts_of leaves_now) leaf_memo.locks merge_memo.locks lanes_now parts_now (swept_by ls_now) (swept_by ms_now)
    whole-settled =
        subst (λ (f : ℕ). IsWhole (mean job) view pins most setting f settings (texts_of leaves_now) leaf_memo.locks merge_memo.locks lanes_now parts_now (swept_by ls_now) (swept_by ms_now)) (sym first_is) (
        subst (λ (l : List Leaf). IsWhole (mean job) view pins most setting (first_after (shift_of w) first) settings l leaf_memo.locks merge_memo.locks lanes_now parts_now (swept_by ls_now) (swept_by ms_now)) (sym texts_now) (record {
          settings_are = whole.settings_are;
          accepted = accepted;
          lanes_count = lanes_end.count ∙ tried_lanes.count ∙ whole.lanes_count;
          lanes_are = lanes-settled settings.parts setting leaf_memo.locks (texts_of leaves) lanes lanes_mid lanes_now (fresh_leaves w) (left [] (shift_of w) (texts_of leaves)) w.window.leaves whole.lanes_are tried_lanes brought lanes_end (since-balance (mean job) setting settings.parts w first (texts_of leaves) since balances);
          parts_count = parts_end.count ∙ tried_parts.count ∙ whole.parts_count;
          parts_are = subst (λ (l : List Leaf). EachAt (IsPartSeat (mean job) view pins most setting settings.parts settings.places (first_after (shift_of w) first) merge_memo.locks l) parts_now) (sym since.leads)
              (parts-settled (mean job) setting settings.parts view pins most settings.places first merge_memo.locks (texts_of leaves) parts parts_mid parts_now shaped (shift_of w) (fresh_leaves w) whole.parts_are tried_parts took parts_end);
          leaf_sweeps = collects leaf_memo.locks settings.keep leaf_horizon (swept_by ls) (swept_by ls_now) failed whole.leaf_sweeps leaf_swept;
          merge_sweeps = collects merge_memo.locks settings.keep merge_horizon (swept_by ms) (swept_by ms_now) failed whole.merge_sweeps merge_swept;
        }))

    -- It swept all shards of both memos, if no sweep failed.
    pub a-run : failed ≡ false → leaf_horizon ≡ horizon_of (swept_by ls).keep (runs + 1) → merge_horizon ≡ horizon_of (swept_by ms).keep (runs + 1) → IsRun view shaped w v (engine_of job settings (runs + 1) first_now leaves_now leaf_memo merge_memo lanes_now parts_now ls_now ms_now)
    a-run well l r = subst (λ (o : EngineView J T). IsRun view shaped w o (engine_of job settings (runs + 1) first_now leaves_now leaf_memo merge_memo lanes_now parts_now ls_now ms_now)) seen (record {
      runs = refl;
      leaves = texts_now;
      first = first_is;
      shapes = shapes-settled (mean job) setting settings.parts view pins most settings.places first merge_memo.locks (texts_of leaves) parts parts_mid parts_now shaped (shift_of w) (fresh_leaves w) took parts_end;
      leaf_swept = swept-whole leaf_memo.locks settings.keep (runs + 1) (swept_by ls) (swept_by ls_now) whole.leaf_sweeps (moved-two (λ (h : ℕ) (b : Bool). IsSwept h (swept_by ls) (swept_by ls_now) b) leaf_horizon (horizon_of (swept_by ls).keep (runs + 1)) failed false l well leaf_swept);
      merge_swept = swept-whole merge_memo.locks settings.keep (runs + 1) (swept_by ms) (swept_by ms_now) whole.merge_sweeps (moved-two (λ (h : ℕ) (b : Bool). IsSwept h (swept_by ms) (swept_by ms_now) b) merge_horizon (horizon_of (swept_by ms).keep (runs + 1)) failed false r well merge_swept);
    })

    pub later-settled : IsLaterEngine v (engine_of job settings (runs + 1) first_now leaves_now leaf_memo merge_memo lanes_now parts_now ls_now ms_now)
    later-settled = subst (λ (o : EngineView J T). IsLaterEngine o (engine_of job settings (runs + 1) first_now leaves_now leaf_memo merge_memo lanes_now parts_now ls_now ms_now)) seen (record {
      lanes = lanes-later settings.parts setting leaf_memo.locks (texts_of leaves) lanes lanes_mid lanes_now (λ k (s t : LaneSeat J V M). SettlesLane s.lane t.lane t.fresh.items t.gone.items) (λ k s t r. r.finished.later) tried_lanes lanes_end;
      parts = parts-later (mean job) setting settings.parts view pins most settings.places first merge_memo.locks (texts_of leaves) parts parts_mid parts_now (λ p (s t : PartSeat J T V M). SettlesTree view pins most s.tree s.caller t.tree t.caller t.fresh.items) (λ p s t r. r.balanced.later) tried_parts parts_end;
      leaf_collector = leaf_swept.later;
      merge_collector = merge_swept.later;
    })

  -- What no run changes, by the engine's model.
  same-seen : (runs_now first_now : ℕ) → IsSameEngine v (engine_of job settings runs_now first_now leaves_now leaf_memo merge_memo lanes_now parts_now ls_now ms_now)
  same-seen runs_now first_now = subst (λ (o : EngineView J T). IsSameEngine o (engine_of job settings runs_now first_now leaves_now leaf_memo merge_memo lanes_now parts_now ls_now ms_now)) seen (record { job = refl; settings = refl; leaf_memo = refl; merge_memo = refl })

  -- What the leaf memo's collector swept, by the engine's model.
  leaf-swept-seen : leaf_horizon ≡ horizon_of (swept_by ls).keep (runs + 1) → SweptSome (horizon_of v.settings.keep (v.runs + 1)) v.leaf_collector.caller (swept_by ls_now).caller
  leaf-swept-seen l =
      subst (λ (o : EngineView J T). SweptSome (horizon_of o.settings.keep (o.runs + 1)) o.leaf_collector.caller (swept_by ls_now).caller) seen
      (swept-some leaf_memo.locks settings.keep (runs + 1) (swept_by ls) (swept_by ls_now) failed whole.leaf_sweeps (subst (λ (h : ℕ). IsSwept h (swept_by ls) (swept_by ls_now) failed) l leaf_swept))

  -- What the merge memo's collector swept.
  merge-swept-seen : merge_horizon ≡ horizon_of (swept_by ms).keep (runs + 1) → SweptSome (horizon_of v.settings.keep (v.runs + 1)) v.merge_collector.caller (swept_by ms_now).caller
  merge-swept-seen r =
      subst (λ (o : EngineView J T). SweptSome (horizon_of o.settings.keep (o.runs + 1)) o.merge_collector.caller (swept_by ms_now).caller) seen
      (swept-some merge_memo.locks settings.keep (runs + 1) (swept_by ms) (swept_by ms_now) failed whole.merge_sweeps (subst (λ (h : ℕ). IsSwept h (swept_by ms) (swept_by ms_now) failed) r merge_swept))

  module _ (counts : M → Counts) (bound : ℕ → Shape → ℕ → Shift → ℕ) (tight : T → Shift → List (List (List ℕ × V)) → ℕ) (w : WindowView) (since : IsSince first (texts_of leaves) w) (lane_meters lane_meters_now part_meters part_meters_now : List M) (row : Row M) (row_seen : ◌≡◌ {A = Row M} (record { lanes = lane_meters; parts = part_meters }) row) where
    -- What the lanes' meters counted.
    lanes-worked : LanesCounted (mean job) counts (texts_of leaves) (fresh_leaves w) lane_meters lane_meters_now → LanesWorked counts (mean v.job) v.leaves w.window.leaves row.lanes lane_meters_now
    lanes-worked counted =
        let sub : (t : Leaf) → is_among (fresh_leaves w) t ≡ true → is_among w.window.leaves t ≡ true = λ t is. among-brought (shift_of w) w.window.leaves t (since-new (mean job) setting settings.parts w first (texts_of leaves) since) is in
        subst (λ (o : EngineView J T). LanesWorked counts (mean o.job) o.leaves w.window.leaves row.lanes lane_meters_now) seen
        (subst (λ (r : Row M). LanesWorked counts (mean job) (texts_of leaves) w.window.leaves r.lanes lane_meters_now) row_seen (record {
          maps = maps-within (texts_of leaves) (fresh_leaves w) w.window.leaves (sum_of (λ n. (counts n).maps) lane_meters) (sum_of (λ n. (counts n).maps) lane_meters_now) sub counted.maps;
          joins = joins-within (mean job).emits (texts_of leaves) (fresh_leaves w) w.window.leaves (sum_of (λ n. (counts n).joins) lane_meters) (sum_of (λ n. (counts n).joins) lane_meters_now) sub counted.joins;
        }))

    -- Each meter increased in its place.
    row-rose : LanesCounted (mean job) counts (texts_of leaves) (fresh_leaves w) lane_meters lane_meters_now → PartsCounted view counts (mean job) settings.parts (bound_of view bound) tight (shift_of w) (fresh_leaves w) parts parts_mid part_meters part_meters_now
        → RowRose counts row (record { lanes = lane_meters_now; parts = part_meters_now })
    row-rose lane_counted part_counted = subst (λ (r : Row M). RowRose counts r (record { lanes = lane_meters_now; parts = part_meters_now })) row_seen (record {
      lanes = lane_counted.each;
      parts = parts-rose view counts (mean job) settings.parts (bound_of view bound) tight (shift_of w) (fresh_leaves w) parts parts_mid part_meters part_meters_now (let n = whole.parts_count in omega (arith, n)) tried_parts.count part_counted;
    })

    -- What the parts' meters counted, where the new callers are later than those that counted.
    parts-worked-by : PartsCounted view counts (mean job) settings.parts (bound_of view bound) tight (shift_of w) (fresh_leaves w) parts parts_mid part_meters part_meters_now → length parts_now ≡ length parts_mid
        → ((p : ℕ) (d e : PartSeat J T V M) → p < length parts_mid → IsLater (slice_index_or parts_mid p d).caller (slice_index_or parts_now p e).caller)
        → ((p : ℕ) (d e : PartSeat J T V M) → p < length parts → (view (slice_index_or parts_now p e).tree).leaves.loose ≡ true → ((view (slice_index_or parts p d).tree).leaves.loose ≡ true) ⊎ Met (slice_index_or parts p d).caller (slice_index_or parts_now p e).caller)
        → PartsShare (mean job).joined → length part_meters ≡ 16 → PartsWorked counts (mean v.job) bound tight view v.settings.parts v.settings.places (length v.leaves) w row.parts part_meters_now v.parts (map seat_view parts_now)
    parts-worked-by counted count later loose share many =
        let n = whole.parts_count in
        let o = tried_parts.count in
        let within = whole.settings_are in
        subst (λ (o : EngineView J T). PartsWorked counts (mean o.job) bound tight view o.settings.parts o.settings.places (length o.leaves) w row.parts part_meters_now o.parts (map seat_view parts_now)) seen
        (subst (λ (r : Row M). PartsWorked counts (mean job) bound tight view settings.parts settings.places (length (texts_of leaves)) w r.parts part_meters_now (map seat_view parts) (map seat_view parts_now)) row_seen (
        parts-clause counts (mean job) bound tight view pins most setting settings.parts settings.places merge_memo.locks w first (texts_of leaves) parts parts_mid parts_now part_meters part_meters_now since whole.parts_are n o (count ∙ o) counted
        (λ p d e lt. later p d e (omega (arith, lt, n, o))) (λ p d e lt. loose p d e (omega (arith, lt, n))) share (omega (arith, within)) (omega (arith, within, many))))

    -- All that a run does, whatever it returns, by what its steps did.
    pub run-worked : (runs_now first_now : ℕ) → IsLaterEngine v (engine_of job settings runs_now first_now leaves_now leaf_memo merge_memo lanes_now parts_now ls_now ms_now) → LanesCounted (mean job) counts (texts_of leaves) (fresh_leaves w) lane_meters lane_meters_now
        → PartsCounted view counts (mean job) settings.parts (bound_of view bound) tight (shift_of w) (fresh_leaves w) parts parts_mid part_meters part_meters_now → length parts_now ≡ length parts_mid
        → ((p : ℕ) (d e : PartSeat J T V M) → p < length parts_mid → IsLater (slice_index_or parts_mid p d).caller (slice_index_or parts_now p e).caller)
        → ((p : ℕ) (d e : PartSeat J T V M) → p < length parts → (view (slice_index_or parts_now p e).tree).leaves.loose ≡ true → ((view (slice_index_or parts p d).tree).leaves.loose ≡ true) ⊎ Met (slice_index_or parts p d).caller (slice_index_or parts_now p e).caller)
        → PartsShare (mean job).joined → length part_meters ≡ 16 → leaf_horizon ≡ horizon_of (swept_by ls).keep (runs + 1) → merge_horizon ≡ horizon_of (swept_by ms).keep (runs + 1)
        → RunWorked counts (mean v.job) bound tight view w row (record { lanes = lane_meters_now; parts = part_meters_now }) v (engine_of job settings runs_now first_now leaves_now leaf_memo merge_memo lanes_now parts_now ls_now ms_now)
    run-worked runs_now first_now later_engine lane_counted part_counted count later loose share many l r = record {
      same = same-seen runs_now first_now;
      later = later_engine;
      rose = row-rose lane_counted part_counted;
      lanes = lanes-worked lane_counted;
      parts = parts-worked-by part_counted count later loose share many;
      leaf_swept = leaf-swept-seen l;
      merge_swept = merge-swept-seen r;
    }

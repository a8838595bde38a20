-- An engine between runs is ready for both phases; and what it needs of the window.
use Rattle.std.proofs.Common.{◌≡◌, ℕ, ◌+◌, ◌-◌, ◌<◌, ◌≤◌, Bool, cond, List, [], ◌∷◌, length, map, drop, All, refl, ap, sym, subst, ◌∙◌, arith}
use Rattle.std.specs.Prelude.{slice_index_or}
use Rattle.std.proofs.lemmas.List.{length-map, get_or-map}
use Rattle.std.proofs.lemmas.List.Elements.{All-map, All-weaker, All-append, All-take, All-drop}
use Rattle.atomic_table.specs.Seated.{TableId}
use Rattle.job_laws.specs.Meanings.{Meaning, AllAccepted}
use Rattle.record_text.specs.Shifts.{brought, left}
use Rattle.record_text.specs.declared.kind.Kind.{Kind}
use Rattle.record_text.specs.declared.shift.Shift.{Shift}
use Rattle.record_text.specs.declared.shift.Shift.TheVariants.{Slide, Splice}
use Rattle.pin_table.specs.Covers.{PinName}
use Rattle.window_manager.specs.Windows.{Leaf}
use Rattle.window_manager.specs.Views.{WindowView, shift_of}
use Rattle.window_manager.specs.Since.{IsSince, ShiftBalances, fresh_leaves}
use Rattle.map_tasks.specs.Inputs.{InputView, input_digest, lane_at}
use Rattle.map_tasks.specs.Texts.{IsHeld, IsMappedSo, used_of, came_of, same_text}
use Rattle.map_tasks.specs.Lanes.{LaneView}
use Rattle.tree_laws.specs.Trees.{TreeView}
use Rattle.run_engine.specs.declared.lane_seat.LaneSeat.{LaneSeat}
use Rattle.run_engine.specs.declared.part_seat.PartSeat.{PartSeat}
use Rattle.run_engine.specs.InPlace.{EachAt, EachPair}
use Rattle.run_engine.specs.NewTexts.{times}
use Rattle.run_engine.specs.Inputs.{texts_of, input_for, AreMappedSo, FitsNew}
use Rattle.run_engine.specs.LaneTasks.{IsInputFor}
use Rattle.run_engine.specs.Engines.{IsLaneSeat, IsPartSeat, of_lane, part_table}
use Rattle.run_engine.specs.Handing.{HoldEach}
use Rattle.run_engine.specs.Phases.{MayBringAll, MayTakeAll, IsTriedLane, IsBroughtLane}
use Rattle.run_engine.proofs.Fits.{fits-old, fits-new, left-within}
use Rattle.run_engine.proofs.InPlaceSteps.{at-place, mapped-place}
use Rattle.run_engine.proofs.Dealt.{there-once}
use Rattle.run_engine.proofs.TextCounts.{number-same}
use Rattle.run_engine.proofs.PartSteps.{fits-moved}

-- The texts of inputs that were made for texts.
pub texts-for : (parts setting : ℕ) (texts : List Leaf) → texts_of (map (input_for parts setting) texts) ≡ texts
texts-for parts setting [] = refl
texts-for parts setting (t ∷ ts) = ap (λ (l : List Leaf). t ∷ l) (texts-for parts setting ts)

pub mapped-for : (parts setting : ℕ) (texts : List Leaf) → AreMappedSo parts setting (map (input_for parts setting) texts)
mapped-for parts setting texts = All-map (λ (i : InputView). (i.parts ≡ parts) × (i.setting ≡ setting)) (input_for parts setting) texts (λ k d lt. (refl, refl))

-- What holds of all leaves holds of those that a shift brings.
all-brought : (P : Leaf → Type 0) (shift : Shift) (now : List Leaf) → FitsNew shift (length now) → All P now → All P (brought [] shift now)
all-brought P (Slide first gone places fresh) now fits all =
    All-append P (map (λ p. slice_index_or now p []) places) (drop (length now - fresh) now)
    (All-map P (λ p. slice_index_or now p []) places (All-weaker (λ p. p < length now) (λ p. P (slice_index_or now p [])) (λ p lt. all p [] lt) places fits.1))
    (All-drop P (length now - fresh) now all)
all-brought P (Splice first gone fresh) now fits all = All-take P fresh (drop first now) (All-drop P first now all)

module _ {V : Type 0} (m : Meaning V) (setting parts : ℕ) (w : WindowView) (first : ℕ) (leaves : List Leaf) (since : IsSince first leaves w) where
  pub since-new : FitsNew (shift_of w) (length w.window.leaves)
  since-new = fits-new w.window.kind w.window.places first (shift_of w) (fresh_leaves w) leaves w.window.leaves since.leads since.fits

  -- The inputs of the leaves that came are for the engine's job.
  pub inputs-for : All (AllAccepted m) w.window.leaves → All (IsInputFor m setting parts) (map (input_for parts setting) (fresh_leaves w))
  inputs-for accepted = All-map (IsInputFor m setting parts) (input_for parts setting) (fresh_leaves w)
      (All-weaker (AllAccepted m) (λ (t : Leaf). IsInputFor m setting parts (input_for parts setting t)) (λ t a. record { parts_are = refl; setting_is = refl; accepted = a }) (fresh_leaves w) (all-brought (AllAccepted m) (shift_of w) w.window.leaves since-new accepted))

  -- The lanes may take the shift.
  pub may-bring : {J M : Type 0} (locks : List TableId) (lanes : List (LaneSeat J V M)) → length lanes ≡ 16 → (1 ≤ parts) × (parts ≤ 16) → EachAt (IsLaneSeat parts setting locks leaves) lanes → All (AllAccepted m) w.window.leaves → ShiftBalances
      → MayBringAll m setting parts locks leaves (shift_of w) (map (input_for parts setting) (fresh_leaves w)) lanes
  may-bring locks lanes count within seats accepted balances = record {
    count = count;
    within = within;
    seats = seats;
    inputs = inputs-for accepted;
    fits = fits-old w.window.kind w.window.places first (length leaves) (length (fresh_leaves w)) (shift_of w) since.fits;
    leave = left-within balances w.window.kind w.window.places first (fresh_leaves w) leaves (shift_of w) since.fits;
  }

  -- The present leaves, with those that left, are the old ones, with those that came.
  pub since-balance : ShiftBalances → (t : Leaf) → times t w.window.leaves + times t (left [] (shift_of w) leaves) ≡ times t leaves + times t (fresh_leaves w)
  since-balance balances t =
      ap (λ (l : List Leaf). times t l + times t (left [] (shift_of w) leaves)) since.leads
      ∙ balances (λ u. cond {A = ℕ} (same_text t u) 1 0) w.window.kind w.window.places first (fresh_leaves w) leaves (shift_of w) since.fits

  -- The trees may take the shift.
  pub may-take : {J T M : Type 0} (view : T → TreeView V) (pins : T → List PinName) (most : T → ℕ) (kind : Kind) (places : ℕ) (locks : List TableId) (seats : List (PartSeat J T V M)) → length seats ≡ parts → EachAt (IsPartSeat m view pins most setting parts places first locks leaves) seats → w.window.kind ≡ kind → w.window.places ≡ places
      → MayTakeAll view pins setting parts kind locks (shift_of w) (map (input_for parts setting) (fresh_leaves w)) seats
  may-take view pins most kind places locks seats count stand kind_is places_are = record {
    count = count;
    seats_are = λ p d lt.
        let s = stand p d lt in
        let tables = ap length s.stands.tables ∙ length-map leaves (part_table m parts p) in
        record {
          of = s.of;
          covered = s.backed.covered;
          setting_is = s.stands.setting_is;
          no_draft = s.stands.draft;
          no_fresh = s.no_fresh;
          fits = fits-moved w.window.kind kind w.window.places (view (slice_index_or seats p d).tree).places first (view (slice_index_or seats p d).tree).leaves.first (length leaves) (length (view (slice_index_or seats p d).tree).leaves.tables) (length (fresh_leaves w)) (length (map (input_for parts setting) (fresh_leaves w))) (shift_of w)
              kind_is (places_are ∙ sym s.stands.places_are) (sym s.stands.first_is) (sym tables) (sym (length-map (fresh_leaves w) (input_for parts setting))) since.fits;
        };
    inputs = mapped-for parts setting (fresh_leaves w);
  }

-- Lanes that brought what belongs to them hold each text that came.
pub hold-each : {J V M : Type 0} (parts setting : ℕ) (fresh : List Leaf) (gone : List Leaf) (old mid : List (LaneSeat J V M)) → length mid ≡ 16 → EachPair (λ k s t. IsTriedLane parts setting s.lane t.lane) old mid → EachAt (λ k s. IsBroughtLane fresh gone k s.lane) mid → HoldEach parts (map (input_for parts setting) fresh) (map (λ s. s.lane) mid)
hold-each {J} {V} {M} parts setting fresh gone old mid count tried brought = record {
  count = length-map mid (λ (s : LaneSeat J V M). s.lane) ∙ count;
  within = All-map (λ (i : InputView). parts ≤ i.parts) (input_for parts setting) fresh (λ k d lt. omega arith);
  held = λ n d ln k e lk own. at n d ln k e lk own;
}
  where
    at : (n : ℕ) (d : InputView) → n < length (map (input_for parts setting) fresh) → (k : ℕ) (e : LaneView) → k < length (map (λ (s : LaneSeat J V M). s.lane) mid) → lane_at (input_digest (slice_index_or (map (input_for parts setting) fresh) n d).text) 16 ≡ k
        → IsHeld (slice_index_or (map (input_for parts setting) fresh) n d).text (slice_index_or (map (λ (s : LaneSeat J V M). s.lane) mid) k e).texts × All (IsMappedSo (slice_index_or (map (input_for parts setting) fresh) n d).parts (slice_index_or (map (input_for parts setting) fresh) n d).setting) (slice_index_or (map (λ (s : LaneSeat J V M). s.lane) mid) k e).texts
    at n d ln k e lk own =
        let c = length-map fresh (input_for parts setting) in
        let lf : n < length fresh = omega (arith, ln, c) in
        let i : slice_index_or (map (input_for parts setting) fresh) n d ≡ input_for parts setting (slice_index_or fresh n []) = get_or-map (input_for parts setting) fresh n [] d lf in
        subst (λ (j : InputView). IsHeld j.text (slice_index_or (map (λ (s : LaneSeat J V M). s.lane) mid) k e).texts × All (IsMappedSo j.parts j.setting) (slice_index_or (map (λ (s : LaneSeat J V M). s.lane) mid) k e).texts) (sym i)
        (lane k e lk (slice_index_or fresh n []) lf (subst (λ (j : InputView). lane_at (input_digest j.text) 16 ≡ k) i own))
      where
        lane : (k : ℕ) (e : LaneView) → k < length (map (λ (s : LaneSeat J V M). s.lane) mid) → (t : Leaf) → n < length fresh → lane_at (input_digest (slice_index_or fresh n [])) 16 ≡ k
            → IsHeld (slice_index_or fresh n []) (slice_index_or (map (λ (s : LaneSeat J V M). s.lane) mid) k e).texts × All (IsMappedSo parts setting) (slice_index_or (map (λ (s : LaneSeat J V M). s.lane) mid) k e).texts
        lane k e lk t lf own =
            let c = length-map mid (λ (s : LaneSeat J V M). s.lane) in
            let lm : k < length mid = omega (arith, lk, c) in
            let p = tried.count in
            let x = at-place mid k lm in
            let read : slice_index_or (map (λ (s : LaneSeat J V M). s.lane) mid) k e ≡ x.0.lane = mapped-place (λ (s : LaneSeat J V M). s.lane) mid k x.0 lm x.1 e in
            let b = subst (λ (s : LaneSeat J V M). IsBroughtLane fresh gone k s.lane) (x.1 x.0) (brought k x.0 lm) in
            let y = at-place old k (omega (arith, lm, p)) in
            let f = subst (λ (s : LaneSeat J V M). IsTriedLane parts setting (slice_index_or old k y.0).lane s.lane) (x.1 x.0) (tried.each k y.0 x.0 (omega (arith, lm, p))) in
            let came = b.came (slice_index_or fresh n []) in
            let here : of_lane k (slice_index_or fresh n []) (times (slice_index_or fresh n []) fresh) ≡ times (slice_index_or fresh n []) fresh = ap (λ (q : Bool). cond {A = ℕ} q (times (slice_index_or fresh n []) fresh) 0) (number-same (lane_at (input_digest (slice_index_or fresh n [])) 16) k own) in
            let once = there-once fresh n [] lf in
            subst (λ (l : LaneView). IsHeld (slice_index_or fresh n []) l.texts × All (IsMappedSo parts setting) l.texts) (sym read) ((let h : 0 < used_of (slice_index_or fresh n []) x.0.lane.texts + came_of (slice_index_or fresh n []) x.0.lane.texts = omega (arith, came, here, once) in h), f.mapped)

-- The lanes and parts of a new engine, by the callers that they are made from.
use Rattle.std.proofs.Common.{◌≡◌, ℕ, ◌<◌, ◌≤◌, List, [], length, map, All, refl, ap, sym, subst, ◌∙◌, arith}
use Rattle.std.specs.Prelude.{slice_index_or}
use Rattle.std.proofs.lemmas.List.{length-map, get_or-map}
use Rattle.atomic_table.specs.Seated.{TableId}
use Rattle.job_laws.specs.Meanings.{Meaning}
use Rattle.pin_table.specs.Views.{CallerView, ShardKnown, newcomer}
use Rattle.pin_table.specs.Known.{known_at}
use Rattle.pin_table.specs.Covers.{PinName, Backed}
use Rattle.map_tasks.specs.Lanes.{LaneView}
use Rattle.tree_laws.specs.Trees.{TreeView, bare}
use Rattle.run_engine.specs.declared.lane_seat.LaneSeat.{LaneSeat}
use Rattle.run_engine.specs.declared.part_seat.PartSeat.{PartSeat}
use Rattle.run_engine.specs.InPlace.{EachAt}
use Rattle.run_engine.specs.Engines.{SeatView, IsLaneOf, IsLaneSeat, IsTreeOf, IsPartSeat, bare_lane, seat_view}
use Rattle.run_engine.proofs.InPlaceSteps.{at-place, mapped-place, each-mapped}
use Rattle.run_engine.proofs.Newcomers.{knows-nothing, lane-bare, backed-bare}

-- Callers by their numbers.
abbrev pub AreNumbered : List TableId → List CallerView → Type 0
AreNumbered locks callers = (k : ℕ) (d : CallerView) → k < length callers → slice_index_or callers k d ≡ newcomer locks k

-- They have made no call.
pub numbered-unused : (locks : List TableId) (callers : List CallerView) → AreNumbered locks callers → All (λ c. (s : ℕ) → (known_at s c).mine ≡ []) callers
numbered-unused locks callers at k d lt = λ s. ap (λ (c : CallerView). (known_at s c).mine) (at k d lt) ∙ ap (λ (n : ShardKnown). n.mine) (knows-nothing locks k s)

module _ {J V M : Type 0} (locks : List TableId) (callers : List CallerView) (lanes : List (LaneSeat J V M)) (are : map (λ s. s.lane) lanes ≡ map bare_lane callers) (at : AreNumbered locks callers) where
  pub new-lanes : EachAt (λ k l. l ≡ bare_lane (newcomer locks k)) (map (λ s. s.lane) lanes)
  new-lanes k d lt =
      let n : length (map (λ (s : LaneSeat J V M). s.lane) lanes) ≡ length callers = ap length are ∙ length-map callers bare_lane in
      let lk : k < length callers = omega (arith, lt, n) in
      let x = at-place callers k lk in
      ap (λ (l : List LaneView). slice_index_or l k d) are ∙ mapped-place bare_lane callers k x.0 lk x.1 d ∙ ap bare_lane (sym (x.1 x.0) ∙ at k x.0 lk)

  pub new-lanes-count : length lanes ≡ length callers
  new-lanes-count = sym (length-map lanes (λ (s : LaneSeat J V M). s.lane)) ∙ ap length are ∙ length-map callers bare_lane

  pub new-lane-seats : (parts setting : ℕ) → All (λ s. (s.fresh.items ≡ []) × (s.gone.items ≡ [])) lanes → EachAt (IsLaneSeat parts setting locks []) lanes
  new-lane-seats parts setting empty k d lt =
      let n = length-map lanes (λ (s : LaneSeat J V M). s.lane) in
      let e = (slice_index_or lanes k d).lane in
      let own : (slice_index_or lanes k d).lane ≡ bare_lane (newcomer locks k) = sym (get_or-map (λ (s : LaneSeat J V M). s.lane) lanes k d e lt) ∙ new-lanes k e (omega (arith, lt, n)) in
      record {
        of = ap (λ (l : LaneView). l.caller.locks) own;
        holds = subst (IsLaneOf parts setting [] k) (sym own) (lane-bare parts setting locks k k);
        no_fresh = (empty k d lt).0;
        no_gone = (empty k d lt).1;
      }

module _ {J T V M : Type 0} (m : Meaning V) (view : T → TreeView V) (pins : T → List PinName) (most : T → ℕ) (locks : List TableId) (callers : List CallerView) (seats : List (PartSeat J T V M)) (setting places : ℕ) (are : map (λ s. s.caller) seats ≡ callers) (at : AreNumbered locks callers)
    (trees : All (λ s. (pins s.tree ≡ []) × (view s.tree ≡ bare setting places) × (s.fresh.items ≡ [])) seats) where
  pub new-parts-count : length seats ≡ length callers
  new-parts-count = sym (length-map seats (λ (s : PartSeat J T V M). s.caller)) ∙ ap length are

  new-caller : (p : ℕ) (d : PartSeat J T V M) → p < length seats → (slice_index_or seats p d).caller ≡ newcomer locks p
  new-caller p d lt =
      let n = new-parts-count in
      let e = (slice_index_or seats p d).caller in
      sym (get_or-map (λ (s : PartSeat J T V M). s.caller) seats p d e lt) ∙ ap (λ (l : List CallerView). slice_index_or l p e) are ∙ at p e (omega (arith, lt, n))

  pub new-part-seats : (parts : ℕ) → EachAt (IsPartSeat m view pins most setting parts places 0 locks []) seats
  new-part-seats parts p d lt =
      let c = new-caller p d lt in
      let t = trees p d lt in
      let no_pins = t.0 in
      record {
        of = ap (λ (v : CallerView). v.locks) c;
        stands = subst (IsTreeOf m setting parts places 0 [] p) (sym t.1) (record { setting_is = refl; places_are = refl; draft = refl; first_is = refl; tables = refl });
        backed = subst (λ (v : CallerView). Backed v (pins (slice_index_or seats p d).tree)) (sym c) (subst (Backed (newcomer locks p)) (sym no_pins) (backed-bare locks p));
        few = subst (λ (ps : List PinName). length ps ≤ most (slice_index_or seats p d).tree) (sym no_pins) (omega arith);
        no_fresh = t.2;
      }

  pub new-parts : EachAt (λ p s. (s.caller ≡ newcomer locks p) × (pins s.tree ≡ []) × (view s.tree ≡ bare setting places)) (map seat_view seats)
  new-parts = each-mapped seat_view (λ p (s : PartSeat J T V M). (s.caller ≡ newcomer locks p) × (pins s.tree ≡ []) × (view s.tree ≡ bare setting places)) (λ p (s : SeatView T). (s.caller ≡ newcomer locks p) × (pins s.tree ≡ []) × (view s.tree ≡ bare setting places)) seats (λ p s h. h)
      (λ p d lt. (new-caller p d lt, (trees p d lt).0, (trees p d lt).1))

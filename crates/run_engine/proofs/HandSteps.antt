-- How sheets of inputs are read from the lanes that hold them.
use Rattle.std.proofs.Common.{◌≡◌, ℕ, ◌<◌, ◌≤◌, List, length, map, All, ap, sym, subst, ◌∙◌, arith}
use Rattle.std.specs.Prelude.{slice_index_or}
use Rattle.std.proofs.lemmas.List.{length-map, get_or-map}
use Rattle.std.proofs.lemmas.List.Elements.{All-weaker}
use Rattle.map_tasks.specs.Inputs.{InputView, input_digest, lane_at}
use Rattle.map_tasks.specs.Texts.{IsMappedSo, IsHeld}
use Rattle.map_tasks.specs.Lanes.{LaneView}
use Rattle.run_engine.specs.declared.lane_seat.LaneSeat.{LaneSeat}
use Rattle.run_engine.specs.InPlace.{EachAt}
use Rattle.run_engine.specs.Handing.{HoldEach}

-- What holds for all parts holds for the first of them.
pub hold-fewer : (n k : ℕ) (inputs : List InputView) (lanes : List LaneView) → k ≤ n → HoldEach n inputs lanes → HoldEach k inputs lanes
hold-fewer n k inputs lanes le h = record {
  count = h.count;
  within = All-weaker (λ (i : InputView). n ≤ i.parts) (λ (i : InputView). k ≤ i.parts) (λ i w. omega (arith, w, le)) inputs h.within;
  held = h.held;
}

-- The lane of an input holds it.
pub held-at : {J V M : Type 0} (inputs : List InputView) (lanes : List (LaneSeat J V M)) (n i k : ℕ) (x : InputView) (s : LaneSeat J V M) → HoldEach n inputs (map (λ s. s.lane) lanes) → i < length inputs → x ≡ slice_index_or inputs i x → k < length lanes → s ≡ slice_index_or lanes k s → lane_at (input_digest x.text) 16 ≡ k
    → IsHeld x.text s.lane.texts × All (IsMappedSo x.parts x.setting) s.lane.texts
held-at {J} {V} {M} inputs lanes n i k x s h lt read within at own =
    let each : EachAt (λ k l. lane_at (input_digest x.text) 16 ≡ k → IsHeld x.text l.texts × All (IsMappedSo x.parts x.setting) l.texts) (map (λ (s : LaneSeat J V M). s.lane) lanes) =
    subst (λ (y : InputView). EachAt (λ k l. lane_at (input_digest y.text) 16 ≡ k → IsHeld y.text l.texts × All (IsMappedSo y.parts y.setting) l.texts) (map (λ (s : LaneSeat J V M). s.lane) lanes)) (sym read) (h.held i x lt) in
    let c = length-map lanes (λ (s : LaneSeat J V M). s.lane) in
    let place : slice_index_or (map (λ (s : LaneSeat J V M). s.lane) lanes) k s.lane ≡ s.lane = get_or-map (λ (s : LaneSeat J V M). s.lane) lanes k s s.lane within ∙ ap (λ (s : LaneSeat J V M). s.lane) (sym at) in
    subst (λ (l : LaneView). IsHeld x.text l.texts × All (IsMappedSo x.parts x.setting) l.texts) place (each k s.lane (omega (arith, within, c)) own)

-- It has this number of parts.
pub parts-at : (inputs : List InputView) (lanes : List LaneView) (n i : ℕ) (x : InputView) → HoldEach n inputs lanes → i < length inputs → x ≡ slice_index_or inputs i x → n ≤ x.parts
parts-at inputs lanes n i x h lt read = subst (λ (y : InputView). n ≤ y.parts) (sym read) (h.within i x lt)

-- One lane more, or one part more, in front of those that are made.
use Rattle.std.proofs.Common.{◌≡◌, List, [], ◌∷◌, map, All, ap, ◌∙◌}
use Rattle.std.proofs.lemmas.List.Elements.{All-cons, All-same}
use Rattle.pin_table.specs.Views.{CallerView}
use Rattle.pin_table.specs.Covers.{PinName}
use Rattle.map_tasks.specs.Lanes.{LaneView}
use Rattle.tree_laws.specs.Trees.{TreeView}
use Rattle.run_engine.specs.declared.lane_seat.LaneSeat.{LaneSeat}
use Rattle.run_engine.specs.declared.part_seat.PartSeat.{PartSeat}
use Rattle.run_engine.specs.Engines.{bare_lane}

pub lanes-more : {J V M : Type 0} (lanes now : List (LaneSeat J V M)) (seat : LaneSeat J V M) (rest : List CallerView) (caller : CallerView) → now ≡ seat ∷ lanes → seat.lane ≡ bare_lane caller → map (λ (s : LaneSeat J V M). s.lane) lanes ≡ map bare_lane rest
    → map (λ (s : LaneSeat J V M). s.lane) now ≡ map bare_lane (caller ∷ rest)
lanes-more {J} {V} {M} lanes now seat rest caller is made before =
    ap (λ (l : List (LaneSeat J V M)). map (λ (s : LaneSeat J V M). s.lane) l) is
    ∙ ap (λ (x : LaneView). x ∷ map (λ (s : LaneSeat J V M). s.lane) lanes) made
    ∙ ap (λ (l : List LaneView). bare_lane caller ∷ l) before

pub empty-more : {J V M : Type 0} (lanes now : List (LaneSeat J V M)) (seat : LaneSeat J V M) → now ≡ seat ∷ lanes → seat.fresh.items ≡ [] → seat.gone.items ≡ [] → All (λ (s : LaneSeat J V M). (s.fresh.items ≡ []) × (s.gone.items ≡ [])) lanes
    → All (λ (s : LaneSeat J V M). (s.fresh.items ≡ []) × (s.gone.items ≡ [])) now
empty-more {J} {V} {M} lanes now seat is fresh gone all =
    All-same (λ (s : LaneSeat J V M). (s.fresh.items ≡ []) × (s.gone.items ≡ [])) now (seat ∷ lanes) is
    (All-cons (λ (s : LaneSeat J V M). (s.fresh.items ≡ []) × (s.gone.items ≡ [])) seat lanes (fresh, gone) all)

pub callers-more : {J T V M : Type 0} (parts now : List (PartSeat J T V M)) (seat : PartSeat J T V M) (rest : List CallerView) (caller : CallerView) → now ≡ seat ∷ parts → seat.caller ≡ caller → map (λ (s : PartSeat J T V M). s.caller) parts ≡ rest
    → map (λ (s : PartSeat J T V M). s.caller) now ≡ caller ∷ rest
callers-more {J} {T} {V} {M} parts now seat rest caller is of before =
    ap (λ (l : List (PartSeat J T V M)). map (λ (s : PartSeat J T V M). s.caller) l) is
    ∙ ap (λ (x : CallerView). x ∷ map (λ (s : PartSeat J T V M). s.caller) parts) of
    ∙ ap (λ (l : List CallerView). caller ∷ l) before

pub trees-more : {J T V M : Type 0} (view : T → TreeView V) (pins : T → List PinName) (bare : TreeView V) (parts now : List (PartSeat J T V M)) (seat : PartSeat J T V M) → now ≡ seat ∷ parts → pins seat.tree ≡ [] → view seat.tree ≡ bare → seat.fresh.items ≡ []
    → All (λ (s : PartSeat J T V M). (pins s.tree ≡ []) × (view s.tree ≡ bare) × (s.fresh.items ≡ [])) parts → All (λ (s : PartSeat J T V M). (pins s.tree ≡ []) × (view s.tree ≡ bare) × (s.fresh.items ≡ [])) now
trees-more {J} {T} {V} {M} view pins bare parts now seat is none stands fresh all =
    All-same (λ (s : PartSeat J T V M). (pins s.tree ≡ []) × (view s.tree ≡ bare) × (s.fresh.items ≡ [])) now (seat ∷ parts) is
    (All-cons (λ (s : PartSeat J T V M). (pins s.tree ≡ []) × (view s.tree ≡ bare) × (s.fresh.items ≡ [])) seat parts (none, stands, fresh) all)

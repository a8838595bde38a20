use Rattle.std.proofs.Common.{◌≡◌, List, [], ◌∷◌, ◌++◌, refl, sym, ap, ◌∙◌, arith, append-nil}
use Rattle.map_tasks.specs.Inputs.{InputView, input_digest, lane_at}
use Rattle.run_engine.specs.declared.lane_seat.LaneSeat.{LaneSeat}
use Rattle.run_engine.specs.Inputs.{goes_to}
use Rattle.run_engine.proofs.InPlaceSteps.{pairs-same}
use Rattle.run_engine.proofs.DealSteps.{one-dealt, goes-own, goes-elsewhere}
use Rattle.run_engine.proofs.dealing.deal_one_gone.Goals as goal

pub returns-in-Err : goal.returns-in-Err
returns-in-Err g c = pairs-same (λ k (s t : LaneSeat _ _ _). (t.lane ≡ s.lane) × (t.fresh.items ≡ s.fresh.items) × Unit {0}) c.args.lanes.now.items (λ k s. (refl, refl, tt))

pub returns-in-Ok-push : goal.returns-in-Ok-push
returns-in-Ok-push g c =
    let x = c.args.input.now in
    let i = c.lane_of-lane.result in
    let seat = c.index_mut.result.now in
    let within = c.lane_of-lane.ensures.within in
    let n = c.requires in
    let shared : c.in-Ok.input ≡ x = c.in-Ok.ensures in
    let own : lane_at (input_digest x.text) 16 ≡ i = ap (λ (y : InputView). lane_at (input_digest y.text) 16) (sym shared) ∙ ap (λ d. lane_at d 16) (sym c.digest.ensures) ∙ sym c.lane_of-lane.ensures.place in
    one-dealt (λ k (s t : LaneSeat _ _ _). (t.lane ≡ s.lane) × (t.fresh.items ≡ s.fresh.items) × (t.gone.items ≡ s.gone.items ++ goes_to k (x ∷ []))) i c.args.lanes.now.items seat _ c.index_mut.ensures.value (omega (arith, within, n))
    (refl, refl, c.in-Ok-push.ensures.items ∙ ap (λ (y : InputView). seat.gone.items ++ y ∷ []) shared ∙ ap (λ (l : List InputView). seat.gone.items ++ l) (sym (goes-own x i own)))
    (λ k a apart. (refl, refl, sym (append-nil a.gone.items) ∙ ap (λ (l : List InputView). a.gone.items ++ l) (sym (goes-elsewhere x i k own apart))))

pub returns-in-Err-push : goal.returns-in-Err-push
returns-in-Err-push g c =
    let i = c.lane_of-lane.result in
    let within = c.lane_of-lane.ensures.within in
    let n = c.requires in
    one-dealt (λ k (s t : LaneSeat _ _ _). (t.lane ≡ s.lane) × (t.fresh.items ≡ s.fresh.items) × Unit {0}) i c.args.lanes.now.items c.index_mut.result.now _ c.index_mut.ensures.value (omega (arith, within, n))
    (refl, refl, tt) (λ k a apart. (refl, refl, tt))

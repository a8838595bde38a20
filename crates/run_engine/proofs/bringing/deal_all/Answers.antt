use Rattle.std.proofs.Common.{◌≡◌, [], ◌++◌, OnOk, refl, ◌∙◌}
use Rattle.record_text.specs.Shifts.{left}
use Rattle.run_engine.specs.declared.lane_seat.LaneSeat.{LaneSeat}
use Rattle.run_engine.specs.Inputs.{texts_of, goes_to}
use Rattle.run_engine.specs.Phases.{IsDealtLane}
use Rattle.run_engine.proofs.InPlaceSteps.{pairs-same, pairs-then, pairs-more}
use Rattle.run_engine.proofs.Dealt.{dealt-lane}
use Rattle.run_engine.proofs.Moves.{ok-more}
use Rattle.run_engine.proofs.bringing.deal_all.Goals as goal

pub returns-in-Err : goal.returns-in-Err
returns-in-Err g c = pairs-same (λ k (s t : LaneSeat _ _ _). (t.lane ≡ s.lane) × Unit {0}) c.args.lanes.now.items (λ k s. (refl, tt))

pub returns-in-Err-deal_fresh : goal.returns-in-Err-deal_fresh
returns-in-Err-deal_fresh g c = pairs-more (λ k (s t : LaneSeat _ _ _). (t.lane ≡ s.lane) × (t.gone.items ≡ s.gone.items) × Unit {0}) (λ k (s t : LaneSeat _ _ _). (t.lane ≡ s.lane) × Unit {0}) c.args.lanes.now.items c.deal_fresh.new.lanes.items (λ k s t p. (p.0, tt)) c.in-Err-deal_fresh.ensures

pub returns : goal.returns
returns g c =
    let fresh = c.args.fresh.now.items in
    let gone = c.in-Ok.gone.items in
    let texts : texts_of gone ≡ left [] c.args.shift.now (texts_of c.args.leaves.now.items) = c.in-Ok.ensures in
    pairs-then
    (λ k (s t : LaneSeat _ _ _). (t.lane ≡ s.lane) × (t.gone.items ≡ s.gone.items) × (t.fresh.items ≡ s.fresh.items ++ goes_to k fresh))
    (λ k (s t : LaneSeat _ _ _). (t.lane ≡ s.lane) × (t.fresh.items ≡ s.fresh.items) × OnOk c.deal_gone.result (t.gone.items ≡ s.gone.items ++ goes_to k gone))
    (λ k (s t : LaneSeat _ _ _). (t.lane ≡ s.lane) × OnOk c.deal_gone.result (IsDealtLane fresh (left [] c.args.shift.now (texts_of c.args.leaves.now.items)) k s.fresh.items s.gone.items t.fresh.items t.gone.items))
    c.args.lanes.now.items c.deal_fresh.new.lanes.items c.deal_gone.new.lanes.items
    (λ k a b d p q. (
      q.0 ∙ p.0,
      ok-more c.deal_gone.result (d.gone.items ≡ b.gone.items ++ goes_to k gone) (IsDealtLane fresh (left [] c.args.shift.now (texts_of c.args.leaves.now.items)) k a.fresh.items a.gone.items d.fresh.items d.gone.items)
          (λ went. dealt-lane k fresh gone (left [] c.args.shift.now (texts_of c.args.leaves.now.items)) a.fresh.items a.gone.items b.fresh.items b.gone.items d.fresh.items d.gone.items texts p.2 q.1 went p.1) q.2,
    ))
    c.in-Ok-deal_fresh.ensures c.deal_gone.ensures

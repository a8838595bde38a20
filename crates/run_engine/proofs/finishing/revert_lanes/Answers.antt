use Rattle.std.proofs.Common.{◌≡◌, arith}
use Rattle.run_engine.specs.declared.lane_seat.LaneSeat.{LaneSeat}
use Rattle.run_engine.specs.Finishing.{RevertsLane}
use Rattle.run_engine.proofs.InPlaceSteps.{partly-none, partly-more, partly-all}
use Rattle.run_engine.proofs.FinishSteps.{still}
use Rattle.run_engine.proofs.finishing.revert_lanes.Goals as goal

pub lanes-init : goal.lanes-init
lanes-init g c = partly-none (λ k (s t : LaneSeat _ _ _). RevertsLane s.lane t.lane t.fresh.items t.gone.items) c.args.lanes.now.items

pub revert-requires : goal.revert-requires
revert-requires g c =
    let n = c.lanes.invariant.count in let lt = c.lanes-test.true in
    record {
      of = still (λ k (s t : LaneSeat _ _ _). RevertsLane s.lane t.lane t.fresh.items t.gone.items) (λ (s : LaneSeat _ _ _). s.lane.caller.locks ≡ c.args.memo.now.locks) c.lanes.i c.args.lanes.now.items c.lanes.lanes.items c.index_mut-seat.result.now c.lanes.invariant c.requires
          (omega (arith, lt, c.lanes.auto, c.len-i-end.ensures, n, c.args.lanes.now.ok.0)) c.index_mut-seat.ensures.value;
    }

pub lanes-preserved : goal.lanes-preserved
lanes-preserved g c =
    let n = c.lanes.invariant.count in let lt = c.lanes-test.true in
    partly-more (λ k (s t : LaneSeat _ _ _). RevertsLane s.lane t.lane t.fresh.items t.gone.items) c.lanes.i c.args.lanes.now.items c.lanes.lanes.items c.index_mut-seat.result.now _ c.lanes.invariant
    (omega (arith, lt, c.lanes.auto, c.len-i-end.ensures, n, c.args.lanes.now.ok.0)) c.index_mut-seat.ensures.value
    (record { texts = c.revert.ensures.texts; finished = record { later = c.revert.ensures.later; mapped = c.revert.ensures.mapped; once = c.revert.ensures.once; spare = c.revert.ensures.spare }; fresh_done = c.clear.ensures.items; gone_done = c.clear-in-lanes.ensures.items })

pub returns : goal.returns
returns g c =
    let lt = c.lanes-test.false in
    partly-all (λ k (s t : LaneSeat _ _ _). RevertsLane s.lane t.lane t.fresh.items t.gone.items) c.lanes.i c.args.lanes.now.items c.lanes.lanes.items c.lanes.invariant (omega (arith, lt, c.lanes.auto, c.len-i-end.ensures, c.args.lanes.now.ok.0))

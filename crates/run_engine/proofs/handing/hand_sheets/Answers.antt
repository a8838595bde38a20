use Rattle.std.proofs.Common.{◌≡◌, ◌+◌, ◌++◌, length, map, refl, arith}
use Rattle.map_tasks.specs.Leaves.{sheet_for}
use Rattle.run_engine.specs.declared.part_seat.PartSeat.{PartSeat}
use Rattle.run_engine.proofs.InPlaceSteps.{partly-none, partly-more, partly-all, partly-ended}
use Rattle.run_engine.proofs.HandSteps.{hold-fewer}
use Rattle.run_engine.proofs.handing.hand_sheets.Goals as goal

pub parts-init : goal.parts-init
parts-init g c = partly-none (λ p (s t : PartSeat _ _ _ _). (t.tree ≡ s.tree) × (t.caller ≡ s.caller) × (t.fresh.items ≡ s.fresh.items ++ map (λ i. sheet_for g.J.Job i p) c.args.inputs.now.items)) c.args.parts.now.items

pub push_sheets-requires : goal.push_sheets-requires
push_sheets-requires g c =
    let n = c.parts.invariant.count in let lt = c.parts-test.true in
    hold-fewer (length c.args.parts.now.items) (c.parts.part + 1) c.args.inputs.now.items _ (omega (arith, lt, c.len-part-end.ensures, n, c.args.parts.now.ok.0)) c.requires.held

pub parts-preserved : goal.parts-preserved
parts-preserved g c =
    let n = c.parts.invariant.count in let lt = c.parts-test.true in
    partly-more (λ p (s t : PartSeat _ _ _ _). (t.tree ≡ s.tree) × (t.caller ≡ s.caller) × (t.fresh.items ≡ s.fresh.items ++ map (λ i. sheet_for g.J.Job i p) c.args.inputs.now.items)) c.parts.part c.args.parts.now.items c.parts.parts.items c.index_mut.result.now _ c.parts.invariant
    (omega (arith, lt, c.len-part-end.ensures, n, c.args.parts.now.ok.0)) c.index_mut.ensures.value (refl, refl, c.in-Ok.ensures)

pub returns-in-Err : goal.returns-in-Err
returns-in-Err g c =
    let n = c.parts.invariant.count in let lt = c.parts-test.true in
    partly-ended (λ p (s t : PartSeat _ _ _ _). (t.tree ≡ s.tree) × (t.caller ≡ s.caller) × (t.fresh.items ≡ s.fresh.items ++ map (λ i. sheet_for g.J.Job i p) c.args.inputs.now.items)) (λ p (s t : PartSeat _ _ _ _). (t.tree ≡ s.tree) × (t.caller ≡ s.caller) × Unit {0}) c.parts.part c.args.parts.now.items c.parts.parts.items c.index_mut.result.now _ c.parts.invariant
    (omega (arith, lt, c.len-part-end.ensures, n, c.args.parts.now.ok.0)) c.index_mut.ensures.value (λ k a b p. (p.0, p.1, tt)) (λ k a. (refl, refl, tt)) (refl, refl, tt)

pub returns : goal.returns
returns g c =
    let lt = c.parts-test.false in
    partly-all (λ p (s t : PartSeat _ _ _ _). (t.tree ≡ s.tree) × (t.caller ≡ s.caller) × (t.fresh.items ≡ s.fresh.items ++ map (λ i. sheet_for g.J.Job i p) c.args.inputs.now.items)) c.parts.part c.args.parts.now.items c.parts.parts.items c.parts.invariant (omega (arith, lt, c.len-part-end.ensures, c.args.parts.now.ok.0))

use Rattle.std.proofs.Common.{arith}
use Rattle.run_engine.specs.declared.part_seat.PartSeat.{PartSeat}
use Rattle.run_engine.specs.Finishing.{RevertsTree, MayRevert}
use Rattle.run_engine.proofs.InPlaceSteps.{partly-none, partly-more, partly-all}
use Rattle.run_engine.proofs.FinishSteps.{still}
use Rattle.run_engine.proofs.finishing.revert_parts.Goals as goal

pub parts-init : goal.parts-init
parts-init g c = partly-none (λ k (s t : PartSeat _ _ _ _). RevertsTree g.T.Tree.view g.T.Tree.pins g.T.Tree.most s.tree s.caller t.tree t.caller t.fresh.items) c.args.parts.now.items

pub revert-requires-clause-of : goal.revert-requires-clause-of
revert-requires-clause-of g c =
    let n = c.parts.invariant.count in let lt = c.parts-test.true in
    let may = still (λ k (s t : PartSeat _ _ _ _). RevertsTree g.T.Tree.view g.T.Tree.pins g.T.Tree.most s.tree s.caller t.tree t.caller t.fresh.items) (λ (s : PartSeat _ _ _ _). MayRevert g.T.Tree.pins c.args.memo.now.locks s.tree s.caller) c.parts.i c.args.parts.now.items c.parts.parts.items c.index_mut-seat.result.now c.parts.invariant c.requires
    (omega (arith, lt, c.parts.auto, c.len-i-end.ensures, n, c.args.parts.now.ok.0)) c.index_mut-seat.ensures.value in
    may.of

pub revert-requires-clause-covered : goal.revert-requires-clause-covered
revert-requires-clause-covered g c =
    let n = c.parts.invariant.count in let lt = c.parts-test.true in
    let may = still (λ k (s t : PartSeat _ _ _ _). RevertsTree g.T.Tree.view g.T.Tree.pins g.T.Tree.most s.tree s.caller t.tree t.caller t.fresh.items) (λ (s : PartSeat _ _ _ _). MayRevert g.T.Tree.pins c.args.memo.now.locks s.tree s.caller) c.parts.i c.args.parts.now.items c.parts.parts.items c.index_mut-seat.result.now c.parts.invariant c.requires
    (omega (arith, lt, c.parts.auto, c.len-i-end.ensures, n, c.args.parts.now.ok.0)) c.index_mut-seat.ensures.value in
    may.covered

pub parts-preserved : goal.parts-preserved
parts-preserved g c =
    let n = c.parts.invariant.count in let lt = c.parts-test.true in
    partly-more (λ k (s t : PartSeat _ _ _ _). RevertsTree g.T.Tree.view g.T.Tree.pins g.T.Tree.most s.tree s.caller t.tree t.caller t.fresh.items) c.parts.i c.args.parts.now.items c.parts.parts.items c.index_mut-seat.result.now _ c.parts.invariant
    (omega (arith, lt, c.parts.auto, c.len-i-end.ensures, n, c.args.parts.now.ok.0)) c.index_mut-seat.ensures.value
    (record { reverted_is = c.revert.ensures.reverted; covered = c.revert.ensures.covered; balanced = c.revert.ensures.balanced; few = c.revert.ensures.few; fresh_done = c.clear.ensures.items })

pub returns : goal.returns
returns g c =
    let lt = c.parts-test.false in
    partly-all (λ k (s t : PartSeat _ _ _ _). RevertsTree g.T.Tree.view g.T.Tree.pins g.T.Tree.most s.tree s.caller t.tree t.caller t.fresh.items) c.parts.i c.args.parts.now.items c.parts.parts.items c.parts.invariant (omega (arith, lt, c.parts.auto, c.len-i-end.ensures, c.args.parts.now.ok.0))

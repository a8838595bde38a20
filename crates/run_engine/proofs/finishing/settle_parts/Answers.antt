use Rattle.std.proofs.Common.{arith}
use Rattle.run_engine.specs.declared.part_seat.PartSeat.{PartSeat}
use Rattle.run_engine.specs.Finishing.{SettlesTree, MaySettle}
use Rattle.run_engine.proofs.InPlaceSteps.{partly-none, partly-more, partly-all}
use Rattle.run_engine.proofs.FinishSteps.{still}
use Rattle.run_engine.proofs.finishing.settle_parts.Goals as goal

pub parts-init : goal.parts-init
parts-init g c = partly-none (λ k (s t : PartSeat _ _ _ _). SettlesTree g.T.Tree.view g.T.Tree.pins g.T.Tree.most s.tree s.caller t.tree t.caller t.fresh.items) c.args.parts.now.items

pub settle-requires-clause-of : goal.settle-requires-clause-of
settle-requires-clause-of g c =
    let n = c.parts.invariant.count in let lt = c.parts-test.true in
    let may = still (λ k (s t : PartSeat _ _ _ _). SettlesTree g.T.Tree.view g.T.Tree.pins g.T.Tree.most s.tree s.caller t.tree t.caller t.fresh.items) (λ (s : PartSeat _ _ _ _). MaySettle g.T.Tree.view g.T.Tree.pins c.args.memo.now.locks s.tree s.caller) c.parts.i c.args.parts.now.items c.parts.parts.items c.index_mut-seat.result.now c.parts.invariant c.requires
    (omega (arith, lt, c.parts.auto, c.len-i-end.ensures, n, c.args.parts.now.ok.0)) c.index_mut-seat.ensures.value in
    may.of

pub settle-requires-clause-covered : goal.settle-requires-clause-covered
settle-requires-clause-covered g c =
    let n = c.parts.invariant.count in let lt = c.parts-test.true in
    let may = still (λ k (s t : PartSeat _ _ _ _). SettlesTree g.T.Tree.view g.T.Tree.pins g.T.Tree.most s.tree s.caller t.tree t.caller t.fresh.items) (λ (s : PartSeat _ _ _ _). MaySettle g.T.Tree.view g.T.Tree.pins c.args.memo.now.locks s.tree s.caller) c.parts.i c.args.parts.now.items c.parts.parts.items c.index_mut-seat.result.now c.parts.invariant c.requires
    (omega (arith, lt, c.parts.auto, c.len-i-end.ensures, n, c.args.parts.now.ok.0)) c.index_mut-seat.ensures.value in
    may.covered

pub settle-requires-clause-draft : goal.settle-requires-clause-draft
settle-requires-clause-draft g c =
    let n = c.parts.invariant.count in let lt = c.parts-test.true in
    let may = still (λ k (s t : PartSeat _ _ _ _). SettlesTree g.T.Tree.view g.T.Tree.pins g.T.Tree.most s.tree s.caller t.tree t.caller t.fresh.items) (λ (s : PartSeat _ _ _ _). MaySettle g.T.Tree.view g.T.Tree.pins c.args.memo.now.locks s.tree s.caller) c.parts.i c.args.parts.now.items c.parts.parts.items c.index_mut-seat.result.now c.parts.invariant c.requires
    (omega (arith, lt, c.parts.auto, c.len-i-end.ensures, n, c.args.parts.now.ok.0)) c.index_mut-seat.ensures.value in
    may.draft

pub parts-preserved : goal.parts-preserved
parts-preserved g c =
    let n = c.parts.invariant.count in let lt = c.parts-test.true in
    partly-more (λ k (s t : PartSeat _ _ _ _). SettlesTree g.T.Tree.view g.T.Tree.pins g.T.Tree.most s.tree s.caller t.tree t.caller t.fresh.items) c.parts.i c.args.parts.now.items c.parts.parts.items c.index_mut-seat.result.now _ c.parts.invariant
    (omega (arith, lt, c.parts.auto, c.len-i-end.ensures, n, c.args.parts.now.ok.0)) c.index_mut-seat.ensures.value
    (record { settled_is = c.settle.ensures.settled; covered = c.settle.ensures.covered; balanced = c.settle.ensures.balanced; few = c.settle.ensures.few; fresh_done = c.clear.ensures.items })

pub returns : goal.returns
returns g c =
    let lt = c.parts-test.false in
    partly-all (λ k (s t : PartSeat _ _ _ _). SettlesTree g.T.Tree.view g.T.Tree.pins g.T.Tree.most s.tree s.caller t.tree t.caller t.fresh.items) c.parts.i c.args.parts.now.items c.parts.parts.items c.parts.invariant (omega (arith, lt, c.parts.auto, c.len-i-end.ensures, c.args.parts.now.ok.0))

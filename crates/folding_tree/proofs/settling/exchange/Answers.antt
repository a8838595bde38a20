use Rattle.std.proofs.Common.{◌≡◌, ◌-◌, ℕ, [], ◌∷◌, ◌++◌, length, map, get_or, refl, sym, ap, subst, ◌∙◌, arith}
use Rattle.std.proofs.lemmas.List.{drop_all, length-set, nil_from_length, append-nil}
use Rattle.record_text.specs.Shifts.{put_at}
use Rattle.tree_laws.specs.Pairs.{pair_digest}
use Rattle.folding_tree.specs.Levels.{parts_pins}
use Rattle.tree_laws.specs.Trades.{Trades}
use Rattle.tree_laws.proofs.TradeLaws.{trades-same, trades-then, trades-covered}
use Rattle.folding_tree.proofs.FlowLaws.{put-next}
use Rattle.folding_tree.proofs.SettleLaws.{exchange-trade, exchange-cover}
use Rattle.folding_tree.proofs.settling.exchange.Goals as goal

pub places-init : goal.places-init
places-init g c =
    let d = pair_digest g.J.Job.encoded in
    record {
      of = c.requires.of;
      room = refl;
      size = refl;
      rest = (let n = c.requires.count in omega (arith, n));
      covered = c.requires.covered;
      nodes = refl;
      trades = trades-same c.args.caller.now (parts_pins d c.args.nodes.now.items ++ parts_pins d c.args.changed.items);
    }

pub let_part_go-requires-clause-of : goal.let_part_go-requires-clause-of
let_part_go-requires-clause-of g c = c.places.invariant.of

pub let_part_go-requires-clause-covered : goal.let_part_go-requires-clause-covered
let_part_go-requires-clause-covered g c =
    let d = pair_digest g.J.Job.encoded in
    let nodes = c.places.nodes.items in
    let low = c.args.low in
    let w = c.requires.within c.places.i 0 c.places-test.true in
    let w1 = w.1 in
    let size = c.places.invariant.size in
    let old = c.replace-old.result in
    let at : old ≡ get_or nodes (get_or c.args.places.now c.places.i 0 - low) old = subst (λ x. x ≡ get_or nodes (get_or c.args.places.now c.places.i 0 - low) x) (sym c.replace-old.ensures.value) c.index_mut.ensures.value in
    exchange-cover d c.places.caller nodes (get_or c.args.places.now c.places.i 0 - low) old (omega (arith, w1, size)) at (parts_pins d c.places.changed.items) c.places.invariant.covered

pub places-preserved : goal.places-preserved
places-preserved g c =
    let d = pair_digest g.J.Job.encoded in
    let nodes = c.places.nodes.items in
    let low = c.args.low in
    let i = c.places.i in
    let inv = c.places.invariant in
    let u = c.args.caller.now in
    let v = c.places.caller in
    let w = c.let_part_go.new.caller in
    let bound = c.requires.within i 0 c.places-test.true in
    let within = bound.1 in
    let size = inv.size in
    let place = get_or c.args.places.now i 0 - low in
    let old = c.replace-old.result in
    let part = c.replace-old.new.dest in
    let rest = c.pop_front.new.self.items in
    let news : c.places.changed.items ≡ part ∷ rest = c.in-Some.ensures.items ∙ ap (λ p. p ∷ rest) (sym c.replace-old.ensures.after) in
    let at : old ≡ get_or nodes place old = subst (λ x. x ≡ get_or nodes place x) (sym c.replace-old.ensures.value) c.index_mut.ensures.value in
    let step = exchange-trade d v w nodes place old part (omega (arith, within, size)) at c.places.changed.items rest news c.let_part_go.ensures in
    let left = inv.rest in
    let lt = c.places-test.true in
    record {
      of = step.balanced.later.locks ∙ inv.of;
      room = inv.room;
      size = length-set nodes place part ∙ inv.size;
      rest = (let n = ap length news in omega (arith, n, left, lt));
      covered = trades-covered v w _ _ step inv.covered;
      nodes = put-next low c.args.places.now c.places.changed.items rest nodes i part lt news ∙ inv.nodes;
      trades = trades-then u v w _ _ _ inv.trades step;
    }

pub unreachable-requires : goal.unreachable-requires
unreachable-requires g c =
    let none = c.in-None.ensures.cases in
    let n = none.0 in
    let rest = c.places.invariant.rest in
    let lt = c.places-test.true in
    let ok = c.places.changed.ok.0 in
    omega (arith, n, rest, lt, ok)

pub returns-clause-nodes : goal.returns-clause-nodes
returns-clause-nodes g c =
    ap (λ ps. put_at (map (λ (place : ℕ). place - c.args.low) ps) c.places.changed.items c.places.nodes.items) (sym (drop_all c.places.i c.args.places.now c.places-test.false)) ∙ c.places.invariant.nodes

pub returns-clause-trades : goal.returns-clause-trades
returns-clause-trades g c =
    let d = pair_digest g.J.Job.encoded in
    let le = c.places-test.false in
    let rest = c.places.invariant.rest in
    let none : c.places.changed.items ≡ [] = nil_from_length c.places.changed.items (omega (arith, le, rest)) in
    let pins : parts_pins d c.places.nodes.items ++ parts_pins d c.places.changed.items ≡ parts_pins d c.places.nodes.items = ap (λ ps. parts_pins d c.places.nodes.items ++ parts_pins d ps) none ∙ append-nil (parts_pins d c.places.nodes.items) in
    subst (λ qs. Trades c.args.caller.now (parts_pins d c.args.nodes.now.items ++ parts_pins d c.args.changed.items) c.places.caller qs) pins c.places.invariant.trades

use Rattle.std.proofs.Common.{◌≡◌, ◌-◌, ◌∷◌, length, drop, refl, sym, ap, subst, ◌∙◌, arith}
use Rattle.pin_table.specs.Covers.{Covered}
use Rattle.pin_table.proofs.Covering.{covered-left}
use Rattle.tree_laws.specs.Pairs.{pair_digest}
use Rattle.folding_tree.specs.Levels.{part_pins, parts_pins}
use Rattle.tree_laws.specs.Trades.{Trades}
use Rattle.tree_laws.proofs.TradeLaws.{trades-then, trades-first, trades-covered, trades-same}
use Rattle.folding_tree.proofs.PartLaws.{drop-first}
use Rattle.folding_tree.proofs.letting.let_first_go.Goals as goal

pub first-init : goal.first-init
first-init g c = record {
  of = c.requires.of;
  room = refl;
  covered = c.requires.covered;
  rest = refl;
  trades = trades-same c.args.caller.now (parts_pins (pair_digest g.J.Job.encoded) c.args.parts.now.items);
}

pub let_part_go-requires-clause-of : goal.let_part_go-requires-clause-of
let_part_go-requires-clause-of g c = c.first.invariant.of

pub let_part_go-requires-clause-covered : goal.let_part_go-requires-clause-covered
let_part_go-requires-clause-covered g c =
    let d = pair_digest g.J.Job.encoded in
    covered-left c.first.caller (part_pins d c.in-Some.part) (parts_pins d c.pop_front.new.self.items) (subst (λ ps. Covered c.first.caller (parts_pins d ps)) c.in-Some.ensures.items c.first.invariant.covered)

pub first-preserved : goal.first-preserved
first-preserved g c =
    let d = pair_digest g.J.Job.encoded in
    let v = c.first.caller in
    let w = c.let_part_go.new.caller in
    let parts = c.first.parts.items in
    let rest = c.pop_front.new.self.items in
    let own = part_pins d c.in-Some.part in
    let is : parts ≡ c.in-Some.part ∷ rest = c.in-Some.ensures.items in
    let gone = trades-first v w own (parts_pins d rest) c.let_part_go.ensures in
    let all : Trades v (parts_pins d parts) w (parts_pins d rest) = subst (λ ps. Trades v (parts_pins d ps) w (parts_pins d rest)) (sym is) gone in
    record {
      of = gone.balanced.later.locks ∙ c.first.invariant.of;
      room = c.pop_front.ensures.capacity ∙ c.first.invariant.room;
      covered = trades-covered v w (parts_pins d parts) (parts_pins d rest) all c.first.invariant.covered;
      rest = drop-first c.args.left parts rest c.in-Some.part is (let lt = c.first-test.true in let n = c.len.ensures in let m = c.first.parts.ok.0 in omega (arith, lt, n, m)) ∙ c.first.invariant.rest;
      trades = trades-then c.args.caller.now v w (parts_pins d c.args.parts.now.items) (parts_pins d parts) (parts_pins d rest) c.first.invariant.trades all;
    }

pub returns-clause-rest : goal.returns-clause-rest
returns-clause-rest g c =
    let none : length c.first.parts.items - c.args.left ≡ 0 = (let le = c.first-test.false in let n = c.len.ensures in let m = c.first.parts.ok.0 in omega (arith, le, n, m)) in
    sym (ap (λ k. drop k c.first.parts.items) none) ∙ c.first.invariant.rest

use Rattle.std.proofs.Common.{◌≡◌, ◌++◌, refl, sym, ap, subst, ◌∙◌, arith}
use Rattle.std.proofs.lemmas.List.{take_all}
use Rattle.pin_table.specs.Covers.{Covered}
use Rattle.pin_table.proofs.Covering.{covered-right}
use Rattle.tree_laws.specs.Pairs.{pair_digest}
use Rattle.folding_tree.specs.Levels.{part_pins, parts_pins}
use Rattle.tree_laws.specs.Trades.{Trades}
use Rattle.tree_laws.proofs.TradeLaws.{trades-then, trades-last, trades-covered, trades-same}
use Rattle.folding_tree.proofs.PartLaws.{pins-push, take-last}
use Rattle.folding_tree.proofs.letting.let_last_go.Goals as goal

pub last-init : goal.last-init
last-init g c = record {
  of = c.requires.of;
  room = refl;
  covered = c.requires.covered;
  rest = refl;
  trades = trades-same c.args.caller.now (parts_pins (pair_digest g.J.Job.encoded) c.args.parts.now.items);
}

pub let_part_go-requires-clause-covered : goal.let_part_go-requires-clause-covered
let_part_go-requires-clause-covered g c =
    let d = pair_digest g.J.Job.encoded in
    let rest = c.pop_back.new.self.items in
    let pins : parts_pins d c.last.parts.items ≡ parts_pins d rest ++ part_pins d c.in-Some.part = ap (parts_pins d) c.in-Some.ensures.items ∙ pins-push d rest c.in-Some.part in
    covered-right c.last.caller (parts_pins d rest) (part_pins d c.in-Some.part) (subst (Covered c.last.caller) pins c.last.invariant.covered)

pub last-preserved : goal.last-preserved
last-preserved g c =
    let d = pair_digest g.J.Job.encoded in
    let v = c.last.caller in
    let w = c.let_part_go.new.caller in
    let parts = c.last.parts.items in
    let rest = c.pop_back.new.self.items in
    let own = part_pins d c.in-Some.part in
    let pins : parts_pins d parts ≡ parts_pins d rest ++ own = ap (parts_pins d) c.in-Some.ensures.items ∙ pins-push d rest c.in-Some.part in
    let all : Trades v (parts_pins d parts) w (parts_pins d rest) = subst (λ ps. Trades v ps w (parts_pins d rest)) (sym pins) (trades-last v w own (parts_pins d rest) c.let_part_go.ensures) in
    record {
      of = all.balanced.later.locks ∙ c.last.invariant.of;
      room = c.pop_back.ensures.capacity ∙ c.last.invariant.room;
      covered = trades-covered v w (parts_pins d parts) (parts_pins d rest) all c.last.invariant.covered;
      rest = take-last c.args.kept parts rest c.in-Some.part c.in-Some.ensures.items (let lt = c.last-test.true in let n = c.len.ensures in let m = c.last.parts.ok.0 in omega (arith, lt, n, m)) ∙ c.last.invariant.rest;
      trades = trades-then c.args.caller.now v w (parts_pins d c.args.parts.now.items) (parts_pins d parts) (parts_pins d rest) c.last.invariant.trades all;
    }

pub returns-clause-rest : goal.returns-clause-rest
returns-clause-rest g c = sym (take_all c.args.kept c.last.parts.items (let le = c.last-test.false in let n = c.len.ensures in let m = c.last.parts.ok.0 in omega (arith, le, n, m))) ∙ c.last.invariant.rest

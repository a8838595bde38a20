use Rattle.std.proofs.Common.{◌≡◌, [], ◌++◌, List, subst, ◌∙◌, arith}
use Rattle.std.proofs.lemmas.List.{nil_from_length}
use Rattle.pin_table.specs.Covers.{PinName, Balanced}
use Rattle.pin_table.proofs.Covering.{balanced-then}
use Rattle.tree_laws.specs.Pairs.{pair_digest}
use Rattle.tree_laws.specs.Holds.{hold_pins, all_pins}
use Rattle.tree_laws.proofs.HoldLaws.{last-covered, rest-covered, rest-balanced}
use Rattle.tree_laws.proofs.letting_go.let_all_go.Goals as goal

pub let_go-requires-clause-covered : goal.let_go-requires-clause-covered
let_go-requires-clause-covered g c =
    last-covered (pair_digest g.J.Job.encoded) c.holds.caller c.holds.caller c.holds.holds.items c.pop.new.self.items c.in-Some.hold c.in-Some.ensures.items c.holds.invariant.covered

pub holds-preserved : goal.holds-preserved
holds-preserved g c =
    let d = pair_digest g.J.Job.encoded in
    let v = c.holds.caller in
    let w = c.let_go.new.caller in
    let hs = c.holds.holds.items in
    let rest = c.pop.new.self.items in
    let all = all_pins d c.args.holds.items in
    record {
      of = (c.let_go.ensures []).later.locks ∙ c.holds.invariant.of;
      covered = rest-covered d v w hs rest c.in-Some.hold c.in-Some.ensures.items c.let_go.ensures c.holds.invariant.covered;
      balanced = λ ps. balanced-then c.args.caller.now v w (all ++ ps) (all_pins d hs ++ ps) (all_pins d rest ++ ps) (c.holds.invariant.balanced ps) (rest-balanced d v w hs rest c.in-Some.hold c.in-Some.ensures.items c.let_go.ensures ps);
    }

pub returns : goal.returns
returns g c = λ ps.
    let d = pair_digest g.J.Job.encoded in
    let none = c.in_default.ensures.cases in
    let empty : c.holds.holds.items ≡ [] = nil_from_length c.holds.holds.items (omega (arith, none.0, c.holds.holds.ok.0)) in
    subst (λ hs. Balanced c.args.caller.now (all_pins d c.args.holds.items ++ ps) c.holds.caller (all_pins d hs ++ ps)) empty (c.holds.invariant.balanced ps)

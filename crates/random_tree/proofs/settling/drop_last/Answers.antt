use Rattle.std.proofs.Common.{◌-◌, ◌∷◌, [], length, sym, ap, ◌∙◌, arith, length-append}
use Rattle.std.proofs.lemmas.List.{take_all}
use Rattle.pin_table.proofs.Covering.{balanced-then, balanced-same}
use Rattle.tree_laws.specs.Pairs.{pair_digest}
use Rattle.random_tree.specs.Levels.{groups_pins}
use Rattle.random_tree.proofs.PinLaws.{last-covered, rest-covered, rest-balanced}
use Rattle.random_tree.proofs.SpliceLaws.{popped}
use Rattle.random_tree.proofs.settling.drop_last.Goals as goal

pub groups-init : goal.groups-init
groups-init g c = record {
  of = c.requires.of;
  items = sym (take_all (length c.args.groups.now.items) c.args.groups.now.items (omega arith));
  enough = (let n = c.len.ensures in let ok = c.args.groups.now.ok.0 in omega (arith, n, ok));
  few = omega arith;
  covered = c.requires.covered;
  balanced = balanced-same c.args.caller.now (groups_pins (pair_digest g.J.Job.encoded) c.args.groups.now.items);
}

pub let_all_go-requires-clause-covered : goal.let_all_go-requires-clause-covered
let_all_go-requires-clause-covered g c =
    last-covered (pair_digest g.J.Job.encoded) c.groups.caller c.groups.groups.items c.pop.new.self.items c.in-Some.group c.in-Some.ensures.items c.groups.invariant.covered

pub groups-preserved : goal.groups-preserved
groups-preserved g c =
    let d = pair_digest g.J.Job.encoded in
    let v = c.groups.caller in
    let w = c.let_all_go.new.caller in
    let hs = c.groups.groups.items in
    let rest = c.pop.new.self.items in
    let x = c.in-Some.group in
    let is = c.in-Some.ensures.items in
    let n = ap length is in
    let m = length-append rest (x ∷ []) in
    record {
      of = (c.let_all_go.ensures []).later.locks ∙ c.groups.invariant.of;
      items = popped c.args.groups.now.items hs rest x is c.groups.invariant.items;
      enough = (let t = c.groups-test.true in let l = c.len-in-groups.ensures in let ok = c.groups.groups.ok.0 in omega (arith, t, l, ok, n, m));
      few = (let f = c.groups.invariant.few in omega (arith, f, n, m));
      covered = rest-covered d v hs rest x is w c.let_all_go.ensures c.groups.invariant.covered;
      balanced = balanced-then c.args.caller.now v w (groups_pins d c.args.groups.now.items) (groups_pins d hs) (groups_pins d rest) c.groups.invariant.balanced (rest-balanced d v hs rest x is w c.let_all_go.ensures);
    }

use Rattle.std.proofs.Common.{◌≡◌, refl, arith}
use Rattle.std.proofs.lemmas.List.Elements.{All-nil}
use Rattle.random_tree.specs.declared.group.Group.{Group}
use Rattle.random_tree.proofs.BoundaryLaws.{boundary-more, boundary-fits, ended-more}
use Rattle.random_tree.proofs.boundary.kept_before.Goals as goal

pub groups-init : goal.groups-init
groups-init g c = record {
  boundary = (omega arith, refl);
  within = omega arith;
  ended = All-nil (λ (h : Group g.row.J.Denot g.row.J-Val.Denot g.row.J-Meter.Denot). h.ended ≡ _);
}

pub overflow_add-kept : goal.overflow_add-kept
overflow_add-kept g c =
    let fits = boundary-fits c.args.groups.now c.groups.kept c.index-groups-kept.result c.groups.invariant.boundary c.groups-test.true c.index-groups-kept.is in
    let n = c.len.ensures in
    let most = c.requires in
    omega (arith, fits, n, most)

pub groups-preserved : goal.groups-preserved
groups-preserved g c =
    let x = c.index-groups-kept.result in
    let n = c.len.ensures in
    record {
      boundary = boundary-more c.args.groups.now c.groups.kept _ x c.groups.invariant.boundary c.groups-test.true c.index-groups-kept.is refl (let m = c.len-in-groups.ensures in omega (arith, m));
      within = (let le = c.if-kept-len.false in let m = c.len-in-groups.ensures in omega (arith, le, n, m));
      ended = ended-more c.args.groups.now c.groups.kept.groups _ x refl c.groups-test.true c.index-groups-kept.is c.groups.invariant.ended c.if-not-group.false;
    }

use Rattle.std.proofs.Common.{refl, arith}
use Rattle.random_tree.proofs.BoundaryLaws.{boundary-more, boundary-fits}
use Rattle.random_tree.proofs.boundary.reach.Goals as goal

pub groups-preserved : goal.groups-preserved
groups-preserved g c =
    let x = c.index-groups-reached.result in
    record {
      boundary = boundary-more c.args.groups.now c.groups.reached _ x c.groups.invariant.boundary c.groups-test.true c.index-groups-reached.is refl (let m = c.len.ensures in omega (arith, m));
      later = (let le = c.groups.invariant.later in omega (arith, le));
    }

pub overflow_add-reached-in-groups : goal.overflow_add-reached-in-groups
overflow_add-reached-in-groups g c =
    let fits = boundary-fits c.args.groups.now c.groups.reached c.index-groups-reached.result c.groups.invariant.boundary c.groups-test.true c.index-groups-reached.is in
    let n = c.len.ensures in
    let most = c.requires.span in
    omega (arith, fits, n, most)

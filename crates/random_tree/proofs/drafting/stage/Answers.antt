use Rattle.std.proofs.Common.{length, take, refl, arith}
use Rattle.random_tree.proofs.DraftLaws.{leaves-length, leaves-plain}
use Rattle.random_tree.proofs.drafting.stage.Goals as goal

pub returns-in-Err-clause-err : goal.returns-in-Err-clause-err
returns-in-Err-clause-err g c = leaves-plain (take (length c.share_all.new.leaves.items) c.args.fresh.now) c.share_all.new.leaves.items c.in-Err.ensures.err

pub returns-in-Err-reserve-clause-err : goal.returns-in-Err-reserve-clause-err
returns-in-Err-reserve-clause-err g c = leaves-plain c.args.fresh.now c.share_all.new.leaves.items c.in-Ok.ensures.ok

pub returns-clause-room : goal.returns-clause-room
returns-clause-room g c =
    let r = c.in-Ok-reserve.ensures.ok in
    let n = leaves-length c.args.fresh.now c.share_all.new.leaves.items c.in-Ok.ensures.ok in
    let m = c.reserve.new.self.ok.0 in
    omega (arith, r, n, m)

pub returns-clause-ok : goal.returns-clause-ok
returns-clause-ok g c = (refl, refl, c.in-Ok.ensures.ok)

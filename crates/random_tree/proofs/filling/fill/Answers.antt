use Rattle.std.proofs.Common.{◌≤◌, length, map, drop, refl, ◌∙◌, arith}
use Rattle.std.proofs.lemmas.List.{length-map, length-drop}
use Rattle.tree_laws.specs.Pairs.{pair_digest}
use Rattle.random_tree.specs.Levels.{group_table, taken}
use Rattle.random_tree.proofs.GainLaws.{gains-none, gains-then}
use Rattle.random_tree.proofs.FillLaws.{added-within, fill-start, fill-next, fill-failed, fill-end, fill-meets}
use Rattle.random_tree.proofs.filling.fill.Goals as goal

pub groups-init : goal.groups-init
groups-init g c = record {
  of = c.requires.of;
  fills = fill-start g.J.Job.joined (g.J.Job.setting c.args.job.now) g.J.Job.encoded (map group_table (taken c.args.below.now)) c.args.kept.members c.args.caller.now (g.J.Meter.Meter.counts c.args.m.now) c.args.fresh.now.items c.requires.none;
  gains = gains-none (pair_digest g.J.Job.encoded) c.args.caller.now c.args.fresh.now.items;
  met = c.requires.kept;
  later = omega arith;
  within = c.requires.within;
}

pub groups-preserved : goal.groups-preserved
groups-preserved g c =
    let s = g.J.Job.setting c.args.job.now in
    let d = pair_digest g.J.Job.encoded in
    let us = map group_table (taken c.args.below.now) in
    let u = c.args.caller.now in
    let v = c.groups.caller in
    let w = c.add_group.new.caller in
    let x = g.J.Meter.Meter.counts c.args.m.now in
    let y = g.J.Meter.Meter.counts c.groups.m in
    let z = g.J.Meter.Meter.counts c.add_group.new.m in
    let adds = c.in-Ok.ensures.ok in
    let within = added-within g.J.Job.joined s g.J.Job.encoded (drop c.groups.at us) v w y z c.in-Ok.count c.groups.fresh.items c.add_group.new.fresh.items adds in
    let n = length-map (taken c.args.below.now) group_table in
    let m = length-drop c.groups.at us in
    record {
      of = c.add_group.ensures.gains.gets.0.later.locks ∙ c.groups.invariant.of;
      fills = fill-next g.J.Job.joined s g.J.Job.encoded us c.args.kept.members c.groups.at u v w x y z c.groups.fresh.items c.groups.invariant.fills c.add_group.ensures.gains.gets.0.later c.in-Ok.count c.add_group.new.fresh.items adds;
      gains = gains-then d u v w c.args.fresh.now.items c.groups.fresh.items c.add_group.new.fresh.items c.groups.invariant.gains c.add_group.ensures.gains;
      met = c.meet-stays.ensures.boundary;
      later = (let a = c.groups.invariant.later in let b = c.meet-stays.ensures.later in omega (arith, a, b));
      within = (let a = within.1 in let t = c.groups-test.true in let l = c.len.ensures in omega (arith, a, t, l, n, m));
    }

pub overflow_add-at : goal.overflow_add-at
overflow_add-at g c =
    let us = map group_table (taken c.args.below.now) in
    let within = added-within g.J.Job.joined (g.J.Job.setting c.args.job.now) g.J.Job.encoded (drop c.groups.at us) c.groups.caller c.add_group.new.caller (g.J.Meter.Meter.counts c.groups.m) (g.J.Meter.Meter.counts c.add_group.new.m) c.in-Ok.count c.groups.fresh.items c.add_group.new.fresh.items c.in-Ok.ensures.ok in
    let n = length-map (taken c.args.below.now) group_table in
    let m = length-drop c.groups.at us in
    let a = within.1 in
    let l = c.len.ensures in
    omega (arith, a, l, n, m)

pub groups-smaller : goal.groups-smaller
groups-smaller g c =
    let us = map group_table (taken c.args.below.now) in
    let within = added-within g.J.Job.joined (g.J.Job.setting c.args.job.now) g.J.Job.encoded (drop c.groups.at us) c.groups.caller c.add_group.new.caller (g.J.Meter.Meter.counts c.groups.m) (g.J.Meter.Meter.counts c.add_group.new.m) c.in-Ok.count c.groups.fresh.items c.add_group.new.fresh.items c.in-Ok.ensures.ok in
    let a = within.0 in
    let t = c.groups-test.true in
    let l = c.len.ensures in
    omega (arith, a, t, l)

pub returns-then-stays-clause-fills : goal.returns-then-stays-clause-fills
returns-then-stays-clause-fills g c =
    let stays = c.meet-stays.ensures.stays c.if-stays.true in
    fill-meets g.J.Job.joined (g.J.Job.setting c.args.job.now) g.J.Job.encoded c.args.below.now c.args.old.now c.args.kept c.groups.at c.args.caller.now c.groups.caller (g.J.Meter.Meter.counts c.args.m.now) (g.J.Meter.Meter.counts c.groups.m) c.groups.fresh.items c.groups.invariant.fills
    c.meet-stays.result.0 c.meet-stays.result.0.members c.meet-stays.ensures.boundary refl stays.0 (let a = c.groups.invariant.later in let b = c.meet-stays.ensures.later in omega (arith, a, b)) stays.1

pub returns-in-Err-clause-some : goal.returns-in-Err-clause-some
returns-in-Err-clause-some g c =
    fill-failed g.J.Job.joined (g.J.Job.setting c.args.job.now) g.J.Job.encoded (map group_table (taken c.args.below.now)) c.args.kept.members c.groups.at c.args.caller.now c.groups.caller c.add_group.new.caller (g.J.Meter.Meter.counts c.args.m.now) (g.J.Meter.Meter.counts c.groups.m) (g.J.Meter.Meter.counts c.add_group.new.m) c.groups.fresh.items c.groups.invariant.fills
    c.add_group.ensures.gains.gets.0.later c.in-Err.ensures.some

pub returns-in-Err-clause-gains : goal.returns-in-Err-clause-gains
returns-in-Err-clause-gains g c =
    gains-then (pair_digest g.J.Job.encoded) c.args.caller.now c.groups.caller c.add_group.new.caller c.args.fresh.now.items c.groups.fresh.items c.add_group.new.fresh.items c.groups.invariant.gains c.add_group.ensures.gains

pub returns-clause-fills : goal.returns-clause-fills
returns-clause-fills g c =
    let few : length (map group_table (taken c.args.below.now)) ≤ c.groups.at = (let t = c.groups-test.false in let l = c.len.ensures in let n = length-map (taken c.args.below.now) group_table in omega (arith, t, l, n)) in
    fill-end g.J.Job.joined (g.J.Job.setting c.args.job.now) g.J.Job.encoded c.args.below.now c.args.old.now c.args.kept c.groups.at c.args.caller.now c.groups.caller (g.J.Meter.Meter.counts c.args.m.now) (g.J.Meter.Meter.counts c.groups.m) c.groups.fresh.items c.groups.invariant.fills few c.requires.kept.0

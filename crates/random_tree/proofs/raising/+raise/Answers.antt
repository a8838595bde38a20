use Rattle.std.proofs.Common.{rules, ◌≡◌, ℕ, suc, ◌^◌, ◌≤◌, List, length, map, sym, ap, subst, ◌∙◌, arith}
use Rattle.std.specs.List.{All}
use Rattle.std.proofs.lemmas.List.{length-map, nil_from_length}
use Rattle.std.proofs.lemmas.List.Elements.{All-tail, All-cons}
use Rattle.tree_laws.specs.Pairs.{pair_digest}
use Rattle.random_tree.specs.declared.group.Group.{Group}
use Rattle.random_tree.specs.declared.level.Level.{Level}
use Rattle.random_tree.specs.Groups.{groups_of}
use Rattle.random_tree.specs.Inputs.{is_marked}
use Rattle.random_tree.specs.Levels.{Fits, IsUndrafted, AreLevels, now_of, taken, group_table}
use Rattle.random_tree.specs.Steps.{RaisesSome}
use Rattle.random_tree.proofs.LevelLaws.{over-set}
use Rattle.random_tree.proofs.RaiseLaws.{raise-none, raise-stopped, raise-then, raise-failed, levels-above, enough-above, levels-then, undrafted-gains, undrafted-fits}
use Rattle.random_tree.proofs.raising.+raise.Goals as goal

pub returns-in-None-clause-ok : goal.returns-in-None-clause-ok
returns-in-None-clause-ok g t c =
    let none = nil_from_length c.args.levels.now c.in-None.ensures.cases in
    let few : length (map group_table (taken c.args.below.now)) ≤ 1 =
    (let n = length-map (taken c.args.below.now) group_table in let e = c.requires.enough in let z = ap (λ (k : ℕ). 2 ^ k) c.in-None.ensures.cases in omega (arith, n, e, z)) in
    raise-none g.J.Job.joined (g.J.Job.setting c.args.job.now) g.J.Job.encoded (map group_table (taken c.args.below.now)) c.args.caller.now (g.J.Meter.Meter.counts c.args.m.now) (map taken c.args.levels.now) (ap (map taken) none) few

pub returns-in-Err-clause-fits : goal.returns-in-Err-clause-fits
returns-in-Err-clause-fits g t c =
    let rest = All-tail IsUndrafted c.in-Some.above.now c.in-Some.more.now (subst (All IsUndrafted) c.in-Some.ensures.cases.0 c.requires.undrafted) in
    All-cons Fits c.regroup.new.above c.in-Some.more.now c.regroup.ensures.fits (undrafted-fits c.in-Some.more.now rest)

pub returns-in-Err-clause-some : goal.returns-in-Err-clause-some
returns-in-Err-clause-some g t c =
    let s = g.J.Job.setting c.args.job.now in
    let us = map group_table (taken c.args.below.now) in
    let count : suc (length c.in-Some.more.now) ≡ length c.args.levels.now = (let n = c.in-Some.ensures.cases.1 in omega (arith, n)) in
    subst (λ (k : ℕ). RaisesSome g.J.Job.joined s g.J.Job.encoded us k c.args.caller.now c.regroup.new.caller (g.J.Meter.Meter.counts c.args.m.now) (g.J.Meter.Meter.counts c.regroup.new.m)) count
    (raise-stopped g.J.Job.joined s g.J.Job.encoded us c.args.caller.now c.regroup.new.caller (g.J.Meter.Meter.counts c.args.m.now) (g.J.Meter.Meter.counts c.regroup.new.m) (length c.in-Some.more.now) c.in-Err.ensures.some)

pub returns-in-Err-clause-gains : goal.returns-in-Err-clause-gains
returns-in-Err-clause-gains g t c =
    let rest = All-tail IsUndrafted c.in-Some.above.now c.in-Some.more.now (subst (All IsUndrafted) c.in-Some.ensures.cases.0 c.requires.undrafted) in
    levels-then (pair_digest g.J.Job.encoded) c.args.caller.now c.regroup.new.caller c.regroup.new.caller c.regroup.new.above c.in-Some.more.now c.regroup.ensures.gains (undrafted-gains (pair_digest g.J.Job.encoded) c.regroup.new.caller c.in-Some.more.now rest)

pub raise-requires : goal.raise-requires
raise-requires g t c κs within =
    let s = g.J.Job.setting c.args.job.now in
    let ts = map group_table (now_of c.args.below.now) in
    let us = map group_table (taken c.args.below.now) in
    let above = c.in-Some.above.now in
    let more = c.in-Some.more.now in
    let new = c.regroup.new.above in
    let is = c.in-Some.ensures.cases.0 in
    let level = c.in-Ok.ensures.ok in
    let are = subst (λ (ls : List (Level g.row.J.Denot g.row.J-Val.Denot g.row.J-Meter.Denot)). AreLevels g.J.Job.joined s g.J.Job.encoded (groups_of (is_marked g.J.Job.encoded) ts) (map now_of ls)) is c.requires.levels in
    let locks = c.regroup.ensures.gains.gets.0.later.locks ∙ c.requires.of in
    let set = over-set g.J.Job.joined s g.J.Job.encoded (groups_of (is_marked g.J.Job.encoded) us) (taken new) level.0 in
    let undrafted = All-tail IsUndrafted above more (subst (All IsUndrafted) is c.requires.undrafted) in
    let levels = subst (λ (hs : List (Group g.row.J.Denot g.row.J-Val.Denot g.row.J-Meter.Denot)). AreLevels g.J.Job.joined s g.J.Job.encoded (groups_of (is_marked g.J.Job.encoded) (map group_table hs)) (map now_of more)) (sym c.regroup.ensures.same) (levels-above g.J.Job.joined s g.J.Job.encoded ts (now_of above) (map now_of more) are) in
    let two : length us ≤ 2 ^ (suc (length more)) = (let n = length-map (taken c.args.below.now) group_table in let e = c.requires.enough in let z : length c.args.levels.now ≡ suc (length more) = (let m = c.in-Some.ensures.cases.1 in omega (arith, m)) in let p = ap (λ (k : ℕ). 2 ^ k) z in omega (arith, n, e, p)) in
    let enough = enough-above g.J.Job.joined s g.J.Job.encoded us (taken new) (length more) level.0 two in
    (search rules, (search rules, (search rules, (search rules, (search rules, (locks, (c.regroup.ensures.fits, (set, (undrafted, (levels, enough))))))))))

pub returns-in-Ok-raise-clause-ok : goal.returns-in-Ok-raise-clause-ok
returns-in-Ok-raise-clause-ok g t c =
    raise-then g.J.Job.joined (g.J.Job.setting c.args.job.now) g.J.Job.encoded (map group_table (taken c.args.below.now)) c.args.caller.now c.regroup.new.caller c.raise.new.caller (g.J.Meter.Meter.counts c.args.m.now) (g.J.Meter.Meter.counts c.regroup.new.m) (g.J.Meter.Meter.counts c.raise.new.m)
    (taken c.regroup.new.above) c.regroup.ensures.gains.gets.0.later c.raise.ensures.gains.gets.0.later c.in-Ok.ensures.ok (map taken c.raise.new.levels) c.in-Ok-raise.ensures.ok

pub returns-in-Ok-raise-clause-gains : goal.returns-in-Ok-raise-clause-gains
returns-in-Ok-raise-clause-gains g t c =
    levels-then (pair_digest g.J.Job.encoded) c.args.caller.now c.regroup.new.caller c.raise.new.caller c.regroup.new.above c.raise.new.levels c.regroup.ensures.gains c.raise.ensures.gains

pub returns-in-Err-raise-clause-some : goal.returns-in-Err-raise-clause-some
returns-in-Err-raise-clause-some g t c =
    let s = g.J.Job.setting c.args.job.now in
    let us = map group_table (taken c.args.below.now) in
    let count : suc (length c.in-Some.more.now) ≡ length c.args.levels.now = (let n = c.in-Some.ensures.cases.1 in omega (arith, n)) in
    subst (λ (k : ℕ). RaisesSome g.J.Job.joined s g.J.Job.encoded us k c.args.caller.now c.raise.new.caller (g.J.Meter.Meter.counts c.args.m.now) (g.J.Meter.Meter.counts c.raise.new.m)) count
    (raise-failed g.J.Job.joined s g.J.Job.encoded us c.args.caller.now c.regroup.new.caller c.raise.new.caller (g.J.Meter.Meter.counts c.args.m.now) (g.J.Meter.Meter.counts c.regroup.new.m) (g.J.Meter.Meter.counts c.raise.new.m)
    (taken c.regroup.new.above) c.regroup.ensures.gains.gets.0.later c.raise.ensures.gains.gets.0.later c.in-Ok.ensures.ok (length c.in-Some.more.now) c.in-Err-raise.ensures.some)

pub returns-in-Err-raise-clause-gains : goal.returns-in-Err-raise-clause-gains
returns-in-Err-raise-clause-gains g t c =
    levels-then (pair_digest g.J.Job.encoded) c.args.caller.now c.regroup.new.caller c.raise.new.caller c.regroup.new.above c.raise.new.levels c.regroup.ensures.gains c.raise.ensures.gains

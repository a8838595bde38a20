use Rattle.std.proofs.Common.{◌≡◌, ◌+◌, ◌-◌, ◌<◌, ◌≤◌, true, List, [], ◌++◌, length, map, take, drop, refl, sym, ap, subst, ◌∙◌, arith}
use Rattle.std.specs.List.{All}
use Rattle.std.proofs.lemmas.List.{length-map}
use Rattle.tree_laws.specs.Pairs.{pair_digest}
use Rattle.random_tree.specs.declared.group.Group.{Group}
use Rattle.random_tree.specs.Levels.{IsBoundary, group_table, now_of, fresh_of, taken, span}
use Rattle.random_tree.specs.Steps.{Fills}
use Rattle.random_tree.proofs.GainLaws.{gains-same}
use Rattle.random_tree.proofs.RegroupLaws.{regroup-same, regroup-none, regroup-some, regroup-failed, regroup-ok, old-span, taken-parts, taken-none, first-within}
use Rattle.random_tree.proofs.regrouping.regroup.Goals as goal

pub returns-then-stays-clause-room : goal.returns-then-stays-clause-room
returns-then-stays-clause-room g c =
    let a = ap (λ (gs : List (Group g.row.J.Denot g.row.J-Val.Denot g.row.J-Meter.Denot)). length gs) c.requires.undrafted.2 in
    let b = c.args.above.now.groups.ok.0 in
    let m = c.args.above.now.groups.ok.1 in
    omega (arith, a, b, m)

pub returns-then-stays-clause-ok : goal.returns-then-stays-clause-ok
returns-then-stays-clause-ok g c =
    let stays = c.stays.ensures c.if-stays.true in
    regroup-same g.J.Job.joined (g.J.Job.setting c.args.job.now) g.J.Job.encoded c.args.below.now c.args.above.now c.args.caller.now (g.J.Meter.Meter.counts c.args.m.now) stays.0 stays.1 c.requires.undrafted.1 c.requires.undrafted.2 c.requires.over

pub returns-then-stays-clause-gains : goal.returns-then-stays-clause-gains
returns-then-stays-clause-gains g c = gains-same (pair_digest g.J.Job.encoded) c.args.caller.now [] (fresh_of c.args.above.now) c.requires.undrafted.2

pub returns-then-len-lt2-clause-room : goal.returns-then-len-lt2-clause-room
returns-then-len-lt2-clause-room g c =
    let a = ap (λ (gs : List (Group g.row.J.Denot g.row.J-Val.Denot g.row.J-Meter.Denot)). length gs) c.requires.undrafted.2 in
    let b = c.args.above.now.groups.ok.0 in
    let m = c.args.above.now.groups.ok.1 in
    omega (arith, a, b, m)

pub returns-then-len-lt2-clause-ok : goal.returns-then-len-lt2-clause-ok
returns-then-len-lt2-clause-ok g c =
    let above = c.args.above.now in
    let few : length (map group_table (taken c.args.below.now)) < 2 = (let t = c.if-len-lt2.true in let l = c.len.ensures in let n = length-map (taken c.args.below.now) group_table in omega (arith, t, l, n)) in
    let all = c.len-above.ensures ∙ above.groups.ok.0 in
    regroup-none g.J.Job.joined (g.J.Job.setting c.args.job.now) g.J.Job.encoded (map group_table (taken c.args.below.now)) c.args.caller.now (g.J.Meter.Meter.counts c.args.m.now) _ few
    (taken-none above.draft.first c.len-above.result above.groups.items above.draft.fresh.items c.requires.undrafted.0 c.requires.undrafted.2 all)

pub returns-then-len-lt2-clause-gains : goal.returns-then-len-lt2-clause-gains
returns-then-len-lt2-clause-gains g c = gains-same (pair_digest g.J.Job.encoded) c.args.caller.now [] (fresh_of c.args.above.now) c.requires.undrafted.2

pub kept_before-kept-requires : goal.kept_before-kept-requires
kept_before-kept-requires g c =
    let ts = map group_table (now_of c.args.below.now) in
    let le = old-span g.J.Job.joined (g.J.Job.setting c.args.job.now) g.J.Job.encoded ts (now_of c.args.above.now) c.requires.over in
    let n = length-map (now_of c.args.below.now) group_table in
    let a = c.args.below.now.groups.ok.0 in
    let b = c.args.below.now.groups.ok.1 in
    let m = c.args.below.now.groups.small in
    let s = ap (λ (gs : List (Group g.row.J.Denot g.row.J-Val.Denot g.row.J-Meter.Denot)). span gs) c.as_slice.ensures.value in
    omega (arith, le, n, a, b, m, s)

pub fill-requires-clause-kept : goal.fill-requires-clause-kept
fill-requires-clause-kept g c =
    subst (λ (gs : List (Group g.row.J.Denot g.row.J-Val.Denot g.row.J-Meter.Denot)). IsBoundary gs c.kept_before-kept.result) (c.as_slice.ensures.value ∙ sym c.as_slice-2.ensures.value) c.kept_before-kept.ensures.boundary

pub fill-requires-clause-within : goal.fill-requires-clause-within
fill-requires-clause-within g c =
    let a = c.kept_before-kept.ensures.within in
    let b = first-within c.args.below.now c.requires.fits in
    omega (arith, a, b)

pub fill-requires-clause-span : goal.fill-requires-clause-span
fill-requires-clause-span g c =
    let ts = map group_table (now_of c.args.below.now) in
    let le = old-span g.J.Job.joined (g.J.Job.setting c.args.job.now) g.J.Job.encoded ts (now_of c.args.above.now) c.requires.over in
    let n = length-map (now_of c.args.below.now) group_table in
    let a = c.args.below.now.groups.ok.0 in
    let b = c.args.below.now.groups.ok.1 in
    let m = c.args.below.now.groups.small in
    let s = ap (λ (gs : List (Group g.row.J.Denot g.row.J-Val.Denot g.row.J-Meter.Denot)). span gs) c.as_slice-2.ensures.value in
    omega (arith, le, n, a, b, m, s)

pub returns-in-Err-clause-some : goal.returns-in-Err-clause-some
returns-in-Err-clause-some g c =
    let s = g.J.Job.setting c.args.job.now in
    let below = c.args.below.now in
    let kept = c.kept_before-kept.result in
    let boundary = subst (λ (gs : List (Group g.row.J.Denot g.row.J-Val.Denot g.row.J-Meter.Denot)). IsBoundary gs kept) c.as_slice.ensures.value c.kept_before-kept.ensures.boundary in
    let ended = subst (λ (gs : List (Group g.row.J.Denot g.row.J-Val.Denot g.row.J-Meter.Denot)). All (λ h. h.ended ≡ true) (take kept.groups gs)) c.as_slice.ensures.value c.kept_before-kept.ensures.ended in
    let two : 2 ≤ length (map group_table (taken below)) = (let t = c.if-len-lt2.false in let l = c.len.ensures in let n = length-map (taken below) group_table in omega (arith, t, l, n)) in
    regroup-failed g.J.Job.joined s g.J.Job.encoded below (now_of c.args.above.now) kept c.requires.over boundary c.kept_before-kept.ensures.within c.requires.fits ended two
    c.args.caller.now c.fill.new.caller (g.J.Meter.Meter.counts c.args.m.now) (g.J.Meter.Meter.counts c.fill.new.m) c.in-Err.ensures.some

pub returns-in-Ok-reserve-clause-ok : goal.returns-in-Ok-reserve-clause-ok
returns-in-Ok-reserve-clause-ok g c =
    let s = g.J.Job.setting c.args.job.now in
    let below = c.args.below.now in
    let old = now_of c.args.above.now in
    let kept = c.kept_before-kept.result in
    let until = c.in-Ok.until in
    let fresh = c.fill.new.fresh.items in
    let u = c.args.caller.now in
    let v = c.fill.new.caller in
    let x = g.J.Meter.Meter.counts c.args.m.now in
    let y = g.J.Meter.Meter.counts c.fill.new.m in
    let boundary = subst (λ (gs : List (Group g.row.J.Denot g.row.J-Val.Denot g.row.J-Meter.Denot)). IsBoundary gs kept) c.as_slice.ensures.value c.kept_before-kept.ensures.boundary in
    let ended = subst (λ (gs : List (Group g.row.J.Denot g.row.J-Val.Denot g.row.J-Meter.Denot)). All (λ h. h.ended ≡ true) (take kept.groups gs)) c.as_slice.ensures.value c.kept_before-kept.ensures.ended in
    let two : 2 ≤ length (map group_table (taken below)) = (let t = c.if-len-lt2.false in let l = c.len.ensures in let n = length-map (taken below) group_table in omega (arith, t, l, n)) in
    let fills = subst (λ (gs : List (Group g.row.J.Denot g.row.J-Val.Denot g.row.J-Meter.Denot)). Fills g.J.Job.joined s g.J.Job.encoded below gs kept until u v x y fresh) c.as_slice-2.ensures.value c.in-Ok.ensures.fills in
    regroup-ok g.J.Job.joined s g.J.Job.encoded below old kept c.requires.over boundary c.kept_before-kept.ensures.within c.requires.fits ended two until u v x y fresh fills
    (take kept.groups c.reserve.new.self.items ++ (fresh ++ drop (kept.groups + (until - kept.groups)) c.reserve.new.self.items))
    (taken-parts kept.groups (until - kept.groups) until c.reserve.new.self.items old fresh c.reserve.ensures.items refl fills.later)

pub returns-in-Err-reserve-clause-some : goal.returns-in-Err-reserve-clause-some
returns-in-Err-reserve-clause-some g c =
    let s = g.J.Job.setting c.args.job.now in
    let below = c.args.below.now in
    let old = now_of c.args.above.now in
    let kept = c.kept_before-kept.result in
    let until = c.in-Ok.until in
    let fresh = c.fill.new.fresh.items in
    let u = c.args.caller.now in
    let v = c.fill.new.caller in
    let x = g.J.Meter.Meter.counts c.args.m.now in
    let y = g.J.Meter.Meter.counts c.fill.new.m in
    let boundary = subst (λ (gs : List (Group g.row.J.Denot g.row.J-Val.Denot g.row.J-Meter.Denot)). IsBoundary gs kept) c.as_slice.ensures.value c.kept_before-kept.ensures.boundary in
    let ended = subst (λ (gs : List (Group g.row.J.Denot g.row.J-Val.Denot g.row.J-Meter.Denot)). All (λ h. h.ended ≡ true) (take kept.groups gs)) c.as_slice.ensures.value c.kept_before-kept.ensures.ended in
    let two : 2 ≤ length (map group_table (taken below)) = (let t = c.if-len-lt2.false in let l = c.len.ensures in let n = length-map (taken below) group_table in omega (arith, t, l, n)) in
    let fills = subst (λ (gs : List (Group g.row.J.Denot g.row.J-Val.Denot g.row.J-Meter.Denot)). Fills g.J.Job.joined s g.J.Job.encoded below gs kept until u v x y fresh) c.as_slice-2.ensures.value c.in-Ok.ensures.fills in
    regroup-some g.J.Job.joined s g.J.Job.encoded (map group_table (taken below)) u v x y (take kept.groups old ++ (fresh ++ drop until old))
    (regroup-ok g.J.Job.joined s g.J.Job.encoded below old kept c.requires.over boundary c.kept_before-kept.ensures.within c.requires.fits ended two until u v x y fresh fills
    (take kept.groups old ++ (fresh ++ drop until old)) refl)

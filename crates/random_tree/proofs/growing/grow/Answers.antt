use Rattle.std.proofs.Common.{◌≡◌, ℕ, ◌+◌, true, false, List, [], ◌∷◌, ◌++◌, map, drop, refl, sym, ap, ◌∙◌, arith}
use Rattle.sheets.specs.Sheets.{SheetOf}
use Rattle.tree_laws.specs.Pairs.{pair_of, pair_digest}
use Rattle.tree_laws.specs.Holds.{all_pins}
use Rattle.tree_laws.specs.declared.hold.Hold.{Hold}
use Rattle.tree_laws.proofs.GetLaws.{gets-none, gets-after, gets-push, loose-push, loose-after}
use Rattle.random_tree.specs.Groups.{ends}
use Rattle.random_tree.specs.Inputs.{is_marked}
use Rattle.random_tree.specs.Levels.{last_sheet, group_table, taken, count_of}
use Rattle.random_tree.proofs.GrowLaws.{grow-last, grow-stopped, grow-failed, grow-next, grow-ends}
use Rattle.random_tree.proofs.LevelLaws.{member-set, over-sheet}
use Rattle.random_tree.proofs.MemberLaws.{next-member, left-from, grow-enter}
use Rattle.random_tree.proofs.growing.grow.Goals as goal

pub members-init : goal.members-init
members-init g c = record {
  of = c.requires.of;
  grows = grow-enter g.J.Job.joined (g.J.Job.setting c.args.job.now) g.J.Job.encoded (taken c.args.below.now) c.args.from c.args.group.now c.args.caller.now (g.J.Meter.Meter.counts c.args.m.now) c.requires.set c.requires.first c.requires.alone c.requires.opened;
  opened = c.requires.opened;
  gets = rw c.requires.alone (gets-none c.args.caller.now);
  loose = λ is. absurd (let no : false ≡ true = rw c.requires.alone at is in cc);
}

pub merge_through-requires-clause-left : goal.merge_through-requires-clause-left
merge_through-requires-clause-left g c =
    let s = g.J.Job.setting c.args.job.now in
    let g0 = c.members.group in
    let grows = c.members.invariant.grows in
    ap (λ (t : SheetOf g.row.J-Val.Denot). t.setting) (c.sheet.ensures ∙ (ap (last_sheet g0.first) c.reserve.ensures.items ∙ over-sheet g.J.Job.joined s g.J.Job.encoded grows.members g0 grows.over))

pub merge_through-requires-clause-right : goal.merge_through-requires-clause-right
merge_through-requires-clause-right g c =
    ap (λ (t : SheetOf g.row.J-Val.Denot). t.setting) (member-set (g.J.Job.setting c.args.job.now) (taken c.args.below.now) _ c.member-next.result.now c.requires.set c.member-next.ensures)

pub returns-in-Err-clause-some : goal.returns-in-Err-clause-some
returns-in-Err-clause-some g c =
    let s = g.J.Job.setting c.args.job.now in
    let ts = drop c.args.from (map group_table (taken c.args.below.now)) in
    grow-stopped g.J.Job.joined s g.J.Job.encoded ts c.args.caller.now c.members.caller (g.J.Meter.Meter.counts c.args.m.now) (g.J.Meter.Meter.counts c.members.m) c.members.group c.members.invariant.grows

pub returns-in-Err-merge_through-clause-some : goal.returns-in-Err-merge_through-clause-some
returns-in-Err-merge_through-clause-some g c =
    let s = g.J.Job.setting c.args.job.now in
    let gs = taken c.args.below.now in
    let ts = drop c.args.from (map group_table gs) in
    let g0 = c.members.group in
    let b = c.member-next.result.now in
    let a_is = c.sheet.ensures ∙ ap (last_sheet g0.first) c.reserve.ensures.items in
    let b_is = member-set s gs _ b c.requires.set c.member-next.ensures in
    let next_is = next-member gs c.args.from (count_of g0) _ b (ap (λ (n : ℕ). c.args.from + n) c.len-in-members-2.ensures) c.member-next.ensures in
    grow-failed g.J.Job.joined s g.J.Job.encoded ts c.args.caller.now c.members.caller (g.J.Meter.Meter.counts c.args.m.now) (g.J.Meter.Meter.counts c.members.m) g0 c.members.invariant.grows c.sheet.result.now b a_is b_is next_is
    c.merge_through.new.caller (g.J.Meter.Meter.counts c.merge_through.new.m) c.merge_through.ensures.counted c.merge_through.ensures.known c.in-Err-merge_through.ensures.unheld.later

pub returns-in-Err-merge_through-clause-gets : goal.returns-in-Err-merge_through-clause-gets
returns-in-Err-merge_through-clause-gets g c =
    let d = pair_digest g.J.Job.encoded in
    let got = gets-after c.args.caller.now c.members.caller c.merge_through.new.caller (all_pins d c.members.group.holds.items) c.members.invariant.gets c.in-Err-merge_through.ensures.unheld in
    rw c.reserve.ensures.items got

pub returns-in-Err-merge_through-clause-loose : goal.returns-in-Err-merge_through-clause-loose
returns-in-Err-merge_through-clause-loose g c =
    loose-after c.args.caller.now c.members.caller c.merge_through.new.caller c.members.group.holds.items c.reserve.new.self.items c.reserve.ensures.items c.members.invariant.loose c.in-Err-merge_through.ensures.unheld

pub members-preserved : goal.members-preserved
members-preserved g c =
    let s = g.J.Job.setting c.args.job.now in
    let d = pair_digest g.J.Job.encoded in
    let gs = taken c.args.below.now in
    let ts = drop c.args.from (map group_table gs) in
    let u = c.args.caller.now in
    let v = c.members.caller in
    let w = c.merge_through.new.caller in
    let x = g.J.Meter.Meter.counts c.args.m.now in
    let y = g.J.Meter.Meter.counts c.members.m in
    let z = g.J.Meter.Meter.counts c.merge_through.new.m in
    let g0 = c.members.group in
    let a = c.sheet.result.now in
    let b = c.member-next.result.now in
    let h = c.in-Ok-merge_through.hold in
    let held = c.in-Ok-merge_through.ensures.held in
    let a_is = c.sheet.ensures ∙ ap (last_sheet g0.first) c.reserve.ensures.items in
    let b_is = member-set s gs _ b c.requires.set c.member-next.ensures in
    let next_is = next-member gs c.args.from (count_of g0) _ b (ap (λ (n : ℕ). c.args.from + n) c.len-in-members-2.ensures) c.member-next.ensures in
    let pushed = c.push_reserved.ensures.items ∙ ap (λ (hs : List (Hold g.row.J.Denot g.row.J-Val.Denot g.row.J-Meter.Denot)). hs ++ h ∷ []) c.reserve.ensures.items in
    let goes = sym (ap (λ (n : ℕ). ends (is_marked g.J.Job.encoded) n b.entries) c.len-in-members-3.ensures) ∙ (sym c.ends_at.ensures ∙ c.if-ends_at.false) in
    record {
      of = held.got.later.locks ∙ c.members.invariant.of;
      grows = grow-next g.J.Job.joined s g.J.Job.encoded ts u v x y g0 c.members.invariant.grows a b a_is b_is next_is w z c.merge_through.ensures.counted c.merge_through.ensures.known h c.in-Ok-merge_through.ensures.value held
          (record { first = g0.first; holds = c.push_reserved.new.self; ended = g0.ended }) refl pushed c.members.invariant.opened goes;
      opened = c.members.invariant.opened;
      gets = gets-push d (pair_of a b) u v w g0.holds.items c.push_reserved.new.self.items h pushed held c.members.invariant.gets;
      loose = loose-push d (pair_of a b) u v w g0.holds.items c.push_reserved.new.self.items h pushed held c.members.invariant.grows.later c.members.invariant.loose;
    }

pub returns-then-ends_at-clause-grown : goal.returns-then-ends_at-clause-grown
returns-then-ends_at-clause-grown g c =
    let s = g.J.Job.setting c.args.job.now in
    let gs = taken c.args.below.now in
    let ts = drop c.args.from (map group_table gs) in
    let g0 = c.members.group in
    let a = c.sheet.result.now in
    let b = c.member-next.result.now in
    let h = c.in-Ok-merge_through.hold in
    let a_is = c.sheet.ensures ∙ ap (last_sheet g0.first) c.reserve.ensures.items in
    let b_is = member-set s gs _ b c.requires.set c.member-next.ensures in
    let next_is = next-member gs c.args.from (count_of g0) _ b (ap (λ (n : ℕ). c.args.from + n) c.len-in-members-2.ensures) c.member-next.ensures in
    let pushed = c.push_reserved.ensures.items ∙ ap (λ (hs : List (Hold g.row.J.Denot g.row.J-Val.Denot g.row.J-Meter.Denot)). hs ++ h ∷ []) c.reserve.ensures.items in
    let here = sym (ap (λ (n : ℕ). ends (is_marked g.J.Job.encoded) n b.entries) c.len-in-members-3.ensures) ∙ (sym c.ends_at.ensures ∙ c.if-ends_at.true) in
    grow-ends g.J.Job.joined s g.J.Job.encoded ts c.args.caller.now c.members.caller (g.J.Meter.Meter.counts c.args.m.now) (g.J.Meter.Meter.counts c.members.m) g0 c.members.invariant.grows a b a_is b_is next_is
    c.merge_through.new.caller (g.J.Meter.Meter.counts c.merge_through.new.m) c.merge_through.ensures.counted c.merge_through.ensures.known h c.in-Ok-merge_through.ensures.value c.in-Ok-merge_through.ensures.held
    (record { first = g0.first; holds = c.push_reserved.new.self; ended = true }) refl pushed here

pub returns-then-ends_at-clause-gets : goal.returns-then-ends_at-clause-gets
returns-then-ends_at-clause-gets g c =
    let h = c.in-Ok-merge_through.hold in
    let pushed = c.push_reserved.ensures.items ∙ ap (λ (hs : List (Hold g.row.J.Denot g.row.J-Val.Denot g.row.J-Meter.Denot)). hs ++ h ∷ []) c.reserve.ensures.items in
    gets-push (pair_digest g.J.Job.encoded) (pair_of c.sheet.result.now c.member-next.result.now) c.args.caller.now c.members.caller c.merge_through.new.caller c.members.group.holds.items c.push_reserved.new.self.items h pushed c.in-Ok-merge_through.ensures.held c.members.invariant.gets

pub returns-then-ends_at-clause-loose : goal.returns-then-ends_at-clause-loose
returns-then-ends_at-clause-loose g c =
    let h = c.in-Ok-merge_through.hold in
    let pushed = c.push_reserved.ensures.items ∙ ap (λ (hs : List (Hold g.row.J.Denot g.row.J-Val.Denot g.row.J-Meter.Denot)). hs ++ h ∷ []) c.reserve.ensures.items in
    loose-push (pair_digest g.J.Job.encoded) (pair_of c.sheet.result.now c.member-next.result.now) c.args.caller.now c.members.caller c.merge_through.new.caller c.members.group.holds.items c.push_reserved.new.self.items h pushed c.in-Ok-merge_through.ensures.held c.members.invariant.grows.later c.members.invariant.loose

pub returns-clause-grown : goal.returns-clause-grown
returns-clause-grown g c =
    let s = g.J.Job.setting c.args.job.now in
    let gs = taken c.args.below.now in
    let ts = drop c.args.from (map group_table gs) in
    let g0 = c.members.group in
    let few = left-from gs c.args.from (count_of g0) (let t = c.members-test.false in let n = c.len.ensures in let m = c.len-in-members.ensures in omega (arith, t, n, m)) in
    grow-last g.J.Job.joined s g.J.Job.encoded ts c.args.caller.now c.members.caller (g.J.Meter.Meter.counts c.args.m.now) (g.J.Meter.Meter.counts c.members.m) g0 c.members.invariant.grows few

use Rattle.std.proofs.Common.{rules, ◌≡◌, ◌≤◌, ◌-◌, ◌++◌, false, Bool, length, map, take, drop, arith, sym, ap, subst, ◌∙◌}
use Rattle.std.specs.List.{All}
use Rattle.pin_table.specs.Covers.{Covered, Balanced}
use Rattle.tree_laws.specs.Pairs.{pair_digest}
use Rattle.tree_laws.specs.Trees.{Seen, reverted}
use Rattle.random_tree.specs.Levels.{seen_of, IsSound, IsUndrafted, now_of, levels_pins}
use Rattle.random_tree.proofs.SpliceLaws.{written, same-length}
use Rattle.random_tree.proofs.PinLaws.{levels-covered}
use Rattle.random_tree.proofs.CallLaws.{few-pins, reverted-sound, reverted-view, reverted-balanced, reverted-covered}
use Rattle.random_tree.proofs.tree.RandomTreeTree.revert.Goals as goal

pub returns-then-not-self-clause-few : goal.returns-then-not-self-clause-few
returns-then-not-self-clause-few g c =
    let s = c.self.inside in
    let d = pair_digest g.J.Job.encoded in
    let u = c.args.caller.now in
    let off : s.drafted ≡ false = search rules in
    let is = ap (λ (b : Bool). seen_of d s.setting s.places s.levels.items b) (sym off) ∙ c.self.view_is in
    let sound = subst (λ (b : Bool). IsSound g.J.Job.good g.J.Job.joined g.J.Job.encoded s.setting s.levels.items b) off c.self.invariant in
    subst (λ (t : Seen g.row.J-Val.Denot). length t.pins ≤ length t.tree.leaves.tables - 1) is (few-pins g.J.Job.good g.J.Job.joined g.J.Job.encoded s.setting s.places s.levels.items sound)

pub revert_all-requires-clause-covered : goal.revert_all-requires-clause-covered
revert_all-requires-clause-covered g c =
    let s = c.self.inside in
    let d = pair_digest g.J.Job.encoded in
    let u = c.args.caller.now in
    let eq : c.as_mut_slice.result.now ≡ s.levels.items = c.as_mut_slice.ensures.value in
    subst (λ ls. Covered u (levels_pins d ls)) (sym eq) (levels-covered d u s.levels.items (subst (Covered u) (sym (ap (λ (t : Seen g.row.J-Val.Denot). t.pins) c.self.view_is)) c.requires.covered))

pub invariant_of-self : goal.invariant_of-self
invariant_of-self g c =
    let s = c.self.inside in
    let d = pair_digest g.J.Job.encoded in
    let u = c.args.caller.now in
    let eq : c.as_mut_slice.result.now ≡ s.levels.items = c.as_mut_slice.ensures.value in
    let w = c.revert_all.new.caller in
    let made = c.revert_all.new.levels in
    let ok = s.levels.ok.0 in
    let same = c.revert_all.ensures.same ∙ ap (map now_of) eq in
    let back = written s.levels.len made s.levels.items (omega (arith, ok)) (same-length now_of now_of made s.levels.items same) in
    let new = take s.levels.len (made ++ drop (length made) s.levels.items) in
    let same_then : map now_of new ≡ map now_of s.levels.items = ap (map now_of) back ∙ same in
    let none_then : All IsUndrafted new = subst (All IsUndrafted) (sym back) c.revert_all.ensures.undrafted in
    let balanced : Balanced u (levels_pins d s.levels.items) w (levels_pins d new) = subst (λ ls. Balanced u (levels_pins d s.levels.items) w (levels_pins d ls)) (sym back) (subst (λ ls. Balanced u (levels_pins d ls) w (levels_pins d made)) eq c.revert_all.ensures.balanced) in
    reverted-sound g.J.Job.good g.J.Job.joined g.J.Job.encoded s.setting s.places s.levels.items new s.drafted c.self.invariant same_then none_then u w balanced

pub returns-clause-reverted : goal.returns-clause-reverted
returns-clause-reverted g c =
    let s = c.self.inside in
    let d = pair_digest g.J.Job.encoded in
    let u = c.args.caller.now in
    let eq : c.as_mut_slice.result.now ≡ s.levels.items = c.as_mut_slice.ensures.value in
    let w = c.revert_all.new.caller in
    let made = c.revert_all.new.levels in
    let ok = s.levels.ok.0 in
    let same = c.revert_all.ensures.same ∙ ap (map now_of) eq in
    let back = written s.levels.len made s.levels.items (omega (arith, ok)) (same-length now_of now_of made s.levels.items same) in
    let new = take s.levels.len (made ++ drop (length made) s.levels.items) in
    let same_then : map now_of new ≡ map now_of s.levels.items = ap (map now_of) back ∙ same in
    let none_then : All IsUndrafted new = subst (All IsUndrafted) (sym back) c.revert_all.ensures.undrafted in
    let balanced : Balanced u (levels_pins d s.levels.items) w (levels_pins d new) = subst (λ ls. Balanced u (levels_pins d s.levels.items) w (levels_pins d ls)) (sym back) (subst (λ ls. Balanced u (levels_pins d ls) w (levels_pins d made)) eq c.revert_all.ensures.balanced) in
    subst (λ (t : Seen g.row.J-Val.Denot). (seen_of d s.setting s.places new false).tree ≡ reverted t.tree) c.self.view_is (reverted-view g.J.Job.good g.J.Job.joined g.J.Job.encoded s.setting s.places s.levels.items new s.drafted c.self.invariant same_then none_then u w balanced)

pub returns-clause-covered : goal.returns-clause-covered
returns-clause-covered g c =
    let s = c.self.inside in
    let d = pair_digest g.J.Job.encoded in
    let u = c.args.caller.now in
    let eq : c.as_mut_slice.result.now ≡ s.levels.items = c.as_mut_slice.ensures.value in
    let w = c.revert_all.new.caller in
    let made = c.revert_all.new.levels in
    let ok = s.levels.ok.0 in
    let same = c.revert_all.ensures.same ∙ ap (map now_of) eq in
    let back = written s.levels.len made s.levels.items (omega (arith, ok)) (same-length now_of now_of made s.levels.items same) in
    let new = take s.levels.len (made ++ drop (length made) s.levels.items) in
    let same_then : map now_of new ≡ map now_of s.levels.items = ap (map now_of) back ∙ same in
    let none_then : All IsUndrafted new = subst (All IsUndrafted) (sym back) c.revert_all.ensures.undrafted in
    let balanced : Balanced u (levels_pins d s.levels.items) w (levels_pins d new) = subst (λ ls. Balanced u (levels_pins d s.levels.items) w (levels_pins d ls)) (sym back) (subst (λ ls. Balanced u (levels_pins d ls) w (levels_pins d made)) eq c.revert_all.ensures.balanced) in
    reverted-covered g.J.Job.good g.J.Job.joined g.J.Job.encoded s.setting s.places s.levels.items new s.drafted c.self.invariant same_then none_then u w balanced (subst (λ (t : Seen g.row.J-Val.Denot). Covered u t.pins) (sym c.self.view_is) c.requires.covered)

pub returns-clause-balanced : goal.returns-clause-balanced
returns-clause-balanced g c =
    let s = c.self.inside in
    let d = pair_digest g.J.Job.encoded in
    let u = c.args.caller.now in
    let eq : c.as_mut_slice.result.now ≡ s.levels.items = c.as_mut_slice.ensures.value in
    let w = c.revert_all.new.caller in
    let made = c.revert_all.new.levels in
    let ok = s.levels.ok.0 in
    let same = c.revert_all.ensures.same ∙ ap (map now_of) eq in
    let back = written s.levels.len made s.levels.items (omega (arith, ok)) (same-length now_of now_of made s.levels.items same) in
    let new = take s.levels.len (made ++ drop (length made) s.levels.items) in
    let same_then : map now_of new ≡ map now_of s.levels.items = ap (map now_of) back ∙ same in
    let none_then : All IsUndrafted new = subst (All IsUndrafted) (sym back) c.revert_all.ensures.undrafted in
    let balanced : Balanced u (levels_pins d s.levels.items) w (levels_pins d new) = subst (λ ls. Balanced u (levels_pins d s.levels.items) w (levels_pins d ls)) (sym back) (subst (λ ls. Balanced u (levels_pins d ls) w (levels_pins d made)) eq c.revert_all.ensures.balanced) in
    subst (λ (t : Seen g.row.J-Val.Denot). Balanced u t.pins w (seen_of d s.setting s.places new false).pins) c.self.view_is (reverted-balanced g.J.Job.good g.J.Job.joined g.J.Job.encoded s.setting s.places s.levels.items new s.drafted c.self.invariant same_then none_then u w balanced)

pub returns-clause-few : goal.returns-clause-few
returns-clause-few g c =
    let s = c.self.inside in
    let d = pair_digest g.J.Job.encoded in
    let u = c.args.caller.now in
    let eq : c.as_mut_slice.result.now ≡ s.levels.items = c.as_mut_slice.ensures.value in
    let w = c.revert_all.new.caller in
    let made = c.revert_all.new.levels in
    let ok = s.levels.ok.0 in
    let same = c.revert_all.ensures.same ∙ ap (map now_of) eq in
    let back = written s.levels.len made s.levels.items (omega (arith, ok)) (same-length now_of now_of made s.levels.items same) in
    let new = take s.levels.len (made ++ drop (length made) s.levels.items) in
    let same_then : map now_of new ≡ map now_of s.levels.items = ap (map now_of) back ∙ same in
    let none_then : All IsUndrafted new = subst (All IsUndrafted) (sym back) c.revert_all.ensures.undrafted in
    let balanced : Balanced u (levels_pins d s.levels.items) w (levels_pins d new) = subst (λ ls. Balanced u (levels_pins d s.levels.items) w (levels_pins d ls)) (sym back) (subst (λ ls. Balanced u (levels_pins d ls) w (levels_pins d made)) eq c.revert_all.ensures.balanced) in
    few-pins g.J.Job.good g.J.Job.joined g.J.Job.encoded s.setting s.places new (reverted-sound g.J.Job.good g.J.Job.joined g.J.Job.encoded s.setting s.places s.levels.items new s.drafted c.self.invariant same_then none_then u w balanced)

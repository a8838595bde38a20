use Rattle.std.proofs.Common.{◌≡◌, ◌++◌, false, Bool, length, map, take, drop, arith, sym, ap, subst, ◌∙◌}
use Rattle.std.specs.Prelude.{IsSome}
use Rattle.std.specs.List.{All}
use Rattle.pin_table.specs.Covers.{Covered, Balanced}
use Rattle.tree_laws.specs.Pairs.{pair_digest}
use Rattle.tree_laws.specs.Trees.{Seen, settled}
use Rattle.random_tree.specs.Levels.{seen_of, IsSound, Fits, HasRoom, IsUndrafted, now_of, taken, levels_pins}
use Rattle.random_tree.proofs.SeenLaws.{some-draft}
use Rattle.random_tree.proofs.SpliceLaws.{written, same-length}
use Rattle.random_tree.proofs.PinLaws.{levels-covered}
use Rattle.random_tree.proofs.CallLaws.{few-pins, settled-sound, settled-view, settled-balanced, settled-covered}
use Rattle.random_tree.proofs.tree.RandomTreeTree.settle.Goals as goal

pub settle_all-requires-clause-covered : goal.settle_all-requires-clause-covered
settle_all-requires-clause-covered g c =
    let s = c.self.inside in
    let d = pair_digest g.J.Job.encoded in
    let u = c.args.caller.now in
    let eq : c.as_mut_slice.result.now ≡ s.levels.items = c.as_mut_slice.ensures.value in
    subst (λ ls. Covered u (levels_pins d ls)) (sym eq) (levels-covered d u s.levels.items (subst (Covered u) (sym (ap (λ (t : Seen g.row.J-Val.Denot). t.pins) c.self.view_is)) c.requires.covered))

pub settle_all-requires-clause-fits : goal.settle_all-requires-clause-fits
settle_all-requires-clause-fits g c =
    let s = c.self.inside in
    let d = pair_digest g.J.Job.encoded in
    let u = c.args.caller.now in
    let eq : c.as_mut_slice.result.now ≡ s.levels.items = c.as_mut_slice.ensures.value in
    subst (All Fits) (sym eq) c.self.invariant.fits

pub settle_all-requires-clause-room : goal.settle_all-requires-clause-room
settle_all-requires-clause-room g c =
    let s = c.self.inside in
    let d = pair_digest g.J.Job.encoded in
    let u = c.args.caller.now in
    let eq : c.as_mut_slice.result.now ≡ s.levels.items = c.as_mut_slice.ensures.value in
    let on = some-draft s.drafted s.levels.items (subst (λ (t : Seen g.row.J-Val.Denot). IsSome t.tree.draft) (sym c.self.view_is) c.requires.draft) in
    subst (All HasRoom) (sym eq) (c.self.invariant.room on)

pub invariant_of-self : goal.invariant_of-self
invariant_of-self g c =
    let s = c.self.inside in
    let d = pair_digest g.J.Job.encoded in
    let u = c.args.caller.now in
    let eq : c.as_mut_slice.result.now ≡ s.levels.items = c.as_mut_slice.ensures.value in
    let on = some-draft s.drafted s.levels.items (subst (λ (t : Seen g.row.J-Val.Denot). IsSome t.tree.draft) (sym c.self.view_is) c.requires.draft) in
    let sound = subst (λ (b : Bool). IsSound g.J.Job.good g.J.Job.joined g.J.Job.encoded s.setting s.levels.items b) on c.self.invariant in
    let w = c.settle_all.new.caller in
    let made = c.settle_all.new.levels in
    let ok = s.levels.ok.0 in
    let same = c.settle_all.ensures.taken ∙ ap (map taken) eq in
    let back = written s.levels.len made s.levels.items (omega (arith, ok)) (same-length now_of taken made s.levels.items same) in
    let new = take s.levels.len (made ++ drop (length made) s.levels.items) in
    let same_then : map now_of new ≡ map taken s.levels.items = ap (map now_of) back ∙ same in
    let none_then : All IsUndrafted new = subst (All IsUndrafted) (sym back) c.settle_all.ensures.undrafted in
    let balanced : Balanced u (levels_pins d s.levels.items) w (levels_pins d new) = subst (λ ls. Balanced u (levels_pins d s.levels.items) w (levels_pins d ls)) (sym back) (subst (λ ls. Balanced u (levels_pins d ls) w (levels_pins d made)) eq c.settle_all.ensures.balanced) in
    settled-sound g.J.Job.good g.J.Job.joined g.J.Job.encoded s.setting s.places s.levels.items new sound same_then none_then u w balanced

pub returns-clause-settled : goal.returns-clause-settled
returns-clause-settled g c =
    let s = c.self.inside in
    let d = pair_digest g.J.Job.encoded in
    let u = c.args.caller.now in
    let eq : c.as_mut_slice.result.now ≡ s.levels.items = c.as_mut_slice.ensures.value in
    let on = some-draft s.drafted s.levels.items (subst (λ (t : Seen g.row.J-Val.Denot). IsSome t.tree.draft) (sym c.self.view_is) c.requires.draft) in
    let is = ap (λ (b : Bool). seen_of d s.setting s.places s.levels.items b) (sym on) ∙ c.self.view_is in
    let sound = subst (λ (b : Bool). IsSound g.J.Job.good g.J.Job.joined g.J.Job.encoded s.setting s.levels.items b) on c.self.invariant in
    let w = c.settle_all.new.caller in
    let made = c.settle_all.new.levels in
    let ok = s.levels.ok.0 in
    let same = c.settle_all.ensures.taken ∙ ap (map taken) eq in
    let back = written s.levels.len made s.levels.items (omega (arith, ok)) (same-length now_of taken made s.levels.items same) in
    let new = take s.levels.len (made ++ drop (length made) s.levels.items) in
    let same_then : map now_of new ≡ map taken s.levels.items = ap (map now_of) back ∙ same in
    let none_then : All IsUndrafted new = subst (All IsUndrafted) (sym back) c.settle_all.ensures.undrafted in
    let balanced : Balanced u (levels_pins d s.levels.items) w (levels_pins d new) = subst (λ ls. Balanced u (levels_pins d s.levels.items) w (levels_pins d ls)) (sym back) (subst (λ ls. Balanced u (levels_pins d ls) w (levels_pins d made)) eq c.settle_all.ensures.balanced) in
    subst (λ (t : Seen g.row.J-Val.Denot). (seen_of d s.setting s.places new false).tree ≡ settled t.tree) is (settled-view g.J.Job.good g.J.Job.joined g.J.Job.encoded s.setting s.places s.levels.items new sound same_then none_then u w balanced)

pub returns-clause-covered : goal.returns-clause-covered
returns-clause-covered g c =
    let s = c.self.inside in
    let d = pair_digest g.J.Job.encoded in
    let u = c.args.caller.now in
    let eq : c.as_mut_slice.result.now ≡ s.levels.items = c.as_mut_slice.ensures.value in
    let on = some-draft s.drafted s.levels.items (subst (λ (t : Seen g.row.J-Val.Denot). IsSome t.tree.draft) (sym c.self.view_is) c.requires.draft) in
    let is = ap (λ (b : Bool). seen_of d s.setting s.places s.levels.items b) (sym on) ∙ c.self.view_is in
    let sound = subst (λ (b : Bool). IsSound g.J.Job.good g.J.Job.joined g.J.Job.encoded s.setting s.levels.items b) on c.self.invariant in
    let w = c.settle_all.new.caller in
    let made = c.settle_all.new.levels in
    let ok = s.levels.ok.0 in
    let same = c.settle_all.ensures.taken ∙ ap (map taken) eq in
    let back = written s.levels.len made s.levels.items (omega (arith, ok)) (same-length now_of taken made s.levels.items same) in
    let new = take s.levels.len (made ++ drop (length made) s.levels.items) in
    let same_then : map now_of new ≡ map taken s.levels.items = ap (map now_of) back ∙ same in
    let none_then : All IsUndrafted new = subst (All IsUndrafted) (sym back) c.settle_all.ensures.undrafted in
    let balanced : Balanced u (levels_pins d s.levels.items) w (levels_pins d new) = subst (λ ls. Balanced u (levels_pins d s.levels.items) w (levels_pins d ls)) (sym back) (subst (λ ls. Balanced u (levels_pins d ls) w (levels_pins d made)) eq c.settle_all.ensures.balanced) in
    settled-covered g.J.Job.good g.J.Job.joined g.J.Job.encoded s.setting s.places s.levels.items new sound same_then none_then u w balanced (subst (λ (t : Seen g.row.J-Val.Denot). Covered u t.pins) (sym is) c.requires.covered)

pub returns-clause-balanced : goal.returns-clause-balanced
returns-clause-balanced g c =
    let s = c.self.inside in
    let d = pair_digest g.J.Job.encoded in
    let u = c.args.caller.now in
    let eq : c.as_mut_slice.result.now ≡ s.levels.items = c.as_mut_slice.ensures.value in
    let on = some-draft s.drafted s.levels.items (subst (λ (t : Seen g.row.J-Val.Denot). IsSome t.tree.draft) (sym c.self.view_is) c.requires.draft) in
    let is = ap (λ (b : Bool). seen_of d s.setting s.places s.levels.items b) (sym on) ∙ c.self.view_is in
    let sound = subst (λ (b : Bool). IsSound g.J.Job.good g.J.Job.joined g.J.Job.encoded s.setting s.levels.items b) on c.self.invariant in
    let w = c.settle_all.new.caller in
    let made = c.settle_all.new.levels in
    let ok = s.levels.ok.0 in
    let same = c.settle_all.ensures.taken ∙ ap (map taken) eq in
    let back = written s.levels.len made s.levels.items (omega (arith, ok)) (same-length now_of taken made s.levels.items same) in
    let new = take s.levels.len (made ++ drop (length made) s.levels.items) in
    let same_then : map now_of new ≡ map taken s.levels.items = ap (map now_of) back ∙ same in
    let none_then : All IsUndrafted new = subst (All IsUndrafted) (sym back) c.settle_all.ensures.undrafted in
    let balanced : Balanced u (levels_pins d s.levels.items) w (levels_pins d new) = subst (λ ls. Balanced u (levels_pins d s.levels.items) w (levels_pins d ls)) (sym back) (subst (λ ls. Balanced u (levels_pins d ls) w (levels_pins d made)) eq c.settle_all.ensures.balanced) in
    subst (λ (t : Seen g.row.J-Val.Denot). Balanced u t.pins w (seen_of d s.setting s.places new false).pins) is (settled-balanced g.J.Job.good g.J.Job.joined g.J.Job.encoded s.setting s.places s.levels.items new sound same_then none_then u w balanced)

pub returns-clause-few : goal.returns-clause-few
returns-clause-few g c =
    let s = c.self.inside in
    let d = pair_digest g.J.Job.encoded in
    let u = c.args.caller.now in
    let eq : c.as_mut_slice.result.now ≡ s.levels.items = c.as_mut_slice.ensures.value in
    let on = some-draft s.drafted s.levels.items (subst (λ (t : Seen g.row.J-Val.Denot). IsSome t.tree.draft) (sym c.self.view_is) c.requires.draft) in
    let sound = subst (λ (b : Bool). IsSound g.J.Job.good g.J.Job.joined g.J.Job.encoded s.setting s.levels.items b) on c.self.invariant in
    let w = c.settle_all.new.caller in
    let made = c.settle_all.new.levels in
    let ok = s.levels.ok.0 in
    let same = c.settle_all.ensures.taken ∙ ap (map taken) eq in
    let back = written s.levels.len made s.levels.items (omega (arith, ok)) (same-length now_of taken made s.levels.items same) in
    let new = take s.levels.len (made ++ drop (length made) s.levels.items) in
    let same_then : map now_of new ≡ map taken s.levels.items = ap (map now_of) back ∙ same in
    let none_then : All IsUndrafted new = subst (All IsUndrafted) (sym back) c.settle_all.ensures.undrafted in
    let balanced : Balanced u (levels_pins d s.levels.items) w (levels_pins d new) = subst (λ ls. Balanced u (levels_pins d s.levels.items) w (levels_pins d ls)) (sym back) (subst (λ ls. Balanced u (levels_pins d ls) w (levels_pins d made)) eq c.settle_all.ensures.balanced) in
    few-pins g.J.Job.good g.J.Job.joined g.J.Job.encoded s.setting s.places new (settled-sound g.J.Job.good g.J.Job.joined g.J.Job.encoded s.setting s.places s.levels.items new sound same_then none_then u w balanced)

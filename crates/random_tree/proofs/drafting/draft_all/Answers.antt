use Rattle.std.proofs.Common.{◌≡◌, inl, inr, ℕ, ◌+◌, ◌-◌, ◌^◌, ◌<◌, ◌≤◌, ◌∷◌, ◌++◌, length, map, take, drop, refl, sym, ap, subst, ◌∙◌, arith, length-append}
use Rattle.std.specs.List.{All}
use Rattle.std.proofs.lemmas.List.{length-map}
use Rattle.std.proofs.lemmas.List.Elements.{All-head, All-tail, All-cons}
use Rattle.std.proofs.lemmas.Result.{on_ok_weaker, on_err_weaker}
use Rattle.tree_laws.specs.Pairs.{pair_digest}
use Rattle.random_tree.specs.Levels.{Fits, HasRoom, IsUndrafted, bottom, now_of, fresh_of, taken, group_table}
use Rattle.random_tree.specs.Steps.{AddsLevels, GainsLevels, Drafts}
use Rattle.random_tree.proofs.RaiseLaws.{levels-then, plain-gains, undrafted-gains}
use Rattle.random_tree.proofs.DraftLaws.{added-undrafted, added-empty, leaves-plain, drafts-ok, drafts-some}
use Rattle.random_tree.proofs.SpliceLaws.{written, same-length}
use Rattle.random_tree.proofs.SeenLaws.{undrafted-fits}
use Rattle.random_tree.proofs.StageLaws.{sound-at, splice-within, bottom-at, stage-within, staged-enough, staged-set, staged-above}
use Rattle.random_tree.proofs.drafting.draft_all.Goals as goal

pub overflow_sub-len : goal.overflow_sub-len
overflow_sub-len g c =
    let d = pair_digest g.J.Job.encoded in
    let u = c.args.caller.now in
    let old = c.args.levels.now.items in
    let news = c.args.fresh.now in
    let shift = c.args.shift.now in
    let x = c.index.result.now in
    let low : bottom (map now_of old) ≡ now_of x = bottom-at old x c.requires.some c.index.ensures in
    let count : length (bottom (map now_of old)) ≡ c.len.result = (let n = c.len.ensures in let ok = x.groups.ok.0 in let h = ap length low in omega (arith, n, ok, h)) in
    let within = splice-within 0 0 (length (bottom (map now_of old))) (length news) c.in-Splice.first c.in-Splice.gone c.in-Splice.fresh shift c.in-Splice.is c.requires.fits in
    omega (arith, count, within)

pub returns-in-Err-clause-some : goal.returns-in-Err-clause-some
returns-in-Err-clause-some g c =
    let d = pair_digest g.J.Job.encoded in
    let u = c.args.caller.now in
    let old = c.args.levels.now.items in
    let news = c.args.fresh.now in
    let shift = c.args.shift.now in
    let all = c.add_levels.new.levels.items in
    let more = c.add_levels.ensures.adds in
    let none = added-undrafted g.J.Job.joined (g.J.Job.setting c.args.job.now) g.J.Job.encoded old all more c.requires.undrafted in
    (let n = ap length more.1 in let a = length-append old more.0 in let s = c.requires.some in omega (arith, n, a, s))

pub returns-in-Err-clause-fits : goal.returns-in-Err-clause-fits
returns-in-Err-clause-fits g c =
    let d = pair_digest g.J.Job.encoded in
    let u = c.args.caller.now in
    let old = c.args.levels.now.items in
    let news = c.args.fresh.now in
    let shift = c.args.shift.now in
    let all = c.add_levels.new.levels.items in
    let more = c.add_levels.ensures.adds in
    let none = added-undrafted g.J.Job.joined (g.J.Job.setting c.args.job.now) g.J.Job.encoded old all more c.requires.undrafted in
    undrafted-fits all none

pub returns-in-Err-clause-same : goal.returns-in-Err-clause-same
returns-in-Err-clause-same g c =
    let d = pair_digest g.J.Job.encoded in
    let u = c.args.caller.now in
    let old = c.args.levels.now.items in
    let news = c.args.fresh.now in
    let shift = c.args.shift.now in
    let all = c.add_levels.new.levels.items in
    let more = c.add_levels.ensures.adds in
    let none = added-undrafted g.J.Job.joined (g.J.Job.setting c.args.job.now) g.J.Job.encoded old all more c.requires.undrafted in
    added-empty g.J.Job.joined (g.J.Job.setting c.args.job.now) g.J.Job.encoded old all all more refl

pub returns-in-Err-clause-err : goal.returns-in-Err-clause-err
returns-in-Err-clause-err g c =
    inl refl

pub returns-in-Err-clause-gains : goal.returns-in-Err-clause-gains
returns-in-Err-clause-gains g c =
    let d = pair_digest g.J.Job.encoded in
    let u = c.args.caller.now in
    let old = c.args.levels.now.items in
    let news = c.args.fresh.now in
    let shift = c.args.shift.now in
    let all = c.add_levels.new.levels.items in
    let more = c.add_levels.ensures.adds in
    let none = added-undrafted g.J.Job.joined (g.J.Job.setting c.args.job.now) g.J.Job.encoded old all more c.requires.undrafted in
    undrafted-gains d u all none

pub stage-requires-clause-undrafted : goal.stage-requires-clause-undrafted
stage-requires-clause-undrafted g c =
    let d = pair_digest g.J.Job.encoded in
    let u = c.args.caller.now in
    let old = c.args.levels.now.items in
    let news = c.args.fresh.now in
    let shift = c.args.shift.now in
    let ls = c.add_levels.new.levels in
    let l = c.in-Some.leaves.now in
    let above = c.in-Some.above.now in
    let eq : ls.items ≡ l ∷ above = sym c.as_mut_slice.ensures.value ∙ c.in-Some.ensures.cases.0 in
    let adds : AddsLevels old (l ∷ above) = subst (AddsLevels old) eq c.add_levels.ensures.adds in
    let none = added-undrafted g.J.Job.joined (g.J.Job.setting c.args.job.now) g.J.Job.encoded old (l ∷ above) adds c.requires.undrafted in
    All-head IsUndrafted l above none

pub stage-requires-clause-within : goal.stage-requires-clause-within
stage-requires-clause-within g c =
    let d = pair_digest g.J.Job.encoded in
    let u = c.args.caller.now in
    let old = c.args.levels.now.items in
    let news = c.args.fresh.now in
    let shift = c.args.shift.now in
    let ls = c.add_levels.new.levels in
    let l = c.in-Some.leaves.now in
    let above = c.in-Some.above.now in
    let eq : ls.items ≡ l ∷ above = sym c.as_mut_slice.ensures.value ∙ c.in-Some.ensures.cases.0 in
    let adds : AddsLevels old (l ∷ above) = subst (AddsLevels old) eq c.add_levels.ensures.adds in
    let none = added-undrafted g.J.Job.joined (g.J.Job.setting c.args.job.now) g.J.Job.encoded old (l ∷ above) adds c.requires.undrafted in
    stage-within g.J.Job.joined (g.J.Job.setting c.args.job.now) g.J.Job.encoded shift c.in-Splice.first c.in-Splice.gone c.in-Splice.fresh c.in-Splice.is (length news) old l above c.requires.some adds c.requires.fits

pub returns-in-Err-stage-clause-some : goal.returns-in-Err-stage-clause-some
returns-in-Err-stage-clause-some g c =
    let d = pair_digest g.J.Job.encoded in
    let u = c.args.caller.now in
    let old = c.args.levels.now.items in
    let news = c.args.fresh.now in
    let shift = c.args.shift.now in
    let ls = c.add_levels.new.levels in
    let l = c.in-Some.leaves.now in
    let above = c.in-Some.above.now in
    let eq : ls.items ≡ l ∷ above = sym c.as_mut_slice.ensures.value ∙ c.in-Some.ensures.cases.0 in
    let adds : AddsLevels old (l ∷ above) = subst (AddsLevels old) eq c.add_levels.ensures.adds in
    let none = added-undrafted g.J.Job.joined (g.J.Job.setting c.args.job.now) g.J.Job.encoded old (l ∷ above) adds c.requires.undrafted in
    let new = c.stage.new.leaves in
    let ok = ls.ok.0 in
    let long : length (new ∷ above) ≡ length ls.items = sym (ap length eq) in
    let final = take ls.len ((new ∷ above) ++ drop (length (new ∷ above)) ls.items) in
    let back : final ≡ new ∷ above = written ls.len (new ∷ above) ls.items (omega (arith, ok)) long in
    subst (λ ks. 0 < length ks) (sym back) (omega arith)

pub returns-in-Err-stage-clause-fits : goal.returns-in-Err-stage-clause-fits
returns-in-Err-stage-clause-fits g c =
    let d = pair_digest g.J.Job.encoded in
    let u = c.args.caller.now in
    let old = c.args.levels.now.items in
    let news = c.args.fresh.now in
    let shift = c.args.shift.now in
    let ls = c.add_levels.new.levels in
    let l = c.in-Some.leaves.now in
    let above = c.in-Some.above.now in
    let eq : ls.items ≡ l ∷ above = sym c.as_mut_slice.ensures.value ∙ c.in-Some.ensures.cases.0 in
    let adds : AddsLevels old (l ∷ above) = subst (AddsLevels old) eq c.add_levels.ensures.adds in
    let none = added-undrafted g.J.Job.joined (g.J.Job.setting c.args.job.now) g.J.Job.encoded old (l ∷ above) adds c.requires.undrafted in
    let new = c.stage.new.leaves in
    let ok = ls.ok.0 in
    let long : length (new ∷ above) ≡ length ls.items = sym (ap length eq) in
    let final = take ls.len ((new ∷ above) ++ drop (length (new ∷ above)) ls.items) in
    let back : final ≡ new ∷ above = written ls.len (new ∷ above) ls.items (omega (arith, ok)) long in
    subst (All Fits) (sym back) (All-cons Fits new above c.stage.ensures.fits (undrafted-fits above (All-tail IsUndrafted l above none)))

pub returns-in-Err-stage-clause-same : goal.returns-in-Err-stage-clause-same
returns-in-Err-stage-clause-same g c =
    let d = pair_digest g.J.Job.encoded in
    let u = c.args.caller.now in
    let old = c.args.levels.now.items in
    let news = c.args.fresh.now in
    let shift = c.args.shift.now in
    let ls = c.add_levels.new.levels in
    let l = c.in-Some.leaves.now in
    let above = c.in-Some.above.now in
    let eq : ls.items ≡ l ∷ above = sym c.as_mut_slice.ensures.value ∙ c.in-Some.ensures.cases.0 in
    let adds : AddsLevels old (l ∷ above) = subst (AddsLevels old) eq c.add_levels.ensures.adds in
    let none = added-undrafted g.J.Job.joined (g.J.Job.setting c.args.job.now) g.J.Job.encoded old (l ∷ above) adds c.requires.undrafted in
    let new = c.stage.new.leaves in
    let ok = ls.ok.0 in
    let long : length (new ∷ above) ≡ length ls.items = sym (ap length eq) in
    let final = take ls.len ((new ∷ above) ++ drop (length (new ∷ above)) ls.items) in
    let back : final ≡ new ∷ above = written ls.len (new ∷ above) ls.items (omega (arith, ok)) long in
    added-empty g.J.Job.joined (g.J.Job.setting c.args.job.now) g.J.Job.encoded old (l ∷ above) final adds (ap (map now_of) back ∙ ap (λ gs. gs ∷ map now_of above) c.stage.ensures.same)

pub returns-in-Err-stage-clause-err : goal.returns-in-Err-stage-clause-err
returns-in-Err-stage-clause-err g c =
    inl refl

pub returns-in-Err-stage-clause-gains : goal.returns-in-Err-stage-clause-gains
returns-in-Err-stage-clause-gains g c =
    let d = pair_digest g.J.Job.encoded in
    let u = c.args.caller.now in
    let old = c.args.levels.now.items in
    let news = c.args.fresh.now in
    let shift = c.args.shift.now in
    let ls = c.add_levels.new.levels in
    let l = c.in-Some.leaves.now in
    let above = c.in-Some.above.now in
    let eq : ls.items ≡ l ∷ above = sym c.as_mut_slice.ensures.value ∙ c.in-Some.ensures.cases.0 in
    let adds : AddsLevels old (l ∷ above) = subst (AddsLevels old) eq c.add_levels.ensures.adds in
    let none = added-undrafted g.J.Job.joined (g.J.Job.setting c.args.job.now) g.J.Job.encoded old (l ∷ above) adds c.requires.undrafted in
    let new = c.stage.new.leaves in
    let ok = ls.ok.0 in
    let long : length (new ∷ above) ≡ length ls.items = sym (ap length eq) in
    let final = take ls.len ((new ∷ above) ++ drop (length (new ∷ above)) ls.items) in
    let back : final ≡ new ∷ above = written ls.len (new ∷ above) ls.items (omega (arith, ok)) long in
    subst (GainsLevels d u u) (sym back) (levels-then d u u u new above (plain-gains d u (fresh_of new) c.in-Err-stage.ensures.err) (undrafted-gains d u above (All-tail IsUndrafted l above none)))

pub raise-requires-clause-set : goal.raise-requires-clause-set
raise-requires-clause-set g c =
    let d = pair_digest g.J.Job.encoded in
    let u = c.args.caller.now in
    let old = c.args.levels.now.items in
    let news = c.args.fresh.now in
    let shift = c.args.shift.now in
    let m0 = g.J.Meter.Meter.counts c.args.m.now in
    let ls = c.add_levels.new.levels in
    let l = c.in-Some.leaves.now in
    let above = c.in-Some.above.now in
    let eq : ls.items ≡ l ∷ above = sym c.as_mut_slice.ensures.value ∙ c.in-Some.ensures.cases.0 in
    let adds : AddsLevels old (l ∷ above) = subst (AddsLevels old) eq c.add_levels.ensures.adds in
    let none = added-undrafted g.J.Job.joined (g.J.Job.setting c.args.job.now) g.J.Job.encoded old (l ∷ above) adds c.requires.undrafted in
    let new = c.stage.new.leaves in
    let staged = c.in-Ok-stage.ensures.ok in
    let same = c.stage.ensures.same in
    staged-set g.J.Job.joined (g.J.Job.setting c.args.job.now) g.J.Job.encoded shift c.in-Splice.first c.in-Splice.gone c.in-Splice.fresh c.in-Splice.is news u u m0 m0 old l new above above c.requires.some adds same staged c.requires.settings c.requires.tree c.requires.fits

pub raise-requires-clause-undrafted : goal.raise-requires-clause-undrafted
raise-requires-clause-undrafted g c =
    let d = pair_digest g.J.Job.encoded in
    let u = c.args.caller.now in
    let old = c.args.levels.now.items in
    let news = c.args.fresh.now in
    let shift = c.args.shift.now in
    let ls = c.add_levels.new.levels in
    let l = c.in-Some.leaves.now in
    let above = c.in-Some.above.now in
    let eq : ls.items ≡ l ∷ above = sym c.as_mut_slice.ensures.value ∙ c.in-Some.ensures.cases.0 in
    let adds : AddsLevels old (l ∷ above) = subst (AddsLevels old) eq c.add_levels.ensures.adds in
    let none = added-undrafted g.J.Job.joined (g.J.Job.setting c.args.job.now) g.J.Job.encoded old (l ∷ above) adds c.requires.undrafted in
    All-tail IsUndrafted l above none

pub raise-requires-clause-levels : goal.raise-requires-clause-levels
raise-requires-clause-levels g c =
    let d = pair_digest g.J.Job.encoded in
    let u = c.args.caller.now in
    let old = c.args.levels.now.items in
    let news = c.args.fresh.now in
    let shift = c.args.shift.now in
    let m0 = g.J.Meter.Meter.counts c.args.m.now in
    let ls = c.add_levels.new.levels in
    let l = c.in-Some.leaves.now in
    let above = c.in-Some.above.now in
    let eq : ls.items ≡ l ∷ above = sym c.as_mut_slice.ensures.value ∙ c.in-Some.ensures.cases.0 in
    let adds : AddsLevels old (l ∷ above) = subst (AddsLevels old) eq c.add_levels.ensures.adds in
    let none = added-undrafted g.J.Job.joined (g.J.Job.setting c.args.job.now) g.J.Job.encoded old (l ∷ above) adds c.requires.undrafted in
    let new = c.stage.new.leaves in
    let staged = c.in-Ok-stage.ensures.ok in
    let same = c.stage.ensures.same in
    staged-above g.J.Job.joined (g.J.Job.setting c.args.job.now) g.J.Job.encoded shift c.in-Splice.first c.in-Splice.gone c.in-Splice.fresh c.in-Splice.is news u u m0 m0 old l new above above c.requires.some adds same staged c.requires.settings c.requires.tree c.requires.fits

pub raise-requires-clause-enough : goal.raise-requires-clause-enough
raise-requires-clause-enough g c =
    let d = pair_digest g.J.Job.encoded in
    let u = c.args.caller.now in
    let old = c.args.levels.now.items in
    let news = c.args.fresh.now in
    let shift = c.args.shift.now in
    let x = c.index.result.now in
    let low : bottom (map now_of old) ≡ now_of x = bottom-at old x c.requires.some c.index.ensures in
    let count : length (bottom (map now_of old)) ≡ c.len.result = (let n = c.len.ensures in let ok = x.groups.ok.0 in let h = ap length low in omega (arith, n, ok, h)) in
    let within = splice-within 0 0 (length (bottom (map now_of old))) (length news) c.in-Splice.first c.in-Splice.gone c.in-Splice.fresh shift c.in-Splice.is c.requires.fits in
    let m0 = g.J.Meter.Meter.counts c.args.m.now in
    let ls = c.add_levels.new.levels in
    let l = c.in-Some.leaves.now in
    let above = c.in-Some.above.now in
    let eq : ls.items ≡ l ∷ above = sym c.as_mut_slice.ensures.value ∙ c.in-Some.ensures.cases.0 in
    let adds : AddsLevels old (l ∷ above) = subst (AddsLevels old) eq c.add_levels.ensures.adds in
    let none = added-undrafted g.J.Job.joined (g.J.Job.setting c.args.job.now) g.J.Job.encoded old (l ∷ above) adds c.requires.undrafted in
    let new = c.stage.new.leaves in
    let staged = c.in-Ok-stage.ensures.ok in
    let same = c.stage.ensures.same in
    let room : ls.len - 1 ≡ length above = (let ok = ls.ok.0 in let n = ap length eq in omega (arith, ok, n)) in
    let leaves = c.len.result - c.in-Splice.gone + length news in
    let have : leaves ≤ 2 ^ length above = subst (λ (k : ℕ). leaves ≤ 2 ^ k) room c.in-Ok.ensures.enough in
    let enough = staged-enough g.J.Job.joined (g.J.Job.setting c.args.job.now) g.J.Job.encoded shift c.in-Splice.first c.in-Splice.gone c.in-Splice.fresh c.in-Splice.is news u u m0 m0 old l new above above c.requires.some adds same staged c.requires.settings c.requires.tree c.requires.fits leaves (omega (arith, count)) have in
    enough

pub returns-clause-some : goal.returns-clause-some
returns-clause-some g c =
    let d = pair_digest g.J.Job.encoded in
    let u = c.args.caller.now in
    let old = c.args.levels.now.items in
    let news = c.args.fresh.now in
    let shift = c.args.shift.now in
    let ls = c.add_levels.new.levels in
    let l = c.in-Some.leaves.now in
    let above = c.in-Some.above.now in
    let eq : ls.items ≡ l ∷ above = sym c.as_mut_slice.ensures.value ∙ c.in-Some.ensures.cases.0 in
    let adds : AddsLevels old (l ∷ above) = subst (AddsLevels old) eq c.add_levels.ensures.adds in
    let none = added-undrafted g.J.Job.joined (g.J.Job.setting c.args.job.now) g.J.Job.encoded old (l ∷ above) adds c.requires.undrafted in
    let new = c.stage.new.leaves in
    let v = c.raise.new.caller in
    let m1 = g.J.Meter.Meter.counts c.raise.new.m in
    let up = c.raise.new.levels in
    let ok = ls.ok.0 in
    let high : length up ≡ length above = same-length now_of now_of up above c.raise.ensures.same in
    let long : length (new ∷ up) ≡ length ls.items = (let n = ap length eq in omega (arith, n, high)) in
    let final = take ls.len ((new ∷ up) ++ drop (length (new ∷ up)) ls.items) in
    let back : final ≡ new ∷ up = written ls.len (new ∷ up) ls.items (omega (arith, ok)) long in
    subst (λ ks. 0 < length ks) (sym back) (omega arith)

pub returns-clause-fits : goal.returns-clause-fits
returns-clause-fits g c =
    let d = pair_digest g.J.Job.encoded in
    let u = c.args.caller.now in
    let old = c.args.levels.now.items in
    let news = c.args.fresh.now in
    let shift = c.args.shift.now in
    let ls = c.add_levels.new.levels in
    let l = c.in-Some.leaves.now in
    let above = c.in-Some.above.now in
    let eq : ls.items ≡ l ∷ above = sym c.as_mut_slice.ensures.value ∙ c.in-Some.ensures.cases.0 in
    let adds : AddsLevels old (l ∷ above) = subst (AddsLevels old) eq c.add_levels.ensures.adds in
    let none = added-undrafted g.J.Job.joined (g.J.Job.setting c.args.job.now) g.J.Job.encoded old (l ∷ above) adds c.requires.undrafted in
    let new = c.stage.new.leaves in
    let v = c.raise.new.caller in
    let m1 = g.J.Meter.Meter.counts c.raise.new.m in
    let up = c.raise.new.levels in
    let ok = ls.ok.0 in
    let high : length up ≡ length above = same-length now_of now_of up above c.raise.ensures.same in
    let long : length (new ∷ up) ≡ length ls.items = (let n = ap length eq in omega (arith, n, high)) in
    let final = take ls.len ((new ∷ up) ++ drop (length (new ∷ up)) ls.items) in
    let back : final ≡ new ∷ up = written ls.len (new ∷ up) ls.items (omega (arith, ok)) long in
    subst (All Fits) (sym back) (All-cons Fits new up c.stage.ensures.fits c.raise.ensures.fits)

pub returns-clause-room : goal.returns-clause-room
returns-clause-room g c =
    let d = pair_digest g.J.Job.encoded in
    let u = c.args.caller.now in
    let old = c.args.levels.now.items in
    let news = c.args.fresh.now in
    let shift = c.args.shift.now in
    let ls = c.add_levels.new.levels in
    let l = c.in-Some.leaves.now in
    let above = c.in-Some.above.now in
    let eq : ls.items ≡ l ∷ above = sym c.as_mut_slice.ensures.value ∙ c.in-Some.ensures.cases.0 in
    let adds : AddsLevels old (l ∷ above) = subst (AddsLevels old) eq c.add_levels.ensures.adds in
    let none = added-undrafted g.J.Job.joined (g.J.Job.setting c.args.job.now) g.J.Job.encoded old (l ∷ above) adds c.requires.undrafted in
    let new = c.stage.new.leaves in
    let v = c.raise.new.caller in
    let m1 = g.J.Meter.Meter.counts c.raise.new.m in
    let up = c.raise.new.levels in
    let ok = ls.ok.0 in
    let high : length up ≡ length above = same-length now_of now_of up above c.raise.ensures.same in
    let long : length (new ∷ up) ≡ length ls.items = (let n = ap length eq in omega (arith, n, high)) in
    let final = take ls.len ((new ∷ up) ++ drop (length (new ∷ up)) ls.items) in
    let back : final ≡ new ∷ up = written ls.len (new ∷ up) ls.items (omega (arith, ok)) long in
    on_ok_weaker c.raise.result (λ room. subst (All HasRoom) (sym back) (All-cons HasRoom new up c.in-Ok-stage.ensures.room room)) c.raise.ensures.room

pub returns-clause-sound : goal.returns-clause-sound
returns-clause-sound g c =
    let d = pair_digest g.J.Job.encoded in
    let u = c.args.caller.now in
    let old = c.args.levels.now.items in
    let news = c.args.fresh.now in
    let shift = c.args.shift.now in
    let sound = sound-at g.J.Job.good (g.J.Job.setting c.args.job.now) news c.requires.settings c.in-Ok-stage.ensures.sound in
    on_ok_weaker c.raise.result (λ _. sound) c.raise.ensures.room

pub returns-clause-same : goal.returns-clause-same
returns-clause-same g c =
    let d = pair_digest g.J.Job.encoded in
    let u = c.args.caller.now in
    let old = c.args.levels.now.items in
    let news = c.args.fresh.now in
    let shift = c.args.shift.now in
    let ls = c.add_levels.new.levels in
    let l = c.in-Some.leaves.now in
    let above = c.in-Some.above.now in
    let eq : ls.items ≡ l ∷ above = sym c.as_mut_slice.ensures.value ∙ c.in-Some.ensures.cases.0 in
    let adds : AddsLevels old (l ∷ above) = subst (AddsLevels old) eq c.add_levels.ensures.adds in
    let none = added-undrafted g.J.Job.joined (g.J.Job.setting c.args.job.now) g.J.Job.encoded old (l ∷ above) adds c.requires.undrafted in
    let new = c.stage.new.leaves in
    let v = c.raise.new.caller in
    let m1 = g.J.Meter.Meter.counts c.raise.new.m in
    let up = c.raise.new.levels in
    let ok = ls.ok.0 in
    let high : length up ≡ length above = same-length now_of now_of up above c.raise.ensures.same in
    let long : length (new ∷ up) ≡ length ls.items = (let n = ap length eq in omega (arith, n, high)) in
    let final = take ls.len ((new ∷ up) ++ drop (length (new ∷ up)) ls.items) in
    let back : final ≡ new ∷ up = written ls.len (new ∷ up) ls.items (omega (arith, ok)) long in
    added-empty g.J.Job.joined (g.J.Job.setting c.args.job.now) g.J.Job.encoded old (l ∷ above) final adds (ap (map now_of) back ∙ (λ i. c.stage.ensures.same i ∷ c.raise.ensures.same i))

pub returns-clause-ok : goal.returns-clause-ok
returns-clause-ok g c =
    let d = pair_digest g.J.Job.encoded in
    let u = c.args.caller.now in
    let old = c.args.levels.now.items in
    let news = c.args.fresh.now in
    let shift = c.args.shift.now in
    let x = c.index.result.now in
    let low : bottom (map now_of old) ≡ now_of x = bottom-at old x c.requires.some c.index.ensures in
    let count : length (bottom (map now_of old)) ≡ c.len.result = (let n = c.len.ensures in let ok = x.groups.ok.0 in let h = ap length low in omega (arith, n, ok, h)) in
    let within = splice-within 0 0 (length (bottom (map now_of old))) (length news) c.in-Splice.first c.in-Splice.gone c.in-Splice.fresh shift c.in-Splice.is c.requires.fits in
    let m0 = g.J.Meter.Meter.counts c.args.m.now in
    let ls = c.add_levels.new.levels in
    let l = c.in-Some.leaves.now in
    let above = c.in-Some.above.now in
    let eq : ls.items ≡ l ∷ above = sym c.as_mut_slice.ensures.value ∙ c.in-Some.ensures.cases.0 in
    let adds : AddsLevels old (l ∷ above) = subst (AddsLevels old) eq c.add_levels.ensures.adds in
    let none = added-undrafted g.J.Job.joined (g.J.Job.setting c.args.job.now) g.J.Job.encoded old (l ∷ above) adds c.requires.undrafted in
    let new = c.stage.new.leaves in
    let staged = c.in-Ok-stage.ensures.ok in
    let same = c.stage.ensures.same in
    let room : ls.len - 1 ≡ length above = (let ok = ls.ok.0 in let n = ap length eq in omega (arith, ok, n)) in
    let leaves = c.len.result - c.in-Splice.gone + length news in
    let have : leaves ≤ 2 ^ length above = subst (λ (k : ℕ). leaves ≤ 2 ^ k) room c.in-Ok.ensures.enough in
    let enough = staged-enough g.J.Job.joined (g.J.Job.setting c.args.job.now) g.J.Job.encoded shift c.in-Splice.first c.in-Splice.gone c.in-Splice.fresh c.in-Splice.is news u u m0 m0 old l new above above c.requires.some adds same staged c.requires.settings c.requires.tree c.requires.fits leaves (omega (arith, count)) have in
    let v = c.raise.new.caller in
    let m1 = g.J.Meter.Meter.counts c.raise.new.m in
    let up = c.raise.new.levels in
    let ok = ls.ok.0 in
    let high : length up ≡ length above = same-length now_of now_of up above c.raise.ensures.same in
    let long : length (new ∷ up) ≡ length ls.items = (let n = ap length eq in omega (arith, n, high)) in
    let final = take ls.len ((new ∷ up) ++ drop (length (new ∷ up)) ls.items) in
    let back : final ≡ new ∷ up = written ls.len (new ∷ up) ls.items (omega (arith, ok)) long in
    let few : length (map group_table (taken new)) ≤ 2 ^ length above = (let n = length-map (taken new) group_table in subst (λ (k : ℕ). k ≤ 2 ^ length above) (sym n) enough) in
    let few_up : length (map group_table (taken new)) ≤ 2 ^ length up = subst (λ (k : ℕ). length (map group_table (taken new)) ≤ 2 ^ k) (sym high) few in
    on_ok_weaker c.raise.result (λ raises. subst (Drafts g.J.Job.joined (g.J.Job.setting c.args.job.now) g.J.Job.encoded shift news u v m0 m1 old) (sym back) (drafts-ok g.J.Job.joined (g.J.Job.setting c.args.job.now) g.J.Job.encoded shift c.in-Splice.first c.in-Splice.gone c.in-Splice.fresh c.in-Splice.is news u v m0 m1 old l new above up c.requires.some adds same staged c.requires.settings c.requires.tree few_up raises)) c.raise.ensures.ok

pub returns-clause-err : goal.returns-clause-err
returns-clause-err g c =
    let d = pair_digest g.J.Job.encoded in
    let u = c.args.caller.now in
    let old = c.args.levels.now.items in
    let news = c.args.fresh.now in
    let shift = c.args.shift.now in
    let x = c.index.result.now in
    let low : bottom (map now_of old) ≡ now_of x = bottom-at old x c.requires.some c.index.ensures in
    let count : length (bottom (map now_of old)) ≡ c.len.result = (let n = c.len.ensures in let ok = x.groups.ok.0 in let h = ap length low in omega (arith, n, ok, h)) in
    let within = splice-within 0 0 (length (bottom (map now_of old))) (length news) c.in-Splice.first c.in-Splice.gone c.in-Splice.fresh shift c.in-Splice.is c.requires.fits in
    let m0 = g.J.Meter.Meter.counts c.args.m.now in
    let ls = c.add_levels.new.levels in
    let l = c.in-Some.leaves.now in
    let above = c.in-Some.above.now in
    let eq : ls.items ≡ l ∷ above = sym c.as_mut_slice.ensures.value ∙ c.in-Some.ensures.cases.0 in
    let adds : AddsLevels old (l ∷ above) = subst (AddsLevels old) eq c.add_levels.ensures.adds in
    let none = added-undrafted g.J.Job.joined (g.J.Job.setting c.args.job.now) g.J.Job.encoded old (l ∷ above) adds c.requires.undrafted in
    let new = c.stage.new.leaves in
    let staged = c.in-Ok-stage.ensures.ok in
    let same = c.stage.ensures.same in
    let room : ls.len - 1 ≡ length above = (let ok = ls.ok.0 in let n = ap length eq in omega (arith, ok, n)) in
    let leaves = c.len.result - c.in-Splice.gone + length news in
    let have : leaves ≤ 2 ^ length above = subst (λ (k : ℕ). leaves ≤ 2 ^ k) room c.in-Ok.ensures.enough in
    let enough = staged-enough g.J.Job.joined (g.J.Job.setting c.args.job.now) g.J.Job.encoded shift c.in-Splice.first c.in-Splice.gone c.in-Splice.fresh c.in-Splice.is news u u m0 m0 old l new above above c.requires.some adds same staged c.requires.settings c.requires.tree c.requires.fits leaves (omega (arith, count)) have in
    let v = c.raise.new.caller in
    let m1 = g.J.Meter.Meter.counts c.raise.new.m in
    let few : length (map group_table (taken new)) ≤ 2 ^ length above = (let n = length-map (taken new) group_table in subst (λ (k : ℕ). k ≤ 2 ^ length above) (sym n) enough) in
    let sound = sound-at g.J.Job.good (g.J.Job.setting c.args.job.now) news c.requires.settings c.in-Ok-stage.ensures.sound in
    on_err_weaker c.raise.result (λ some. inr (sound, drafts-some g.J.Job.joined (g.J.Job.setting c.args.job.now) g.J.Job.encoded shift c.in-Splice.first c.in-Splice.gone c.in-Splice.fresh c.in-Splice.is news u v m0 m1 old l new above above c.requires.some adds same staged few some)) c.raise.ensures.some

pub returns-clause-gains : goal.returns-clause-gains
returns-clause-gains g c =
    let d = pair_digest g.J.Job.encoded in
    let u = c.args.caller.now in
    let old = c.args.levels.now.items in
    let news = c.args.fresh.now in
    let shift = c.args.shift.now in
    let ls = c.add_levels.new.levels in
    let l = c.in-Some.leaves.now in
    let above = c.in-Some.above.now in
    let eq : ls.items ≡ l ∷ above = sym c.as_mut_slice.ensures.value ∙ c.in-Some.ensures.cases.0 in
    let adds : AddsLevels old (l ∷ above) = subst (AddsLevels old) eq c.add_levels.ensures.adds in
    let none = added-undrafted g.J.Job.joined (g.J.Job.setting c.args.job.now) g.J.Job.encoded old (l ∷ above) adds c.requires.undrafted in
    let new = c.stage.new.leaves in
    let staged = c.in-Ok-stage.ensures.ok in
    let same = c.stage.ensures.same in
    let v = c.raise.new.caller in
    let m1 = g.J.Meter.Meter.counts c.raise.new.m in
    let up = c.raise.new.levels in
    let ok = ls.ok.0 in
    let high : length up ≡ length above = same-length now_of now_of up above c.raise.ensures.same in
    let long : length (new ∷ up) ≡ length ls.items = (let n = ap length eq in omega (arith, n, high)) in
    let final = take ls.len ((new ∷ up) ++ drop (length (new ∷ up)) ls.items) in
    let back : final ≡ new ∷ up = written ls.len (new ∷ up) ls.items (omega (arith, ok)) long in
    subst (GainsLevels d u v) (sym back) (levels-then d u u v new up (plain-gains d u (fresh_of new) (leaves-plain news (fresh_of new) staged.2)) c.raise.ensures.gains)

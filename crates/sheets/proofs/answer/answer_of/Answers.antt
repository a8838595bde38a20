use Rattle.std.proofs.Common.{◌≡◌, ◌++◌, [], All, length, refl, sym, subst, ap, ◌∙◌, arith}
use Rattle.std.specs.Prelude.{drop, slice_set, slice_index_or}
use Rattle.definitions.specs.Tables.{IsRising, HasGoodValues}
use Rattle.definitions.specs.Outside.{GainsPrefix}
use Rattle.definitions.specs.Answer.{lines_of}
use Rattle.sheets.specs.United.{Apart, united}
use Rattle.sheets.proofs.AnswerSteps.{Written, written-first, written-prefix, written-cut, written-end, united-nothing, first_taken, rest_is}
use Rattle.sheets.proofs.answer.answer_of.Goals as goal

pub returns-in_default-clause-ok : goal.returns-in_default-clause-ok
returns-in_default-clause-ok g c =
    let text = g.J.Job.text (g.J.Job.setting c.args.job.now) in
    let ts = c.entries.rests.items in
    let none = united-nothing ts (subst (All (λ t. t ≡ [])) c.as_slice.ensures.value (c.in_default.ensures.none refl)) in
    let all = lines_of text (united c.in-Ok.rests.items) in
    written-end text c.args.out.now.items c.entries.out.items all (subst (Written text c.args.out.now.items c.entries.out.items all) none c.entries.invariant.written)
    ∙ ap (λ tables. c.args.out.now.items ++ lines_of text (united tables)) c.in-Ok.ensures.tables

pub returns-in_default-clause-count : goal.returns-in_default-clause-count
returns-in_default-clause-count g c =
    let ts = c.entries.rests.items in
    let none = ap length (united-nothing ts (subst (All (λ t. t ≡ [])) c.as_slice.ensures.value (c.in_default.ensures.none refl))) in
    let count = c.entries.invariant.count in
    let total = ap (λ tables. length (united tables)) c.in-Ok.ensures.tables in
    omega (arith, none, count, total)

pub returns-in-Err-line-clause-err : goal.returns-in-Err-line-clause-err
returns-in-Err-line-clause-err g c =
    let s = g.J.Job.setting c.args.job.now in
    let text = g.J.Job.text s in
    let inv = c.entries.invariant in
    let ts = c.entries.rests.items in
    let e = c.in-Some-first.e.now in
    let t = drop 1 (slice_index_or ts c.in-Some.i []) in
    let left = first_taken (g.J.Job.good s) ts c.as_slice.result.now c.in-Some.i c.index.result.now e inv.rising inv.good inv.apart c.as_slice.ensures.value c.in-Some.ensures.some c.index.ensures c.in-Some-first.ensures.some in
    let all = lines_of text (united c.in-Ok.rests.items) in
    let written = subst (Written text c.args.out.now.items c.entries.out.items all) left.union inv.written in
    subst (λ tables. GainsPrefix (lines_of text (united tables)) c.args.out.now.items c.line.new.out.items) c.in-Ok.ensures.tables
    (written-cut text c.args.out.now.items c.entries.out.items c.line.new.out.items all e (united (slice_set ts c.in-Some.i t)) written c.in-Err-line.ensures.err)

pub returns-in-None-clause-err : goal.returns-in-None-clause-err
returns-in-None-clause-err g c =
    let s = g.J.Job.setting c.args.job.now in
    let text = g.J.Job.text s in
    let inv = c.entries.invariant in
    let ts = c.entries.rests.items in
    let e = c.in-Some-first.e.now in
    let t = drop 1 (slice_index_or ts c.in-Some.i []) in
    let left = first_taken (g.J.Job.good s) ts c.as_slice.result.now c.in-Some.i c.index.result.now e inv.rising inv.good inv.apart c.as_slice.ensures.value c.in-Some.ensures.some c.index.ensures c.in-Some-first.ensures.some in
    let all = lines_of text (united c.in-Ok.rests.items) in
    let written = written-first text c.args.out.now.items c.entries.out.items c.line.new.out.items all e (united (slice_set ts c.in-Some.i t)) (subst (Written text c.args.out.now.items c.entries.out.items all) left.union inv.written) c.in-Ok-line.ensures.ok in
    subst (λ tables. GainsPrefix (lines_of text (united tables)) c.args.out.now.items c.line.new.out.items) c.in-Ok.ensures.tables
    (written-prefix text c.args.out.now.items c.line.new.out.items all (united (slice_set ts c.in-Some.i t)) written)

pub entries-smaller : goal.entries-smaller
entries-smaller g c =
    let inv = c.entries.invariant in
    let ts = c.entries.rests.items in
    let left = first_taken (g.J.Job.good (g.J.Job.setting c.args.job.now)) ts c.as_slice.result.now c.in-Some.i c.index.result.now c.in-Some-first.e.now inv.rising inv.good inv.apart c.as_slice.ensures.value c.in-Some.ensures.some c.index.ensures c.in-Some-first.ensures.some in
    let rest = rest_is ts c.as_slice.result.now c.in-Some.i c.index_mut.result.now c.take_first.new.self c.as_slice.ensures.value c.in-Some.ensures.some c.index_mut.ensures.value c.take_first.ensures in
    let more = ap length left.union in
    let same = ap (λ t. length (united (slice_set ts c.in-Some.i t))) rest in
    omega (arith, more, same)

pub entries-preserved : goal.entries-preserved
entries-preserved g c =
    let s = g.J.Job.setting c.args.job.now in
    let text = g.J.Job.text s in
    let good = g.J.Job.good s in
    let inv = c.entries.invariant in
    let ts = c.entries.rests.items in
    let i = c.in-Some.i in
    let e = c.in-Some-first.e.now in
    let left = first_taken good ts c.as_slice.result.now i c.index.result.now e inv.rising inv.good inv.apart c.as_slice.ensures.value c.in-Some.ensures.some c.index.ensures c.in-Some-first.ensures.some in
    let rest = sym (rest_is ts c.as_slice.result.now i c.index_mut.result.now c.take_first.new.self c.as_slice.ensures.value c.in-Some.ensures.some c.index_mut.ensures.value c.take_first.ensures) in
    let all = lines_of text (united c.in-Ok.rests.items) in
    let written = written-first text c.args.out.now.items c.entries.out.items c.line.new.out.items all e (united (slice_set ts i (drop 1 (slice_index_or ts i [])))) (subst (Written text c.args.out.now.items c.entries.out.items all) left.union inv.written) c.in-Ok-line.ensures.ok in
    record {
      rising = subst (λ t. All IsRising (slice_set ts i t)) rest left.rising;
      good = subst (λ t. All (HasGoodValues good) (slice_set ts i t)) rest left.values;
      apart = subst (λ t. Apart (slice_set ts i t)) rest left.apart;
      count =
          let before = inv.count in
          let more = ap length left.union in
          let same = ap (λ t. length (united (slice_set ts i t))) rest in
          let counted = c.in-Some-checked_add.ensures in
          omega (arith, before, more, same, counted.1);
      written = subst (λ t. Written text c.args.out.now.items c.line.new.out.items all (united (slice_set ts i t))) rest written;
    }

use Rattle.std.proofs.Common.{rules, ◌≡◌, ◌+◌, ◌-◌, [], ◌++◌, map, take, drop, sym, ap, ◌∙◌}
use Rattle.std.specs.Prelude.{slice_index_or}
use Rattle.record_text.specs.Shifts.{left}
use Rattle.record_text.specs.declared.shift.Shift.{Shift}
use Rattle.run_engine.specs.Inputs.{texts_of}
use Rattle.run_engine.proofs.InputSteps.{slid-left, spliced-left}
use Rattle.run_engine.proofs.inputs.left_inputs.Goals as goal
use Rattle.run_engine.proofs.inputs.left_inputs.Goals.{in-Slide+in_ok-share_span-in-Slide+in_ok-share_places-in-Slide, in-Splice+in_ok-share_span-in-Splice}

pub returns : goal.returns
returns c =
    let old = c.args.leaves.now.items in
    elim c.match-shift.branch [
      | in-Slide+in_ok-share_span-in-Slide+in_ok-share_places-in-Slide w ↦
          (let first : w.share_span.new.inputs.items ≡ [] ++ take (w.in-Slide.gone - 0) (drop 0 old) = search rules in
          let all : texts_of w.share_places.new.inputs.items ≡ texts_of w.share_span.new.inputs.items ++ map (λ p. slice_index_or (texts_of old) (w.in-Slide.gone + p) []) w.in-Slide.places = search rules in
          ap (λ v. texts_of v.items) w.inputs-is ∙ slid-left old w.in-Slide.first w.in-Slide.gone w.in-Slide.places w.in-Slide.fresh w.share_span.new.inputs.items w.share_places.new.inputs.items first all ∙ ap (λ (s : Shift). left [] s (texts_of old)) (sym w.in-Slide.is))
      | in-Splice+in_ok-share_span-in-Splice w ↦
          (let all : w.share_span-in-Splice.new.inputs.items ≡ [] ++ take ((w.in-Splice.first + w.in-Splice.gone) - w.in-Splice.first) (drop w.in-Splice.first old) = search rules in
          ap (λ v. texts_of v.items) w.inputs-is ∙ spliced-left old w.in-Splice.first w.in-Splice.gone w.in-Splice.fresh w.share_span-in-Splice.new.inputs.items all ∙ ap (λ (s : Shift). left [] s (texts_of old)) (sym w.in-Splice.is))
    ]

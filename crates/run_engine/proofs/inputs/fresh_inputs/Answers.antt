use Rattle.std.proofs.Common.{rules, ◌≡◌, ℕ, ◌+◌, ◌-◌, ◌≤◌, [], ◌++◌, length, map, take, drop, sym, ap, subst, ◌∙◌}
use Rattle.std.specs.Prelude.{slice_index_or}
use Rattle.record_text.specs.Shifts.{brought}
use Rattle.record_text.specs.declared.shift.Shift.{Shift}
use Rattle.window_manager.specs.Views.{shift_of}
use Rattle.window_manager.specs.Since.{fresh_leaves}
use Rattle.run_engine.specs.Inputs.{input_for, FitsNew}
use Rattle.run_engine.proofs.Fits.{fits-new}
use Rattle.run_engine.proofs.InputSteps.{slid-inputs, spliced-inputs}
use Rattle.run_engine.proofs.inputs.fresh_inputs.Goals as goal
use Rattle.run_engine.proofs.inputs.fresh_inputs.Goals.{in-Slide+in_ok-push_places-in-Slide+in_ok-push_leaves-in-Slide, in-Splice+in_ok-push_leaves-in-Splice}

pub returns : goal.returns
returns c =
    let now = c.args.window.now.window.leaves in
    let led = c.shift.ensures.leads in
    let fits : FitsNew (shift_of c.args.window.now) (length now) = fits-new c.args.window.now.window.kind c.args.window.now.window.places led.0 (shift_of c.args.window.now) (fresh_leaves c.args.window.now) led.1 now led.2.leads led.2.fits in
    elim c.match-shift.branch [
      | in-Slide+in_ok-push_places-in-Slide+in_ok-push_leaves-in-Slide w ↦
          (let s = w.in-Slide in
          let count = c.leaf_count-count.result in
          let within = subst (λ (h : Shift). FitsNew h (length now)) (sym c.shift.ensures.shift ∙ s.is) fits in
          let first : w.push_places.new.inputs.items ≡ [] ++ map (λ p. input_for c.args.parts c.args.setting (slice_index_or now p [])) s.places = search rules in
          let all : w.push_leaves.new.inputs.items ≡ w.push_places.new.inputs.items ++ map (input_for c.args.parts c.args.setting) (take (count - (count - s.fresh)) (drop (count - s.fresh) now)) = search rules in
          ap (λ v. v.items) w.inputs-is
          ∙ slid-inputs c.args.parts c.args.setting now s.first s.gone s.places s.fresh count w.push_places.new.inputs.items w.push_leaves.new.inputs.items c.leaf_count-count.ensures (subst (λ (n : ℕ). s.fresh ≤ n) (sym c.leaf_count-count.ensures) within.0) first all
          ∙ ap (λ (h : Shift). map (input_for c.args.parts c.args.setting) (brought [] h now)) (sym s.is ∙ c.shift.ensures.shift))
      | in-Splice+in_ok-push_leaves-in-Splice w ↦
          (let s = w.in-Splice in
          let all : w.push_leaves-in-Splice.new.inputs.items ≡ [] ++ map (input_for c.args.parts c.args.setting) (take ((s.first + s.fresh) - s.first) (drop s.first now)) = search rules in
          ap (λ v. v.items) w.inputs-is
          ∙ spliced-inputs c.args.parts c.args.setting now s.first s.gone s.fresh w.push_leaves-in-Splice.new.inputs.items all
          ∙ ap (λ (h : Shift). map (input_for c.args.parts c.args.setting) (brought [] h now)) (sym s.is ∙ c.shift.ensures.shift))
    ]

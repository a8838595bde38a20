use Rattle.std.proofs.Common.{◌≡◌, ℕ, ◌+◌, true, false, All, length, vec_len, refl, sym, ap, subst, ◌∙◌, arith}
use Rattle.std.specs.Prelude.{option_map}
use Rattle.collector.specs.Collectors.{horizon_of}
use Rattle.job_laws.specs.Meanings.{AllAccepted, meaning_of}
use Rattle.record_text.specs.Shifts.{shifted, first_after}
use Rattle.record_text.specs.declared.shift.Shift.{Shift}
use Rattle.window_manager.specs.Views.{shift_of}
use Rattle.window_manager.specs.Since.{IsSince, fresh_leaves}
use Rattle.window_manager.proofs.BalanceLaws.{shift_balances}
use Rattle.std.proofs.lemmas.List.{length-map}
use Rattle.map_tasks.specs.Inputs.{InputView}
use Rattle.run_engine.specs.Inputs.{texts_of, input_for, FitsList}
use Rattle.run_engine.specs.Sweeps.{swept_by}
use Rattle.run_engine.specs.Engines.{EngineView}
use Rattle.run_engine.proofs.Moves.{moved-three}
use Rattle.run_engine.proofs.Fits.{fits-list}
use Rattle.run_engine.proofs.EngineSteps.{may-bring, may-take}
use Rattle.run_engine.proofs.RunClauses.{lanes-of, may-revert, may-settle, loose-stands, loose-undone}
use Rattle.run_engine.proofs.RunEnds.{whole-undone, no-run, later-undone, whole-settled, a-run, later-settled, run-worked, texts-shifted}
use Rattle.run_engine.proofs.engine.Engine.run.Goals as goal

pub work_phases-requires-clause-lanes : goal.work_phases-requires-clause-lanes
work_phases-requires-clause-lanes g c κs within =
    let e = c.self.inside in
    let w = c.args.window.now in
    let h = c.self.invariant.0 in
    let since : IsSince e.first (texts_of e.leaves.items) w = subst (λ (v : EngineView _ _). IsSince v.first v.leaves w) (sym c.self.view_is) c.requires.since in
    let accepted : All (AllAccepted (meaning_of g.J.Job c.self.inside.job)) w.window.leaves = subst (λ (v : EngineView _ _). All (AllAccepted (meaning_of g.J.Job v.job)) w.window.leaves) (sym c.self.view_is) c.requires.accepted in
    may-bring (meaning_of g.J.Job c.self.inside.job) (g.J.Job.setting c.self.inside.job) e.settings.parts w e.first (texts_of e.leaves.items) since e.leaf_memo.locks e.lanes.items h.lanes_count h.settings_are.parts h.lanes_are accepted shift_balances

pub work_phases-requires-clause-parts : goal.work_phases-requires-clause-parts
work_phases-requires-clause-parts g c κs within =
    let e = c.self.inside in
    let w = c.args.window.now in
    let h = c.self.invariant.0 in
    let since : IsSince e.first (texts_of e.leaves.items) w = subst (λ (v : EngineView _ _). IsSince v.first v.leaves w) (sym c.self.view_is) c.requires.since in
    may-take (meaning_of g.J.Job c.self.inside.job) (g.J.Job.setting c.self.inside.job) e.settings.parts w e.first (texts_of e.leaves.items) since g.T.Tree.view g.T.Tree.pins g.T.Tree.most g.T.Tree.KIND e.settings.places e.merge_memo.locks e.parts.items h.parts_count h.parts_are c.requires.kind
    (subst (λ (v : EngineView _ _). w.window.places ≡ v.settings.places) (sym c.self.view_is) c.requires.places)

pub undo-requires-clause-lanes : goal.undo-requires-clause-lanes
undo-requires-clause-lanes g c =
    let e = c.self.inside in
    let w = c.args.window.now in
    let h = c.self.invariant.0 in
    let p = c.work_phases in
    lanes-of e.settings.parts (g.J.Job.setting c.self.inside.job) e.leaf_memo.locks (texts_of e.leaves.items) e.lanes.items p.new.lanes.items h.lanes_are p.ensures.lanes

pub undo-requires-clause-parts : goal.undo-requires-clause-parts
undo-requires-clause-parts g c =
    let e = c.self.inside in
    let w = c.args.window.now in
    let h = c.self.invariant.0 in
    let p = c.work_phases in
    may-revert (meaning_of g.J.Job c.self.inside.job) (g.J.Job.setting c.self.inside.job) e.settings.parts g.T.Tree.view g.T.Tree.pins g.T.Tree.most e.settings.places e.first e.merge_memo.locks (texts_of e.leaves.items) e.parts.items p.new.parts.items h.parts_are p.ensures.parts

pub finish-requires-clause-lanes : goal.finish-requires-clause-lanes
finish-requires-clause-lanes g c =
    let e = c.self.inside in
    let w = c.args.window.now in
    let h = c.self.invariant.0 in
    let p = c.work_phases in
    lanes-of e.settings.parts (g.J.Job.setting c.self.inside.job) e.leaf_memo.locks (texts_of e.leaves.items) e.lanes.items p.new.lanes.items h.lanes_are p.ensures.lanes

pub finish-requires-clause-parts : goal.finish-requires-clause-parts
finish-requires-clause-parts g c =
    let e = c.self.inside in
    let w = c.args.window.now in
    let h = c.self.invariant.0 in
    let p = c.work_phases in
    may-settle (meaning_of g.J.Job c.self.inside.job) (g.J.Job.setting c.self.inside.job) e.settings.parts g.T.Tree.view g.T.Tree.pins g.T.Tree.most e.settings.places e.first e.merge_memo.locks (texts_of e.leaves.items) e.parts.items p.new.parts.items h.parts_are g.T.Tree.shaped (shift_of w) (fresh_leaves w) p.ensures.parts c.in-Ok.ensures.took

pub invariant_of-self-in-Err : goal.invariant_of-self-in-Err
invariant_of-self-in-Err g c =
    let e = c.self.inside in
    let w = c.args.window.now in
    let h = c.self.invariant.0 in
    let p = c.work_phases in (
      whole-undone (meaning_of g.J.Job) g.T.Tree.view g.T.Tree.pins g.T.Tree.most e.job e.settings (g.J.Job.setting c.self.inside.job) e.runs e.first e.leaves.items p.new.leaves.items e.leaf_memo e.merge_memo e.lanes.items p.new.lanes.items c.undo.new.lanes.items e.parts.items p.new.parts.items c.undo.new.parts.items
          (option_map (λ s. s.collector) e.leaf_sweep) (option_map (λ s. s.collector) p.new.leaf_sweep) (option_map (λ s. s.collector) e.merge_sweep) (option_map (λ s. s.collector) p.new.merge_sweep) h p.ensures.lanes p.ensures.parts
          (horizon_of (swept_by (option_map (λ s. s.collector) e.leaf_sweep)).keep (e.runs + 1)) (horizon_of (swept_by (option_map (λ s. s.collector) e.merge_sweep)).keep (e.runs + 1)) true c.in-Err.ensures.leaf_sweep.1 c.in-Err.ensures.merge_sweep.1 c.args.self.now c.self.view_is
          p.ensures.same c.undo.ensures.lanes c.undo.ensures.parts,
      c.in-Err.ensures.leaf_sweep.0,
      c.in-Err.ensures.merge_sweep.0,
    )

pub returns-in-Err-clause-err : goal.returns-in-Err-clause-err
returns-in-Err-clause-err g c =
    let e = c.self.inside in
    let w = c.args.window.now in
    let h = c.self.invariant.0 in
    let p = c.work_phases in
    no-run (meaning_of g.J.Job) g.T.Tree.view g.T.Tree.pins g.T.Tree.most e.job e.settings (g.J.Job.setting c.self.inside.job) e.runs e.first e.leaves.items p.new.leaves.items e.leaf_memo e.merge_memo e.lanes.items p.new.lanes.items c.undo.new.lanes.items e.parts.items p.new.parts.items c.undo.new.parts.items
    (option_map (λ s. s.collector) e.leaf_sweep) (option_map (λ s. s.collector) p.new.leaf_sweep) (option_map (λ s. s.collector) e.merge_sweep) (option_map (λ s. s.collector) p.new.merge_sweep) h p.ensures.lanes p.ensures.parts
    (horizon_of (swept_by (option_map (λ s. s.collector) e.leaf_sweep)).keep (e.runs + 1)) (horizon_of (swept_by (option_map (λ s. s.collector) e.merge_sweep)).keep (e.runs + 1)) true c.in-Err.ensures.leaf_sweep.1 c.in-Err.ensures.merge_sweep.1 c.args.self.now c.self.view_is
    p.ensures.same c.undo.ensures.lanes c.undo.ensures.parts

pub returns-in-Err-clause-worked : goal.returns-in-Err-clause-worked
returns-in-Err-clause-worked g c =
    let e = c.self.inside in
    let w = c.args.window.now in
    let h = c.self.invariant.0 in
    let p = c.work_phases in
    let since : IsSince e.first (texts_of e.leaves.items) w = subst (λ (v : EngineView _ _). IsSince v.first v.leaves w) (sym c.self.view_is) c.requires.since in
    let later = later-undone (meaning_of g.J.Job) g.T.Tree.view g.T.Tree.pins g.T.Tree.most e.job e.settings (g.J.Job.setting c.self.inside.job) e.runs e.first e.leaves.items p.new.leaves.items e.leaf_memo e.merge_memo e.lanes.items p.new.lanes.items c.undo.new.lanes.items e.parts.items p.new.parts.items c.undo.new.parts.items
    (option_map (λ s. s.collector) e.leaf_sweep) (option_map (λ s. s.collector) p.new.leaf_sweep) (option_map (λ s. s.collector) e.merge_sweep) (option_map (λ s. s.collector) p.new.merge_sweep) h p.ensures.lanes p.ensures.parts
    (horizon_of (swept_by (option_map (λ s. s.collector) e.leaf_sweep)).keep (e.runs + 1)) (horizon_of (swept_by (option_map (λ s. s.collector) e.merge_sweep)).keep (e.runs + 1)) true c.in-Err.ensures.leaf_sweep.1 c.in-Err.ensures.merge_sweep.1 c.args.self.now c.self.view_is
    p.ensures.same c.undo.ensures.lanes c.undo.ensures.parts in
    run-worked (meaning_of g.J.Job) g.T.Tree.view g.T.Tree.pins g.T.Tree.most e.job e.settings (g.J.Job.setting c.self.inside.job) e.runs e.first e.leaves.items p.new.leaves.items e.leaf_memo e.merge_memo e.lanes.items p.new.lanes.items c.undo.new.lanes.items e.parts.items p.new.parts.items c.undo.new.parts.items
    (option_map (λ s. s.collector) e.leaf_sweep) (option_map (λ s. s.collector) p.new.leaf_sweep) (option_map (λ s. s.collector) e.merge_sweep) (option_map (λ s. s.collector) p.new.merge_sweep) h p.ensures.lanes p.ensures.parts
    (horizon_of (swept_by (option_map (λ s. s.collector) e.leaf_sweep)).keep (e.runs + 1)) (horizon_of (swept_by (option_map (λ s. s.collector) e.merge_sweep)).keep (e.runs + 1)) true c.in-Err.ensures.leaf_sweep.1 c.in-Err.ensures.merge_sweep.1 c.args.self.now c.self.view_is g.J.Meter.Meter.counts g.T.Tree.bound g.T.Tree.tight w since c.meters.inside.lanes.items p.new.lane_meters.items c.meters.inside.parts.items p.new.part_meters.items c.args.meters.now c.meters.view_is e.runs e.first later p.ensures.lanes_counted p.ensures.parts_counted c.undo.ensures.parts.count
    (λ q d f lt. (c.undo.ensures.parts.each q d f lt).balanced.later)
    (loose-undone (meaning_of g.J.Job c.self.inside.job) (g.J.Job.setting c.self.inside.job) e.settings.parts g.T.Tree.view g.T.Tree.pins g.T.Tree.most e.settings.places e.first e.merge_memo.locks (texts_of e.leaves.items) e.parts.items p.new.parts.items h.parts_are c.undo.new.parts.items p.ensures.parts c.undo.ensures.parts)
    (c.part_laws.ensures.share (g.J.Job.setting c.self.inside.job)) c.meters.invariant.1 refl refl

pub invariant_of-self : goal.invariant_of-self
invariant_of-self g c =
    let e = c.self.inside in
    let w = c.args.window.now in
    let h = c.self.invariant.0 in
    let p = c.work_phases in
    let since : IsSince e.first (texts_of e.leaves.items) w = subst (λ (v : EngineView _ _). IsSince v.first v.leaves w) (sym c.self.view_is) c.requires.since in
    let accepted : All (AllAccepted (meaning_of g.J.Job c.self.inside.job)) w.window.leaves = subst (λ (v : EngineView _ _). All (AllAccepted (meaning_of g.J.Job v.job)) w.window.leaves) (sym c.self.view_is) c.requires.accepted in
    let texts : texts_of c.shift_items.new.items.items ≡ w.window.leaves = texts-shifted e.settings.parts (g.J.Job.setting c.self.inside.job) (shift_of w) (fresh_leaves w) w.window.leaves e.leaves.items p.new.leaves.items c.in-Ok.fresh.items c.shift_items.new.items.items since.leads p.ensures.same c.in-Ok.ensures.fresh
    (c.shift_items.ensures ∙ ap (λ (i : Shift). shifted i c.in-Ok.fresh.items p.new.leaves.items) c.shift-shift.ensures.shift) in
    let first : c.first_of-self-inside.result ≡ first_after (shift_of w) e.first = c.first_of-self-inside.ensures ∙ ap (λ (i : Shift). first_after i e.first) c.shift-shift.ensures.shift in (
      whole-settled (meaning_of g.J.Job) g.T.Tree.view g.T.Tree.pins g.T.Tree.most e.job e.settings (g.J.Job.setting c.self.inside.job) e.runs e.first e.leaves.items c.shift_items.new.items.items e.leaf_memo e.merge_memo e.lanes.items p.new.lanes.items c.finish.new.lanes.items e.parts.items p.new.parts.items c.finish.new.parts.items
          (option_map (λ s. s.collector) e.leaf_sweep) (option_map (λ s. s.collector) p.new.leaf_sweep) (option_map (λ s. s.collector) e.merge_sweep) (option_map (λ s. s.collector) p.new.merge_sweep) h p.ensures.lanes p.ensures.parts
          (horizon_of (swept_by (option_map (λ s. s.collector) e.leaf_sweep)).keep (e.runs + 1)) (horizon_of (swept_by (option_map (λ s. s.collector) e.merge_sweep)).keep (e.runs + 1)) false c.in-Ok.ensures.leaf_sweep.1 c.in-Ok.ensures.merge_sweep.1 c.args.self.now c.self.view_is
          w since texts c.first_of-self-inside.result first g.T.Tree.shaped accepted shift_balances c.in-Ok.ensures.brought c.in-Ok.ensures.took c.finish.ensures.lanes c.finish.ensures.parts,
      c.in-Ok.ensures.leaf_sweep.0,
      c.in-Ok.ensures.merge_sweep.0,
    )

pub returns-in-Ok-clause-ok : goal.returns-in-Ok-clause-ok
returns-in-Ok-clause-ok g c =
    let e = c.self.inside in
    let w = c.args.window.now in
    let h = c.self.invariant.0 in
    let p = c.work_phases in
    let since : IsSince e.first (texts_of e.leaves.items) w = subst (λ (v : EngineView _ _). IsSince v.first v.leaves w) (sym c.self.view_is) c.requires.since in
    let accepted : All (AllAccepted (meaning_of g.J.Job c.self.inside.job)) w.window.leaves = subst (λ (v : EngineView _ _). All (AllAccepted (meaning_of g.J.Job v.job)) w.window.leaves) (sym c.self.view_is) c.requires.accepted in
    let texts : texts_of c.shift_items.new.items.items ≡ w.window.leaves = texts-shifted e.settings.parts (g.J.Job.setting c.self.inside.job) (shift_of w) (fresh_leaves w) w.window.leaves e.leaves.items p.new.leaves.items c.in-Ok.fresh.items c.shift_items.new.items.items since.leads p.ensures.same c.in-Ok.ensures.fresh
    (c.shift_items.ensures ∙ ap (λ (i : Shift). shifted i c.in-Ok.fresh.items p.new.leaves.items) c.shift-shift.ensures.shift) in
    let first : c.first_of-self-inside.result ≡ first_after (shift_of w) e.first = c.first_of-self-inside.ensures ∙ ap (λ (i : Shift). first_after i e.first) c.shift-shift.ensures.shift in
    a-run (meaning_of g.J.Job) g.T.Tree.view g.T.Tree.pins g.T.Tree.most e.job e.settings (g.J.Job.setting c.self.inside.job) e.runs e.first e.leaves.items c.shift_items.new.items.items e.leaf_memo e.merge_memo e.lanes.items p.new.lanes.items c.finish.new.lanes.items e.parts.items p.new.parts.items c.finish.new.parts.items
    (option_map (λ s. s.collector) e.leaf_sweep) (option_map (λ s. s.collector) p.new.leaf_sweep) (option_map (λ s. s.collector) e.merge_sweep) (option_map (λ s. s.collector) p.new.merge_sweep) h p.ensures.lanes p.ensures.parts
    (horizon_of (swept_by (option_map (λ s. s.collector) e.leaf_sweep)).keep (e.runs + 1)) (horizon_of (swept_by (option_map (λ s. s.collector) e.merge_sweep)).keep (e.runs + 1)) false c.in-Ok.ensures.leaf_sweep.1 c.in-Ok.ensures.merge_sweep.1 c.args.self.now c.self.view_is
    w since texts c.first_of-self-inside.result first g.T.Tree.shaped accepted shift_balances c.in-Ok.ensures.brought c.in-Ok.ensures.took c.finish.ensures.lanes c.finish.ensures.parts refl refl refl

pub returns-in-Ok-clause-worked : goal.returns-in-Ok-clause-worked
returns-in-Ok-clause-worked g c =
    let e = c.self.inside in
    let w = c.args.window.now in
    let h = c.self.invariant.0 in
    let p = c.work_phases in
    let since : IsSince e.first (texts_of e.leaves.items) w = subst (λ (v : EngineView _ _). IsSince v.first v.leaves w) (sym c.self.view_is) c.requires.since in
    let accepted : All (AllAccepted (meaning_of g.J.Job c.self.inside.job)) w.window.leaves = subst (λ (v : EngineView _ _). All (AllAccepted (meaning_of g.J.Job v.job)) w.window.leaves) (sym c.self.view_is) c.requires.accepted in
    let texts : texts_of c.shift_items.new.items.items ≡ w.window.leaves = texts-shifted e.settings.parts (g.J.Job.setting c.self.inside.job) (shift_of w) (fresh_leaves w) w.window.leaves e.leaves.items p.new.leaves.items c.in-Ok.fresh.items c.shift_items.new.items.items since.leads p.ensures.same c.in-Ok.ensures.fresh
    (c.shift_items.ensures ∙ ap (λ (i : Shift). shifted i c.in-Ok.fresh.items p.new.leaves.items) c.shift-shift.ensures.shift) in
    let first : c.first_of-self-inside.result ≡ first_after (shift_of w) e.first = c.first_of-self-inside.ensures ∙ ap (λ (i : Shift). first_after i e.first) c.shift-shift.ensures.shift in
    let later = later-settled (meaning_of g.J.Job) g.T.Tree.view g.T.Tree.pins g.T.Tree.most e.job e.settings (g.J.Job.setting c.self.inside.job) e.runs e.first e.leaves.items c.shift_items.new.items.items e.leaf_memo e.merge_memo e.lanes.items p.new.lanes.items c.finish.new.lanes.items e.parts.items p.new.parts.items c.finish.new.parts.items
    (option_map (λ s. s.collector) e.leaf_sweep) (option_map (λ s. s.collector) p.new.leaf_sweep) (option_map (λ s. s.collector) e.merge_sweep) (option_map (λ s. s.collector) p.new.merge_sweep) h p.ensures.lanes p.ensures.parts
    (horizon_of (swept_by (option_map (λ s. s.collector) e.leaf_sweep)).keep (e.runs + 1)) (horizon_of (swept_by (option_map (λ s. s.collector) e.merge_sweep)).keep (e.runs + 1)) false c.in-Ok.ensures.leaf_sweep.1 c.in-Ok.ensures.merge_sweep.1 c.args.self.now c.self.view_is
    w since texts c.first_of-self-inside.result first g.T.Tree.shaped accepted shift_balances c.in-Ok.ensures.brought c.in-Ok.ensures.took c.finish.ensures.lanes c.finish.ensures.parts in
    run-worked (meaning_of g.J.Job) g.T.Tree.view g.T.Tree.pins g.T.Tree.most e.job e.settings (g.J.Job.setting c.self.inside.job) e.runs e.first e.leaves.items c.shift_items.new.items.items e.leaf_memo e.merge_memo e.lanes.items p.new.lanes.items c.finish.new.lanes.items e.parts.items p.new.parts.items c.finish.new.parts.items
    (option_map (λ s. s.collector) e.leaf_sweep) (option_map (λ s. s.collector) p.new.leaf_sweep) (option_map (λ s. s.collector) e.merge_sweep) (option_map (λ s. s.collector) p.new.merge_sweep) h p.ensures.lanes p.ensures.parts
    (horizon_of (swept_by (option_map (λ s. s.collector) e.leaf_sweep)).keep (e.runs + 1)) (horizon_of (swept_by (option_map (λ s. s.collector) e.merge_sweep)).keep (e.runs + 1)) false c.in-Ok.ensures.leaf_sweep.1 c.in-Ok.ensures.merge_sweep.1 c.args.self.now c.self.view_is g.J.Meter.Meter.counts g.T.Tree.bound g.T.Tree.tight w since c.meters.inside.lanes.items p.new.lane_meters.items c.meters.inside.parts.items p.new.part_meters.items c.args.meters.now c.meters.view_is (e.runs + 1) c.first_of-self-inside.result later p.ensures.lanes_counted p.ensures.parts_counted c.finish.ensures.parts.count
    (λ q d f lt. (c.finish.ensures.parts.each q d f lt).balanced.later)
    (loose-stands (meaning_of g.J.Job c.self.inside.job) (g.J.Job.setting c.self.inside.job) e.settings.parts g.T.Tree.view g.T.Tree.pins g.T.Tree.most e.settings.places e.first e.merge_memo.locks (texts_of e.leaves.items) e.parts.items p.new.parts.items h.parts_are g.T.Tree.shaped (shift_of w) (fresh_leaves w) c.finish.new.parts.items p.ensures.parts c.in-Ok.ensures.took c.finish.ensures.parts)
    (c.part_laws.ensures.share (g.J.Job.setting c.self.inside.job)) c.meters.invariant.1 refl refl

pub shift_items-requires-clause-fits : goal.shift_items-requires-clause-fits
shift_items-requires-clause-fits g c =
    let e = c.self.inside in
    let w = c.args.window.now in
    let h = c.self.invariant.0 in
    let p = c.work_phases in
    let since : IsSince e.first (texts_of e.leaves.items) w = subst (λ (v : EngineView _ _). IsSince v.first v.leaves w) (sym c.self.view_is) c.requires.since in
    let a = length-map e.leaves.items (λ (i : InputView). i.text) in
    let b = ap length p.ensures.same in
    let n = length-map (fresh_leaves w) (input_for e.settings.parts (g.J.Job.setting c.self.inside.job)) in
    let o = ap length c.in-Ok.ensures.fresh in
    let one : length (texts_of e.leaves.items) ≡ vec_len p.new.leaves = omega (arith, a, b, p.new.leaves.ok.0) in
    let two : length (fresh_leaves w) ≡ vec_len c.in-Ok.fresh = omega (arith, n, o, c.in-Ok.fresh.ok.0) in
    moved-three (λ (i : Shift) (j k : ℕ). FitsList i j k) (shift_of w) c.shift-shift.result.now (length (texts_of e.leaves.items)) (vec_len p.new.leaves) (length (fresh_leaves w)) (vec_len c.in-Ok.fresh) (sym c.shift-shift.ensures.shift) one two
    (fits-list w.window.kind w.window.places e.first (length (texts_of e.leaves.items)) (length (fresh_leaves w)) (shift_of w) since.fits)

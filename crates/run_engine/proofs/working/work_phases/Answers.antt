use Rattle.std.proofs.Common.{◌≡◌, ℕ, ◌≤◌, false, List, [], length, map, refl, sym, ap, subst, ◌∙◌}
use Rattle.std.specs.Prelude.{option_map}
use Rattle.job_laws.specs.Meanings.{meaning_of}
use Rattle.record_text.specs.Shifts.{left}
use Rattle.record_text.specs.declared.shift.Shift.{Shift}
use Rattle.window_manager.specs.Windows.{Leaf}
use Rattle.window_manager.specs.Views.{shift_of}
use Rattle.window_manager.specs.Since.{fresh_leaves}
use Rattle.map_tasks.specs.Inputs.{InputView}
use Rattle.tree_laws.specs.Trees.{bound_of}
use Rattle.run_engine.specs.declared.lane_seat.LaneSeat.{LaneSeat}
use Rattle.run_engine.specs.declared.part_seat.PartSeat.{PartSeat}
use Rattle.run_engine.specs.InPlace.{EachAt, EachPair}
use Rattle.run_engine.specs.Inputs.{texts_of, input_for}
use Rattle.run_engine.specs.Sweeps.{swept_by}
use Rattle.run_engine.specs.Phases.{IsBroughtLane, IsShiftedPart, MayBringAll, MayTakeAll, LanesCounted, PartsCounted}
use Rattle.run_engine.specs.Handing.{HoldEach}
use Rattle.run_engine.proofs.Moves.{moved-two, moved-three}
use Rattle.run_engine.proofs.InPlaceSteps.{pairs-same}
use Rattle.run_engine.proofs.SweepSteps.{sweep-idle, sweep-failed}
use Rattle.run_engine.proofs.PhaseSteps.{none-counted}
use Rattle.run_engine.proofs.LanePhase.{lanes-untried}
use Rattle.run_engine.proofs.PartPhase.{parts-handed}
use Rattle.run_engine.proofs.RunParts.{parts-uncounted}
use Rattle.run_engine.proofs.EngineSteps.{texts-for, hold-each}
use Rattle.run_engine.proofs.working.work_phases.Goals as goal

-- Nothing was done: out of memory for the inputs.

pub returns-in-Err-clause-lanes : goal.returns-in-Err-clause-lanes
returns-in-Err-clause-lanes g c = lanes-untried c.args.count (g.J.Job.setting c.args.job.now) c.args.leaf_memo.now.locks (texts_of c.args.leaves.now.items) c.args.lanes.now.items c.requires.lanes.seats

pub returns-in-Err-clause-parts : goal.returns-in-Err-clause-parts
returns-in-Err-clause-parts g c = parts-handed g.T.Tree.view g.T.Tree.pins (g.J.Job.setting c.args.job.now) g.T.Tree.KIND c.args.merge_memo.now.locks (shift_of c.args.window.now) (length (map (input_for c.args.count (g.J.Job.setting c.args.job.now)) (fresh_leaves c.args.window.now))) c.args.parts.now.items c.args.parts.now.items c.requires.parts.seats_are
    (pairs-same (λ p (s t : PartSeat _ _ _ _). (t.tree ≡ s.tree) × (t.caller ≡ s.caller) × Unit {0}) c.args.parts.now.items (λ p a. (refl, refl, tt)))

pub returns-in-Err-clause-lanes_counted : goal.returns-in-Err-clause-lanes_counted
returns-in-Err-clause-lanes_counted g c = none-counted (meaning_of g.J.Job c.args.job.now) g.J.Meter.Meter.counts (texts_of c.args.leaves.now.items) (fresh_leaves c.args.window.now) c.args.lane_meters.now.items

pub returns-in-Err-clause-parts_counted : goal.returns-in-Err-clause-parts_counted
returns-in-Err-clause-parts_counted g c = parts-uncounted g.J.Meter.Meter.counts (meaning_of g.J.Job c.args.job.now) (bound_of g.T.Tree.view g.T.Tree.bound) g.T.Tree.tight g.T.Tree.view c.args.count (shift_of c.args.window.now) (fresh_leaves c.args.window.now) c.args.parts.now.items c.args.parts.now.items c.args.part_meters.now.items
    (subst (λ (n : ℕ). n ≤ length c.args.part_meters.now.items) (sym c.requires.count) c.requires.part_meters)

pub returns-in-Err-clause-leaf_sweep : goal.returns-in-Err-clause-leaf_sweep
returns-in-Err-clause-leaf_sweep g c = (c.requires.leaf_sweep.0, sweep-idle _ (swept_by (option_map (λ s. s.collector) c.args.leaf_sweep.now)))

pub returns-in-Err-clause-merge_sweep : goal.returns-in-Err-clause-merge_sweep
returns-in-Err-clause-merge_sweep g c = (c.requires.merge_sweep.0, sweep-idle _ (swept_by (option_map (λ s. s.collector) c.args.merge_sweep.now)))

pub bring_fresh-requires-clause-lanes : goal.bring_fresh-requires-clause-lanes
bring_fresh-requires-clause-lanes g c κs within =
    moved-three (λ (l : List Leaf) (h : Shift) (i : List InputView). MayBringAll (meaning_of g.J.Job c.args.job.now) (g.J.Job.setting c.args.job.now) c.args.count c.args.leaf_memo.now.locks l h i c.args.lanes.now.items) (texts_of c.args.leaves.now.items) (texts_of c.fresh_for.new.leaves.items) (shift_of c.args.window.now) c.shift-shift.result.now (map (input_for c.args.count (g.J.Job.setting c.args.job.now)) (fresh_leaves c.args.window.now)) c.in-Ok.fresh.items (sym (ap texts_of c.fresh_for.ensures.same)) (sym c.shift-shift.ensures.shift) (sym (c.in-Ok.ensures.fresh ∙ ap (λ (n : ℕ). map (input_for c.args.count n) (fresh_leaves c.args.window.now)) c.setting.ensures)) c.requires.lanes

pub take_shift-requires-clause-parts : goal.take_shift-requires-clause-parts
take_shift-requires-clause-parts g c κs within =
    moved-three (λ (n : ℕ) (h : Shift) (i : List InputView). MayTakeAll g.T.Tree.view g.T.Tree.pins (g.J.Job.setting c.args.job.now) n g.T.Tree.KIND c.args.merge_memo.now.locks h i c.args.parts.now.items) c.args.count (length c.args.parts.now.items) (shift_of c.args.window.now) c.shift-shift.result.now (map (input_for c.args.count (g.J.Job.setting c.args.job.now)) (fresh_leaves c.args.window.now)) c.in-Ok.fresh.items c.requires.count (sym c.shift-shift.ensures.shift) (sym (c.in-Ok.ensures.fresh ∙ ap (λ (n : ℕ). map (input_for c.args.count n) (fresh_leaves c.args.window.now)) c.setting.ensures)) c.requires.parts

pub take_shift-requires-clause-held : goal.take_shift-requires-clause-held
take_shift-requires-clause-held g c κs within =
    let n = c.requires.lanes.count in
    let o = c.bring_fresh.ensures.tried.count in
    moved-two (λ (n : ℕ) (i : List InputView). HoldEach n i (map (λ (s : LaneSeat _ _ _). s.lane) c.bring_fresh.new.lanes.items)) c.args.count (length c.args.parts.now.items) (map (input_for c.args.count (g.J.Job.setting c.args.job.now)) (texts_of c.in-Ok.fresh.items)) c.in-Ok.fresh.items c.requires.count
    (ap (map (input_for c.args.count (g.J.Job.setting c.args.job.now))) (ap texts_of (c.in-Ok.ensures.fresh ∙ ap (λ (n : ℕ). map (input_for c.args.count n) (fresh_leaves c.args.window.now)) c.setting.ensures) ∙ texts-for c.args.count (g.J.Job.setting c.args.job.now) (fresh_leaves c.args.window.now)) ∙ sym (c.in-Ok.ensures.fresh ∙ ap (λ (n : ℕ). map (input_for c.args.count n) (fresh_leaves c.args.window.now)) c.setting.ensures))
    (hold-each c.args.count (g.J.Job.setting c.args.job.now) (texts_of c.in-Ok.fresh.items) (left [] c.shift-shift.result.now (texts_of c.fresh_for.new.leaves.items)) c.args.lanes.now.items c.bring_fresh.new.lanes.items (o ∙ n) c.bring_fresh.ensures.tried c.in-Ok-bring_fresh.ensures.ok)

pub returns-in-Err-bring_fresh-clause-lanes : goal.returns-in-Err-bring_fresh-clause-lanes
returns-in-Err-bring_fresh-clause-lanes g c =
    c.bring_fresh.ensures.tried

pub returns-in-Err-bring_fresh-clause-parts : goal.returns-in-Err-bring_fresh-clause-parts
returns-in-Err-bring_fresh-clause-parts g c =
    parts-handed g.T.Tree.view g.T.Tree.pins (g.J.Job.setting c.args.job.now) g.T.Tree.KIND c.args.merge_memo.now.locks (shift_of c.args.window.now) (length (map (input_for c.args.count (g.J.Job.setting c.args.job.now)) (fresh_leaves c.args.window.now))) c.args.parts.now.items c.args.parts.now.items c.requires.parts.seats_are
    (pairs-same (λ p (s t : PartSeat _ _ _ _). (t.tree ≡ s.tree) × (t.caller ≡ s.caller) × Unit {0}) c.args.parts.now.items (λ p a. (refl, refl, tt)))

pub returns-in-Err-bring_fresh-clause-parts_counted : goal.returns-in-Err-bring_fresh-clause-parts_counted
returns-in-Err-bring_fresh-clause-parts_counted g c =
    parts-uncounted g.J.Meter.Meter.counts (meaning_of g.J.Job c.args.job.now) (bound_of g.T.Tree.view g.T.Tree.bound) g.T.Tree.tight g.T.Tree.view c.args.count (shift_of c.args.window.now) (fresh_leaves c.args.window.now) c.args.parts.now.items c.args.parts.now.items c.args.part_meters.now.items
    (subst (λ (n : ℕ). n ≤ length c.args.part_meters.now.items) (sym c.requires.count) c.requires.part_meters)

pub returns-in-Err-bring_fresh-clause-merge_sweep : goal.returns-in-Err-bring_fresh-clause-merge_sweep
returns-in-Err-bring_fresh-clause-merge_sweep g c =
    (c.requires.merge_sweep.0, sweep-idle _ (swept_by (option_map (λ s. s.collector) c.args.merge_sweep.now)))

pub returns-in-Err-bring_fresh-clause-lanes_counted : goal.returns-in-Err-bring_fresh-clause-lanes_counted
returns-in-Err-bring_fresh-clause-lanes_counted g c =
    moved-two (λ (l f : List Leaf). LanesCounted (meaning_of g.J.Job c.args.job.now) g.J.Meter.Meter.counts l f c.args.lane_meters.now.items c.bring_fresh.new.meters.items) (texts_of c.fresh_for.new.leaves.items) (texts_of c.args.leaves.now.items) (texts_of c.in-Ok.fresh.items) (fresh_leaves c.args.window.now) (ap texts_of c.fresh_for.ensures.same) (ap texts_of (c.in-Ok.ensures.fresh ∙ ap (λ (n : ℕ). map (input_for c.args.count n) (fresh_leaves c.args.window.now)) c.setting.ensures) ∙ texts-for c.args.count (g.J.Job.setting c.args.job.now) (fresh_leaves c.args.window.now)) c.bring_fresh.ensures.counted

pub returns-in-Err-bring_fresh-clause-leaf_sweep : goal.returns-in-Err-bring_fresh-clause-leaf_sweep
returns-in-Err-bring_fresh-clause-leaf_sweep g c =
    c.in-Err-bring_fresh.ensures.sweep

pub returns-in-Err-take_shift-clause-lanes : goal.returns-in-Err-take_shift-clause-lanes
returns-in-Err-take_shift-clause-lanes g c =
    c.bring_fresh.ensures.tried

pub returns-in-Err-take_shift-clause-parts : goal.returns-in-Err-take_shift-clause-parts
returns-in-Err-take_shift-clause-parts g c =
    c.take_shift.ensures.tried

pub returns-in-Err-take_shift-clause-lanes_counted : goal.returns-in-Err-take_shift-clause-lanes_counted
returns-in-Err-take_shift-clause-lanes_counted g c =
    moved-two (λ (l f : List Leaf). LanesCounted (meaning_of g.J.Job c.args.job.now) g.J.Meter.Meter.counts l f c.args.lane_meters.now.items c.bring_fresh.new.meters.items) (texts_of c.fresh_for.new.leaves.items) (texts_of c.args.leaves.now.items) (texts_of c.in-Ok.fresh.items) (fresh_leaves c.args.window.now) (ap texts_of c.fresh_for.ensures.same) (ap texts_of (c.in-Ok.ensures.fresh ∙ ap (λ (n : ℕ). map (input_for c.args.count n) (fresh_leaves c.args.window.now)) c.setting.ensures) ∙ texts-for c.args.count (g.J.Job.setting c.args.job.now) (fresh_leaves c.args.window.now)) c.bring_fresh.ensures.counted

pub returns-in-Err-take_shift-clause-parts_counted : goal.returns-in-Err-take_shift-clause-parts_counted
returns-in-Err-take_shift-clause-parts_counted g c =
    moved-three (λ (n : ℕ) (h : Shift) (f : List Leaf). PartsCounted g.T.Tree.view g.J.Meter.Meter.counts (meaning_of g.J.Job c.args.job.now) n (bound_of g.T.Tree.view g.T.Tree.bound) g.T.Tree.tight h f c.args.parts.now.items c.take_shift.new.parts.items c.args.part_meters.now.items c.take_shift.new.meters.items) (length c.args.parts.now.items) c.args.count c.shift-shift.result.now (shift_of c.args.window.now) (texts_of c.in-Ok.fresh.items) (fresh_leaves c.args.window.now) (sym c.requires.count) c.shift-shift.ensures.shift (ap texts_of (c.in-Ok.ensures.fresh ∙ ap (λ (n : ℕ). map (input_for c.args.count n) (fresh_leaves c.args.window.now)) c.setting.ensures) ∙ texts-for c.args.count (g.J.Job.setting c.args.job.now) (fresh_leaves c.args.window.now)) c.take_shift.ensures.counted

pub returns-in-Ok-take_shift-clause-lanes : goal.returns-in-Ok-take_shift-clause-lanes
returns-in-Ok-take_shift-clause-lanes g c =
    c.bring_fresh.ensures.tried

pub returns-in-Ok-take_shift-clause-parts : goal.returns-in-Ok-take_shift-clause-parts
returns-in-Ok-take_shift-clause-parts g c =
    c.take_shift.ensures.tried

pub returns-in-Ok-take_shift-clause-lanes_counted : goal.returns-in-Ok-take_shift-clause-lanes_counted
returns-in-Ok-take_shift-clause-lanes_counted g c =
    moved-two (λ (l f : List Leaf). LanesCounted (meaning_of g.J.Job c.args.job.now) g.J.Meter.Meter.counts l f c.args.lane_meters.now.items c.bring_fresh.new.meters.items) (texts_of c.fresh_for.new.leaves.items) (texts_of c.args.leaves.now.items) (texts_of c.in-Ok.fresh.items) (fresh_leaves c.args.window.now) (ap texts_of c.fresh_for.ensures.same) (ap texts_of (c.in-Ok.ensures.fresh ∙ ap (λ (n : ℕ). map (input_for c.args.count n) (fresh_leaves c.args.window.now)) c.setting.ensures) ∙ texts-for c.args.count (g.J.Job.setting c.args.job.now) (fresh_leaves c.args.window.now)) c.bring_fresh.ensures.counted

pub returns-in-Ok-take_shift-clause-parts_counted : goal.returns-in-Ok-take_shift-clause-parts_counted
returns-in-Ok-take_shift-clause-parts_counted g c =
    moved-three (λ (n : ℕ) (h : Shift) (f : List Leaf). PartsCounted g.T.Tree.view g.J.Meter.Meter.counts (meaning_of g.J.Job c.args.job.now) n (bound_of g.T.Tree.view g.T.Tree.bound) g.T.Tree.tight h f c.args.parts.now.items c.take_shift.new.parts.items c.args.part_meters.now.items c.take_shift.new.meters.items) (length c.args.parts.now.items) c.args.count c.shift-shift.result.now (shift_of c.args.window.now) (texts_of c.in-Ok.fresh.items) (fresh_leaves c.args.window.now) (sym c.requires.count) c.shift-shift.ensures.shift (ap texts_of (c.in-Ok.ensures.fresh ∙ ap (λ (n : ℕ). map (input_for c.args.count n) (fresh_leaves c.args.window.now)) c.setting.ensures) ∙ texts-for c.args.count (g.J.Job.setting c.args.job.now) (fresh_leaves c.args.window.now)) c.take_shift.ensures.counted

pub returns-in-Err-take_shift-clause-leaf_sweep : goal.returns-in-Err-take_shift-clause-leaf_sweep
returns-in-Err-take_shift-clause-leaf_sweep g c =
    (c.in-Ok-bring_fresh.ensures.sweep.0, sweep-failed _ _ _ false c.in-Ok-bring_fresh.ensures.sweep.1)

pub returns-in-Err-take_shift-clause-merge_sweep : goal.returns-in-Err-take_shift-clause-merge_sweep
returns-in-Err-take_shift-clause-merge_sweep g c =
    c.in-Err-take_shift.ensures.sweep

pub returns-in-Ok-take_shift-clause-leaf_sweep : goal.returns-in-Ok-take_shift-clause-leaf_sweep
returns-in-Ok-take_shift-clause-leaf_sweep g c =
    c.in-Ok-bring_fresh.ensures.sweep

pub returns-in-Ok-take_shift-clause-merge_sweep : goal.returns-in-Ok-take_shift-clause-merge_sweep
returns-in-Ok-take_shift-clause-merge_sweep g c =
    c.in-Ok-take_shift.ensures.sweep

pub returns-in-Ok-take_shift-clause-brought : goal.returns-in-Ok-take_shift-clause-brought
returns-in-Ok-take_shift-clause-brought g c =
    moved-three (λ (f : List Leaf) (h : Shift) (l : List Leaf). EachAt (λ k (s : LaneSeat _ _ _). IsBroughtLane f (left [] h l) k s.lane) c.bring_fresh.new.lanes.items) (texts_of c.in-Ok.fresh.items) (fresh_leaves c.args.window.now) c.shift-shift.result.now (shift_of c.args.window.now) (texts_of c.fresh_for.new.leaves.items) (texts_of c.args.leaves.now.items) (ap texts_of (c.in-Ok.ensures.fresh ∙ ap (λ (n : ℕ). map (input_for c.args.count n) (fresh_leaves c.args.window.now)) c.setting.ensures) ∙ texts-for c.args.count (g.J.Job.setting c.args.job.now) (fresh_leaves c.args.window.now)) c.shift-shift.ensures.shift (ap texts_of c.fresh_for.ensures.same) c.in-Ok-bring_fresh.ensures.ok

pub returns-in-Ok-take_shift-clause-took : goal.returns-in-Ok-take_shift-clause-took
returns-in-Ok-take_shift-clause-took g c =
    moved-three (λ (n : ℕ) (h : Shift) (f : List Leaf). EachPair (λ p (s t : PartSeat _ _ _ _). IsShiftedPart g.T.Tree.view (meaning_of g.J.Job c.args.job.now) n g.T.Tree.shaped h f p s.tree t.tree) c.args.parts.now.items c.take_shift.new.parts.items) (length c.args.parts.now.items) c.args.count c.shift-shift.result.now (shift_of c.args.window.now) (texts_of c.in-Ok.fresh.items) (fresh_leaves c.args.window.now) (sym c.requires.count) c.shift-shift.ensures.shift (ap texts_of (c.in-Ok.ensures.fresh ∙ ap (λ (n : ℕ). map (input_for c.args.count n) (fresh_leaves c.args.window.now)) c.setting.ensures) ∙ texts-for c.args.count (g.J.Job.setting c.args.job.now) (fresh_leaves c.args.window.now)) c.in-Ok-take_shift.ensures.ok

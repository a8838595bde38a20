use Rattle.std.proofs.Common.{◌≡◌, ℕ, ◌+◌, ◌≤◌, All, length, take, drop}
use Rattle.definitions.specs.Answer.{pairs_of}
use Rattle.job_laws.specs.Counted.{RoseBy}
use Rattle.job_laws.specs.Meanings.{meaning_of}
use Rattle.pin_table.specs.Covers.{IsLater}
use Rattle.window_manager.specs.Windows.{Leaf}
use Rattle.map_tasks.specs.Texts.{IsMappedSo, used_of, came_of, gone_of}
use Rattle.run_engine.specs.NewTexts.{times}
use Rattle.run_engine.specs.Inputs.{texts_of}
use Rattle.run_engine.specs.LaneTasks.{new_weight}
use Rattle.run_engine.proofs.lane_worker.bring_each.Given as goal

abbrev pub invariant-fresh : goal.invariant-fresh
invariant-fresh g l = record {
  maps : ℕ;
  joins : ℕ;
  rose : RoseBy maps 0 joins (g.J.Meter.Meter.counts l.initial.meter) (g.J.Meter.Meter.counts l.meter);
  maps_left : maps + new_weight length l.lane.texts (drop l.i l.fresh.items) ≤ new_weight length l.initial.lane.texts l.fresh.items;
  joins_left : joins + new_weight (λ t. length (pairs_of (meaning_of g.J.Job l.worker.job.now).emits t)) l.lane.texts (drop l.i l.fresh.items) ≤ new_weight (λ t. length (pairs_of (meaning_of g.J.Job l.worker.job.now).emits t)) l.initial.lane.texts l.fresh.items;
  later : IsLater l.initial.lane.caller l.lane.caller;
  mapped : All (IsMappedSo l.worker.parts (g.J.Job.setting l.worker.job.now)) l.lane.texts;
  used : (t : Leaf) → used_of t l.lane.texts ≡ used_of t l.initial.lane.texts;
  went : (t : Leaf) → gone_of t l.lane.texts ≡ gone_of t l.initial.lane.texts;
  came : (t : Leaf) → came_of t l.lane.texts ≡ came_of t l.initial.lane.texts + times t (texts_of (take l.i l.fresh.items));
}

use Rattle.std.proofs.Common.{◌≡◌, ◌+◌, take}
use Rattle.window_manager.specs.Windows.{Leaf}
use Rattle.map_tasks.specs.Texts.{used_of, came_of, gone_of}
use Rattle.map_tasks.specs.Lanes.{StayMappedSo}
use Rattle.run_engine.specs.NewTexts.{times}
use Rattle.run_engine.specs.Inputs.{texts_of}
use Rattle.run_engine.proofs.lane_worker.leave_each.Given as goal

abbrev pub invariant-gone : goal.invariant-gone
invariant-gone g l = record {
  caller : l.lane.caller ≡ l.initial.lane.caller;
  mapped : StayMappedSo l.initial.lane.texts l.lane.texts;
  used : (t : Leaf) → used_of t l.lane.texts ≡ used_of t l.initial.lane.texts;
  came : (t : Leaf) → came_of t l.lane.texts ≡ came_of t l.initial.lane.texts;
  went : (t : Leaf) → gone_of t l.lane.texts ≡ gone_of t l.initial.lane.texts + times t (texts_of (take l.i l.gone.items));
}

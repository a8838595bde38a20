use Rattle.std.proofs.Common.{◌≡◌, All}
use Rattle.map_tasks.specs.Texts.{IsMappedSo}
use Rattle.map_tasks.proofs.tests.comes_and_goes.Given as goal

abbrev pub invariant-rounds : goal.invariant-rounds
invariant-rounds g l = record {
  of : l.lane.caller.locks ≡ l.memo.locks;
  mapped : All (IsMappedSo 2 3) l.lane.texts;
}

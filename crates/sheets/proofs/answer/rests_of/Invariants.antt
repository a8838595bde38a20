use Rattle.std.proofs.Common.{◌≡◌, take, All}
use Rattle.definitions.specs.Tables.{HasGoodValues, IsRising}
use Rattle.sheets.specs.United.{tables_of}
use Rattle.sheets.proofs.answer.rests_of.Given as goal

abbrev pub invariant-roots : goal.invariant-roots
invariant-roots g l = record {
  tables : l.rests.items ≡ tables_of (take l.i l.roots);
  rising : All IsRising l.rests.items;
  good : All (HasGoodValues (g.J.Job.good (g.J.Job.setting l.job))) l.rests.items;
}

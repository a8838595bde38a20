use Rattle.std.proofs.Common.{◌≡◌, All}
use Rattle.std.specs.Prelude.{map}
use Rattle.definitions.specs.Tables.{IsRising, HasGoodValues}
use Rattle.sheets.proofs.parts.sheets_of_parts.Given as goal

abbrev pub invariant-lists : goal.invariant-lists
invariant-lists g l = record {
  sheets : l.sheets.items ≡ map (λ t. record { setting = l.fn.setting; entries = t }) l.yielded;
  rising : All IsRising l.list-iterator.rest.items;
  good : All (HasGoodValues (g.J.Job.good l.fn.setting)) l.list-iterator.rest.items;
}

use Rattle.std.proofs.Common.{◌≡◌, ℕ, ◌<◌, get_or}
use Rattle.sheets.specs.Sheets.{SheetOf}
use Rattle.tree_tests.proofs.desk.all_of.Given as goal

abbrev pub invariant-sheets : goal.invariant-sheets
invariant-sheets g l = (k : ℕ) (d : SheetOf g.row.J-Val.Denot) → k < l.i → (get_or l.sheets k d).setting ≡ l.setting

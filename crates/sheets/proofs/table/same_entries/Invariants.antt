use Rattle.std.proofs.Common.{◌≡◌, ◌+◌, length}
use Rattle.sheets.proofs.table.same_entries.Given as goal

abbrev pub invariant-entries : goal.invariant-entries
invariant-entries g l = record {
  there : l.left ≡ l.right → l.a ≡ l.b;
  back : l.a ≡ l.b → l.left ≡ l.right;
}

abbrev pub decreases-entries : goal.decreases-entries
decreases-entries g l = length l.left + length l.right

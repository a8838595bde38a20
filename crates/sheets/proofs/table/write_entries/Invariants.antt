use Rattle.std.proofs.Common.{◌≡◌, ◌++◌, List, ℕ, length}
use Rattle.definitions.specs.Answer.{lines_of}
use Rattle.definitions.specs.Tables.{HasGoodValues}
use Rattle.sheets.proofs.table.write_entries.Given as goal

abbrev pub invariant-entries : goal.invariant-entries
invariant-entries g l = record {
  good : HasGoodValues (g.J.Job.good (g.J.Job.setting l.job)) l.rest;
  lines : (gain : List ℕ) × (l.out.items ≡ l.initial.out.items ++ gain) × (lines_of (g.J.Job.text (g.J.Job.setting l.job)) l.entries ≡ gain ++ lines_of (g.J.Job.text (g.J.Job.setting l.job)) l.rest);
}

abbrev pub decreases-entries : goal.decreases-entries
decreases-entries g l = length l.rest

use Rattle.std.proofs.Common.{◌≡◌, ◌≤◌, ◌+◌, ◌++◌, length}
use Rattle.definitions.specs.Tables.{HasGoodValues, merge_in_order}
use Rattle.sheets.specs.Sheets.{ties}
use Rattle.sheets.proofs.merging.merge_entries.Given as goal

abbrev pub invariant-entries : goal.invariant-entries
invariant-entries g l =
    let old = g.J.Meter.Meter.counts l.initial.m in
    let now = g.J.Meter.Meter.counts l.m in
    record {
      left : HasGoodValues (g.J.Job.good (g.J.Job.setting l.job)) l.left;
      right : HasGoodValues (g.J.Job.good (g.J.Job.setting l.job)) l.right;
      rest : l.out.items ++ merge_in_order (g.J.Job.joined (g.J.Job.setting l.job)) l.left l.right ≡ merge_in_order (g.J.Job.joined (g.J.Job.setting l.job)) l.a l.b;
      maps : now.maps ≡ old.maps;
      merges : now.merges ≡ old.merges;
      least : old.joins ≤ now.joins;
      most : now.joins + ties l.left l.right ≤ old.joins + ties l.a l.b;
    }

abbrev pub decreases-entries : goal.decreases-entries
decreases-entries g l = length l.left + length l.right

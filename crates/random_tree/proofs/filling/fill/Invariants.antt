use Rattle.std.proofs.Common.{◌≡◌, ◌-◌, ◌≤◌, length, map}
use Rattle.tree_laws.specs.Pairs.{pair_digest}
use Rattle.random_tree.specs.Levels.{IsBoundary, taken, group_table}
use Rattle.random_tree.specs.Steps.{GainsGroups}
use Rattle.random_tree.proofs.FillLaws.{IsFilling}
use Rattle.random_tree.proofs.filling.fill.Given as goal

abbrev pub invariant-groups : goal.invariant-groups
invariant-groups g l = record {
  of : l.caller.locks ≡ l.memo.locks;
  fills : IsFilling g.J.Job.joined (g.J.Job.setting l.job) g.J.Job.encoded (map group_table (taken l.below)) l.fn.kept.members l.at l.initial.caller l.caller (g.J.Meter.Meter.counts l.initial.m) (g.J.Meter.Meter.counts l.m) l.fresh.items;
  gains : GainsGroups (pair_digest g.J.Job.encoded) l.initial.caller l.caller l.initial.fresh.items l.fresh.items;
  met : IsBoundary l.old l.met;
  later : l.fn.kept.groups ≤ l.met.groups;
  within : l.at ≤ length (taken l.below);
}

abbrev pub decreases-groups : goal.decreases-groups
decreases-groups g l = length (taken l.below) - l.at

use Rattle.std.proofs.Common.{◌≡◌, ◌-◌, true, false, length, map, drop}
use Rattle.pin_table.specs.OwnEvents.{Met}
use Rattle.tree_laws.specs.Pairs.{pair_digest}
use Rattle.tree_laws.specs.Holds.{all_pins}
use Rattle.random_tree.specs.Levels.{taken, group_table, group_loose}
use Rattle.tree_laws.specs.Trades.{Gets}
use Rattle.random_tree.proofs.GrowLaws.{IsGrowing}
use Rattle.random_tree.proofs.growing.grow.Given as goal

abbrev pub invariant-members : goal.invariant-members
invariant-members g l = record {
  of : l.caller.locks ≡ l.memo.locks;
  grows : IsGrowing g.J.Job.joined (g.J.Job.setting l.job) g.J.Job.encoded (drop l.from (map group_table (taken l.below))) l.initial.caller l.caller (g.J.Meter.Meter.counts l.initial.m) (g.J.Meter.Meter.counts l.m) l.group;
  opened : l.group.ended ≡ false;
  gets : Gets l.initial.caller (all_pins (pair_digest g.J.Job.encoded) l.group.holds.items) l.caller;
  loose : group_loose l.group ≡ true → Met l.initial.caller l.caller;
}

abbrev pub decreases-members : goal.decreases-members
decreases-members g l = length (taken l.below) - length l.group.holds.items

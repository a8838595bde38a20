use Rattle.std.proofs.Common.{◌≡◌, ◌≤◌, length, take, vec_len}
use Rattle.pin_table.specs.Covers.{Covered, Balanced}
use Rattle.tree_laws.specs.Pairs.{pair_digest}
use Rattle.random_tree.specs.Levels.{groups_pins}
use Rattle.random_tree.proofs.settling.drop_last.Given as goal

abbrev pub invariant-groups : goal.invariant-groups
invariant-groups g l = record {
  of : l.caller.locks ≡ l.memo.locks;
  items : l.groups.items ≡ take (length l.groups.items) l.initial.groups.items;
  enough : l.left ≤ length l.groups.items;
  few : length l.groups.items ≤ length l.initial.groups.items;
  covered : Covered l.caller (groups_pins (pair_digest g.J.Job.encoded) l.groups.items);
  balanced : Balanced l.initial.caller (groups_pins (pair_digest g.J.Job.encoded) l.initial.groups.items) l.caller (groups_pins (pair_digest g.J.Job.encoded) l.groups.items);
}

abbrev pub decreases-groups : goal.decreases-groups
decreases-groups g l = vec_len l.groups

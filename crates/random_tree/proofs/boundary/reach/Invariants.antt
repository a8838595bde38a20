use Rattle.std.proofs.Common.{◌-◌, ◌≤◌, length}
use Rattle.random_tree.specs.Levels.{IsBoundary}
use Rattle.random_tree.proofs.boundary.reach.Given as goal

abbrev pub invariant-groups : goal.invariant-groups
invariant-groups g l = record {
  boundary : IsBoundary l.groups l.reached;
  later : l.fn.from.groups ≤ l.reached.groups;
}

abbrev pub decreases-groups : goal.decreases-groups
decreases-groups g l = length l.groups - l.reached.groups

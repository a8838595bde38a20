use Rattle.std.proofs.Common.{◌≡◌, ◌-◌, ◌≤◌, true, length, take}
use Rattle.std.specs.List.{All}
use Rattle.random_tree.specs.Levels.{IsBoundary}
use Rattle.random_tree.proofs.boundary.kept_before.Given as goal

abbrev pub invariant-groups : goal.invariant-groups
invariant-groups g l = record {
  boundary : IsBoundary l.groups l.kept;
  within : l.kept.members ≤ l.members;
  ended : All (λ h. h.ended ≡ true) (take l.kept.groups l.groups);
}

abbrev pub decreases-groups : goal.decreases-groups
decreases-groups g l = length l.groups - l.kept.groups

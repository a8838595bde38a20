use Rattle.std.proofs.Common.{◌-◌, vec_len}
use Rattle.random_tree.specs.Steps.{AddsLevels}
use Rattle.random_tree.proofs.raising.add_levels.Given as goal

abbrev pub invariant-levels : goal.invariant-levels
invariant-levels g l = AddsLevels l.initial.levels.items l.levels.items

abbrev pub decreases-levels : goal.decreases-levels
decreases-levels g l = l.needed - vec_len l.levels

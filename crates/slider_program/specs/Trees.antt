-- What each tree costs, by its name. The kind of its window is `kind_of` in `program_words`.
use Rattle.std.specs.Prelude.{◌≡◌, ℕ, ◌*◌, ◌-◌}
use Rattle.record_text.specs.declared.kind.Kind.{Kind}
use Rattle.record_text.specs.declared.shift.Shift.{Shift}
use Rattle.tree_laws.specs.Trees.{Shape, no_shape}
use Rattle.coalescing_tree.specs.Growing.{fresh_of}
use Rattle.rotating_tree.specs.Circles.{changed_of}
use Rattle.rotating_tree.specs.Levels.{levels}
use Rattle.folding_tree.specs.Shapes.{shaped, merges_of}
use Rattle.random_tree.specs.Levels.{count_after}
use Rattle.program_words.specs.declared.plan.TreeName.{TreeName}
use Rattle.program_words.specs.declared.plan.TreeName.TheVariants.{Folding, Random, Rotating, Coalescing}
use Rattle.program_words.specs.Plans.{kind_of}

-- The most merges of each part in a run, by the places of the window, the shape and the number of the leaves before it, and
-- its shift.
abbrev pub bound_for : TreeName → ℕ → Shape → ℕ → Shift → ℕ
bound_for Folding places shape count shift = merges_of shape shift
bound_for Random places shape count shift = count_after shift count - 1
bound_for Rotating places shape count shift = changed_of shift * levels places
bound_for Coalescing places shape count shift = fresh_of shift

-- The shape of the leaves after a shift.
abbrev pub shape_for : TreeName → Shape → Shift → Shape
shape_for Folding shape shift = shaped shape shift
shape_for Random shape shift = no_shape
shape_for Rotating shape shift = no_shape
shape_for Coalescing shape shift = no_shape

-- Trees for windows of this kind with these bounds are rotating trees.
pub record Rotates (kind : Kind) (bound : ℕ → Shape → ℕ → Shift → ℕ) (shaped : Shape → Shift → Shape) : Type 0 where
  pub kind_is : kind ≡ kind_of Rotating
  pub bound_is : bound ≡ bound_for Rotating
  pub shaped_is : shaped ≡ shape_for Rotating

-- Leaves put into drafts, one after the other.
use Rattle.std.proofs.Common.{ℕ, ◌+◌, ◌≤◌, arith, ◌∙◌, List, refl}
use Rattle.tree_laws.specs.Pairs.{PairOf}
use Rattle.rotating_tree.specs.declared.node.Node.{Node}
use Rattle.rotating_tree.specs.Nodes.{IsStaged}
use Rattle.rotating_tree.specs.Circles.{IsStagedBy}

module _ {J V M : Type 0} (digest_of : PairOf V → List ℕ) where
  pub staged-none : (n : ℕ) (x : Node J V M) → IsStaged x → IsStagedBy digest_of n 0 x x
  staged-none n x s = record { kept = refl; rest = refl; staged = s; few = omega arith; pins = refl; loose = λ e. e }

  pub staged-then : (n a b : ℕ) (x y z : Node J V M) → IsStagedBy digest_of n a x y → IsStagedBy digest_of n b y z → IsStagedBy digest_of n (a + b) x z
  staged-then n a b x y z f g = record {
    kept = g.kept ∙ f.kept;
    rest = g.rest ∙ f.rest;
    staged = g.staged;
    few = omega (arith, f.few, g.few);
    pins = g.pins ∙ f.pins;
    loose = λ e. f.loose (g.loose e);
  }

  pub staged-more : (n a b : ℕ) (x y : Node J V M) → a ≤ b → IsStagedBy digest_of n a x y → IsStagedBy digest_of n b x y
  staged-more n a b x y le f = record { kept = f.kept; rest = f.rest; staged = f.staged; few = omega (arith, le, f.few); pins = f.pins; loose = f.loose }

-- Lists of documents of which one has ended.
use Rattle.std.proofs.Common.{◌≡◌, ℕ, ◌<◌, List, [], ◌∷◌, ◌++◌, length, refl, sym, ◌∙◌, arith, append-nil}
use Rattle.jobs_basic.specs.Index.{union}
use Rattle.jobs_basic.specs.IndexLaws.{none_right}

-- a list that has ended leaves the other
pub union_left : (a b : List ℕ) → length a < 1 → union a b ≡ a ++ b
union_left [] b h = refl
union_left (d ∷ ds) b h = absurd (omega (arith, h))

pub union_right : (a b : List ℕ) → length b < 1 → union a b ≡ a ++ b
union_right a [] h = none_right a ∙ sym (append-nil a)
union_right a (e ∷ es) h = absurd (omega (arith, h))

-- The pairs of records end to end.
use Rattle.std.proofs.Common.{◌≡◌, ℕ, List, [], ◌∷◌, ◌++◌, refl, sym, ap, ◌∙◌, append_assoc}
use Rattle.definitions.specs.Tables.{HasGoodValues}
use Rattle.definitions.specs.Answer.{pairs_of}

module _ {V : Type 0} (emits : List ℕ → List (List ℕ × V)) where
  -- the pairs of two lists of records are those of the first, then those of the second
  pub pairs_of-append : (xs ys : List (List ℕ)) → pairs_of emits (xs ++ ys) ≡ pairs_of emits xs ++ pairs_of emits ys
  pairs_of-append [] ys = refl
  pairs_of-append (x ∷ xs) ys = ap (λ (ps : List (List ℕ × V)). emits x ++ ps) (pairs_of-append xs ys) ∙ sym (append_assoc (emits x) (pairs_of emits xs) (pairs_of emits ys))

-- values are good in both parts of a list of entries
pub good-append : {V : Type 0} (good : V → Type 0) (xs ys : List (List ℕ × V)) → HasGoodValues good xs → HasGoodValues good ys → HasGoodValues good (xs ++ ys)
good-append good [] ys g h = h
good-append good (x ∷ xs) ys g h = (g.0, good-append good xs ys g.1 h)

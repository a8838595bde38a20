-- The pairs of records, one record after another.
use Rattle.std.proofs.Common.{◌≡◌, ℕ, ◌+◌, ◌<◌, Bool, true, List, [], ◌∷◌, ◌++◌, length, get_or, take, ap, ◌∙◌, arith, append-nil, All}
use Rattle.std.proofs.lemmas.List.{take_more}
use Rattle.std.proofs.lemmas.List.Elements.{All-tail}
use Rattle.definitions.specs.Tables.{HasGoodValues}
use Rattle.definitions.specs.Answer.{pairs_of}
use Rattle.definitions.proofs.AnswerLaws.{pairs_of-append, good-append}

module _ {V : Type 0} (emits : List ℕ → List (List ℕ × V)) where
  -- the pairs of accepted records are good
  pub good_pairs : (good : V → Type 0) (accepts : List ℕ → Bool) → ((r : List ℕ) → accepts r ≡ true → HasGoodValues good (emits r)) → (rs : List (List ℕ)) → All (λ r. accepts r ≡ true) rs → HasGoodValues good (pairs_of emits rs)
  good_pairs good accepts law [] all = tt
  good_pairs good accepts law (r ∷ rs) all = good-append good (emits r) (pairs_of emits rs) (law r (all 0 [] (omega arith))) (good_pairs good accepts law rs (All-tail (λ r. accepts r ≡ true) r rs all))

  -- the pairs of one record more
  pub pairs_of-more : (rs : List (List ℕ)) (i : ℕ) → i < length rs → pairs_of emits (take (i + 1) rs) ≡ pairs_of emits (take i rs) ++ emits (get_or rs i [])
  pairs_of-more rs i lt =
      ap (pairs_of emits) (take_more rs i [] lt)
      ∙ pairs_of-append emits (take i rs) (get_or rs i [] ∷ [])
      ∙ ap (λ ps. pairs_of emits (take i rs) ++ ps) (append-nil (emits (get_or rs i [])))

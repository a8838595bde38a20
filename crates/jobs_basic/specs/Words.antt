-- The words of a text, one after the other, and pairs with words.
use Rattle.std.specs.Prelude.{◌≡◌, ◌≤◌, ℕ, ◌+◌, true, false, if◌then◌else◌, List, [], ◌∷◌, ◌++◌, length, map, Option, Some, None}
use Rattle.std.specs.Borrow.{Bor}
use Rattle.definitions.specs.Records.{is_word_byte, word_before, words_behind, words_of}
use Rattle.definitions.specs.Tables.{HasGoodValues}

-- The first word of a text, which is not empty, and what follows it; nothing if the text has no word.
abbrev pub SplitsWord : List ℕ → Option (Bor (List ℕ) × Bor (List ℕ)) → Type 0
SplitsWord text None = words_of text ≡ []
SplitsWord text (Some split) = (words_of text ≡ split.0.now ∷ words_of split.1.now) × (1 ≤ length split.0.now) × (length split.0.now + length split.1.now ≤ length text)

module _ {V : Type 0} (good : V → Type 0) (pair : List ℕ → List ℕ × V) (each : (word : List ℕ) → good (pair word).1) where
  good_before : (prefix : List ℕ) (words : List (List ℕ)) → HasGoodValues good (map pair words) → HasGoodValues good (map pair (word_before prefix words))
  good_before [] words h = h
  good_before (b ∷ bs) words h = (each (b ∷ bs), h)

  good_behind : (prefix text : List ℕ) → HasGoodValues good (map pair (words_behind prefix text))
  good_behind prefix [] = good_before prefix [] tt
  good_behind prefix (b ∷ bs) = elim (is_word_byte b) as (λ c. HasGoodValues good (map pair (if c then words_behind (prefix ++ b ∷ []) bs else word_before prefix (words_behind [] bs)))) [
    | true ↦ good_behind (prefix ++ b ∷ []) bs
    | false ↦ good_before prefix (words_behind [] bs) (good_behind [] bs)
  ]

  -- Pairs of the words of a text are good if the pair of each word is.
  pub good_words : (text : List ℕ) → HasGoodValues good (map pair (words_of text))
  good_words text = good_behind [] text

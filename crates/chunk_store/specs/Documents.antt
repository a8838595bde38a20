-- Documents: lists of records in chunks, and what an edit makes of them.
use Rattle.std.specs.Prelude.{◌≡◌, ◌<◌, ◌≤◌, ℕ, ◌+◌, List, ◌++◌, length, take, drop, Result, Ok, Err}
use Rattle.definitions.specs.Records.{text_of}
use Rattle.marker_chunker.specs.Cuts.{joined, reach}
use Rattle.chunk_store.specs.declared.change.Change.{Change}
use Rattle.chunk_store.specs.declared.change.EditFault.{EditFault}
use Rattle.chunk_store.specs.declared.change.EditFault.TheVariants.{TooMany, WindowLarge, Mem}

-- The records with `del` of them from place `at` on replaced.
abbrev pub spliced : ℕ → ℕ → List (List ℕ) → List (List ℕ) → List (List ℕ)
spliced at del ins rs = take at rs ++ (ins ++ drop (at + del) rs)

-- How many bytes of text the records of these chunks have.
abbrev pub text_size : List (List (List ℕ)) → ℕ
text_size cs = length (text_of (joined cs))

-- The result of a call, where `many` and `large` say what is refused: `TooMany` comes before `WindowLarge`, and out of
-- memory may come at any time.
abbrev pub Answers : Type 0 → Type 0 → Result Change EditFault → Type 0
Answers many large (Ok change) = (many → ⊥) × (large → ⊥)
Answers many large (Err TooMany) = many
Answers many large (Err WindowLarge) = (many → ⊥) × large
Answers many large (Err Mem) = (many → ⊥) × (large → ⊥)

-- The chunks before the changed ones and those after them are the old ones.
pub record IsSplice (olds news : List (List (List ℕ))) (change : Change) : Type 0 where
  pub within : change.first + change.gone ≤ length olds
  pub fits : change.first + change.fresh ≤ length news
  pub before : take change.first news ≡ take change.first olds
  pub behind : drop (change.first + change.fresh) news ≡ drop (change.first + change.gone) olds

-- What an edit changes in the chunks: `first` old ones come before the one that holds record `at - 1`; `gone` is the
-- least number with which the old chunks reach past the edit, to a place where `fresh` new chunks end too.
pub record IsChange (at del : ℕ) (ins : List (List ℕ)) (olds news : List (List (List ℕ))) (change : Change) : Type 0 where
  pub begins : at ≡ 0 → change.first ≡ 0
  pub holds : 0 < at → (reach change.first olds < at) × (at ≤ reach (change.first + 1) olds)
  pub far : at + del ≤ reach (change.first + change.gone) olds
  pub meets : reach (change.first + change.fresh) news + del ≡ reach (change.first + change.gone) olds + length ins
  pub least : (g q : ℕ) → g < change.gone → at + del ≤ reach (change.first + g) olds → reach q news + del ≡ reach (change.first + g) olds + length ins → ⊥

-- All old chunks became all new ones, where `before` chunks of others come before them.
abbrev pub IsWhole : ℕ → List (List (List ℕ)) → List (List (List ℕ)) → Change → Type 0
IsWhole before olds news change = (change.first ≡ before) × (change.gone ≡ length olds) × (change.fresh ≡ length news)

-- None of the old chunks `from` to `last` begins where a new one does; the new records have `size` more than the old
-- ones before.
abbrev pub NoMeeting : List (List (List ℕ)) → ℕ → ℕ → List (List (List ℕ)) → ℕ → Type 0
NoMeeting olds from last news size = (g q : ℕ) → from ≤ g → g < last → reach q news + reach from olds ≡ size + reach g olds → ⊥

-- Which old chunks were cut again, from `first` to `last`.
pub record IsRecut (at del : ℕ) (ins : List (List ℕ)) (olds news : List (List (List ℕ))) (first last : ℕ) : Type 0 where
  pub begins : at ≡ 0 → first ≡ 0
  pub holds : 0 < at → (reach first olds < at) × (at ≤ reach (first + 1) olds)
  pub ordered : first ≤ last
  pub far : at + del ≤ reach last olds
  pub least : (g q : ℕ) → first + g < last → at + del ≤ reach (first + g) olds → reach q news + del ≡ reach (first + g) olds + length ins → ⊥

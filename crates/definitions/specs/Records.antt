-- Records, their text and their words.
use Rattle.std.specs.Prelude.{◌≢◌, ◌≤◌, ℕ, Bool, ◌&&◌, ◌||◌, nat_le, if◌then◌else◌, List, [], ◌∷◌, ◌++◌, length, All}
use Rattle.definitions.specs.Limits.{most_record}

-- A record has at most 65535 bytes, and none of them is LF.
abbrev pub IsRecord : List ℕ → Type 0
IsRecord bytes = (length bytes ≤ most_record) × All (λ b. b ≢ 10) bytes

-- They are all records.
abbrev pub AllRecords : List (List ℕ) → Type 0
AllRecords records = All IsRecord records

-- The text of records: the bytes of each and one LF, end to end.
abbrev pub text_of : List (List ℕ) → List ℕ
text_of [] = []
text_of (r ∷ rs) = r ++ 10 ∷ text_of rs

-- A byte of a word is a letter from A to Z or from a to z, or a digit.
abbrev pub is_word_byte : ℕ → Bool
is_word_byte b = (nat_le 65 b && nat_le b 90) || (nat_le 97 b && nat_le b 122) || (nat_le 48 b && nat_le b 57)

-- A word that has ended comes before the words after it, unless it is empty.
abbrev pub word_before : List ℕ → List (List ℕ) → List (List ℕ)
word_before [] words = words
word_before (b ∷ bs) words = (b ∷ bs) ∷ words

-- The words of bytes that follow the prefix of a word.
abbrev pub words_behind : List ℕ → List ℕ → List (List ℕ)
words_behind prefix [] = word_before prefix []
words_behind prefix (b ∷ bs) = if is_word_byte b then words_behind (prefix ++ b ∷ []) bs else word_before prefix (words_behind [] bs)

-- The words of a record: its longest runs of such bytes, in order.
abbrev pub words_of : List ℕ → List (List ℕ)
words_of record' = words_behind [] record'

-- The job `count`: how often each word occurs.
use Rattle.std.specs.Prelude.{◌≡◌, ◌≤◌, ℕ, ◌+◌, ◌-◌, ◌^◌, min, List, map, decimal}
use Rattle.std.proofs.Common.{arith}
use Rattle.definitions.specs.Records.{words_of}
use Rattle.definitions.specs.Tables.{HasGoodValues, IsGoodJoin}
use Rattle.job_laws.specs.Encoding.{be64}
use Rattle.jobs_basic.specs.Lines.{line_of}
use Rattle.jobs_basic.specs.Words.{good_words}

-- A word occurs once.
abbrev pub once : List ℕ → List ℕ × ℕ
once word = (word, 1)

-- Each word of the record in order, with 1.
abbrev pub count_emits : List ℕ → List (List ℕ × ℕ)
count_emits r = map once (words_of r)

-- The sum, up to 2^64 - 1.
abbrev pub count_joined : ℕ → ℕ → ℕ
count_joined a b = min (a + b) (2 ^ 64 - 1)

-- A count is at most 2^64 - 1.
abbrev pub count_good : ℕ → Type 0
count_good n = n ≤ 2 ^ 64 - 1

-- The line of the word with the number.
abbrev pub count_text : List ℕ → ℕ → List ℕ
count_text word n = line_of word (decimal n)

-- The number as 8 bytes.
abbrev pub count_encoded : ℕ → List ℕ
count_encoded n = be64 n

-- Emitted counts are good.
pub count_emits_good : (r : List ℕ) → HasGoodValues count_good (count_emits r)
count_emits_good r = good_words count_good once (λ word. omega arith) r

-- Joining keeps good counts, and is associative on them.
pub count_join_laws : IsGoodJoin count_good count_joined
count_join_laws = record { keeps = keeps_good; assoc = assoc_good }
  where
    keeps_good : (a b : ℕ) → count_good a → count_good b → count_good (count_joined a b)
    keeps_good a b g h = omega arith

    assoc_good : (a b c : ℕ) → count_good a → count_good b → count_good c → count_joined (count_joined a b) c ≡ count_joined a (count_joined b c)
    assoc_good a b c g h i = omega arith

-- Joining is commutative.
pub count_joined_comm : (a b : ℕ) → count_joined a b ≡ count_joined b a
count_joined_comm a b = omega arith

-- The job `index`: in which documents each word occurs.
use Rattle.std.specs.Prelude.{◌≤◌, ℕ, cond, suc, nat_lt, List, [], ◌∷◌, ◌++◌, map, decimal, Option, Some, None}
use Rattle.std.specs.List.{flat_map}
use Rattle.definitions.specs.Records.{words_of}
use Rattle.definitions.specs.Numbers.{digits_value}
use Rattle.job_laws.specs.Forms.{split_at_tab}
use Rattle.job_laws.specs.Encoding.{be32}
use Rattle.jobs_basic.specs.Lines.{line_of}

-- A word with the list of one document.
abbrev pub in_document : ℕ → List ℕ → List ℕ × List ℕ
in_document doc word = (word, doc ∷ [])

-- Each word of the text, if there is a TAB.
abbrev pub text_pairs : Option (List ℕ × List ℕ) → List (List ℕ × List ℕ)
text_pairs None = []
text_pairs (Some p) = map (in_document (digits_value p.0)) (words_of p.1)

-- Each word of the text in order, with the list of the document alone.
abbrev pub index_emits : List ℕ → List (List ℕ × List ℕ)
index_emits r = text_pairs (split_at_tab r)

-- A document and the union of the rest after it with the others: each at its place, and once if both have it.
abbrev pub union_into : ℕ → (List ℕ → List ℕ) → List ℕ → List ℕ
union_into d rest [] = d ∷ rest []
union_into d rest (e ∷ es) = cond (nat_lt d e) (d ∷ rest (e ∷ es)) (cond (nat_lt e d) (e ∷ union_into d rest es) (d ∷ rest es))

-- The union of two rising lists.
abbrev pub union : List ℕ → List ℕ → List ℕ
union [] es = es
union (d ∷ ds) es = union_into d (union ds) es

-- The union.
abbrev pub index_joined : List ℕ → List ℕ → List ℕ
index_joined a b = union a b

-- Numbers that strictly rise from a least one up to 4294967295.
abbrev pub RisesFrom : ℕ → List ℕ → Type 0
RisesFrom least [] = Unit {0}
RisesFrom least (d ∷ ds) = (least ≤ d) × (d ≤ 4294967295) × RisesFrom (suc d) ds

-- A strictly rising list of numbers up to 4294967295.
abbrev pub index_good : List ℕ → Type 0
index_good ds = RisesFrom 0 ds

-- A comma and the number.
abbrev pub after_comma : ℕ → List ℕ
after_comma d = 44 ∷ decimal d

-- A comma and the number, for each.
abbrev pub behind_commas : List ℕ → List ℕ
behind_commas ds = flat_map after_comma ds

-- The numbers joined by commas.
abbrev pub with_commas : List ℕ → List ℕ
with_commas [] = []
with_commas (d ∷ ds) = decimal d ++ behind_commas ds

-- The line of the word with the numbers joined by commas.
abbrev pub index_text : List ℕ → List ℕ → List ℕ
index_text word ds = line_of word (with_commas ds)

-- Each document as 4 bytes, in order.
abbrev pub index_encoded : List ℕ → List ℕ
index_encoded ds = flat_map be32 ds

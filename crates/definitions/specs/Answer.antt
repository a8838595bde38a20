-- The answer of a job over records: what mapping, grouping and reducing them from nothing gives. `emits` gives the
-- pairs of a record, `joined` joins two values of a key, and `text` gives the lines of a key.
use Rattle.std.specs.Prelude.{ℕ, List}
use Rattle.std.specs.List.{flat_map}
use Rattle.definitions.specs.Tables.{table_of}

-- The pairs of records: those of each record, in order, end to end.
abbrev pub pairs_of : {V : Type 0} → (List ℕ → List (List ℕ × V)) → List (List ℕ) → List (List ℕ × V)
pairs_of emits records = flat_map emits records

-- The lines of a table, entry by entry.
abbrev pub lines_of : {V : Type 0} → (List ℕ → V → List ℕ) → List (List ℕ × V) → List ℕ
lines_of text table = flat_map (λ e. text e.0 e.1) table

-- The answer over records: the lines of each distinct key with its reduced value, in byte order of the keys.
abbrev pub answer_of : {V : Type 0} → (List ℕ → List (List ℕ × V)) → (V → V → V) → (List ℕ → V → List ℕ) → List (List ℕ) → List ℕ
answer_of emits joined text records = lines_of text (table_of joined (pairs_of emits records))

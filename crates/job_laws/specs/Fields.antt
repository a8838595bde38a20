-- The two fields round the first TAB of a record.
use Rattle.std.specs.Prelude.{ℕ, ◌+◌, cond, nat_lt, List, length, take, drop, Option, Some, None}

-- The bytes before a place and those after it, unless it is the end.
abbrev pub fields_at : ℕ → List ℕ → Option (List ℕ × List ℕ)
fields_at i r = cond (nat_lt i (length r)) (Some (take i r, drop (i + 1) r)) None

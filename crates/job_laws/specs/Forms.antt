-- The form of the records that each job accepts: bytes of a record's length, whose fields are separated by TABs.
use Rattle.std.specs.Prelude.{ℕ, Bool, true, false, ◌&&◌, ◌==◌, cond, nat_le, List, [], ◌∷◌, length, Option, Some, None, option_map}
use Rattle.definitions.specs.Limits.{most_record}
use Rattle.definitions.specs.Numbers.{is_number}

-- The bytes before the first TAB, and those after it.
abbrev pub split_at_tab : List ℕ → Option (List ℕ × List ℕ)
split_at_tab [] = None
split_at_tab (b ∷ bs) = cond (b == 9) (Some ([], bs)) (option_map (λ p. (b ∷ p.0, p.1)) (split_at_tab bs))

-- At least one byte.
abbrev pub has_bytes : List ℕ → Bool
has_bytes [] = false
has_bytes (b ∷ bs) = true

-- A test of both fields, if there is a TAB.
abbrev pub fields_pass : (List ℕ → List ℕ → Bool) → Option (List ℕ × List ℕ) → Bool
fields_pass test None = false
fields_pass test (Some p) = test p.0 p.1

-- At most as many bytes as a record may have.
abbrev pub is_short : List ℕ → Bool
is_short r = nat_le (length r) most_record

-- Count accepts every record.
abbrev pub is_count_record : List ℕ → Bool
is_count_record r = is_short r

-- Index accepts `doc` TAB `text`, if doc is a number.
abbrev pub is_index_record : List ℕ → Bool
is_index_record r = is_short r && fields_pass (λ doc text. is_number doc) (split_at_tab r)

-- Latest accepts `key` TAB `value`, if the key is not empty.
abbrev pub is_latest_record : List ℕ → Bool
is_latest_record r = is_short r && fields_pass (λ key value. has_bytes key) (split_at_tab r)

-- Topk accepts `group` TAB `score` TAB `item`, if the group is not empty and the score is a number.
abbrev pub is_topk_record : List ℕ → Bool
is_topk_record r = is_short r && fields_pass (λ group behind. has_bytes group && fields_pass (λ score item. is_number score) (split_at_tab behind)) (split_at_tab r)

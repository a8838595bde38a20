-- Numbers as scripts and records write them.
use Rattle.std.specs.Prelude.{ℕ, ◌+◌, ◌*◌, ◌-◌, Bool, false, ◌&&◌, not, ◌==◌, nat_le, List, [], ◌∷◌, length, fold}
use Rattle.std.specs.List.{list_all}

-- A digit from 0 to 9.
abbrev pub is_digit : ℕ → Bool
is_digit b = nat_le 48 b && nat_le b 57

-- The value of decimal digits.
abbrev pub digits_value : List ℕ → ℕ
digits_value bytes = fold (λ n b. n * 10 + (b - 48)) 0 bytes

-- There are two bytes or more, and the first is 0.
abbrev pub leads_by_zero : List ℕ → Bool
leads_by_zero [] = false
leads_by_zero (b ∷ []) = false
leads_by_zero (b ∷ c ∷ bs) = b == 48

-- A number has 1 to 10 digits, no leading 0 unless it is 0 alone, and a value up to 4294967295.
abbrev pub is_number : List ℕ → Bool
is_number bytes = nat_le 1 (length bytes) && nat_le (length bytes) 10 && list_all is_digit bytes && not (leads_by_zero bytes) && nat_le (digits_value bytes) 4294967295

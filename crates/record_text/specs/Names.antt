-- Names of files.
use Rattle.std.specs.Prelude.{◌≢◌, ◌≤◌, ℕ, List, length, All}
use Rattle.std.specs.declared.cmp.Ordering.{Ordering}
use Rattle.std.specs.Ordering.{nat_cmp}
use Rattle.std.specs.Cmp.Lexicographic.{slice_cmp}

-- The most bytes of a name.
abbrev pub most_name : ℕ
most_name = 255

-- A name has at most 255 bytes, and none of them is a space or LF.
abbrev pub IsName : List ℕ → Type 0
IsName bytes = (length bytes ≤ most_name) × All (λ b. b ≢ 32) bytes × All (λ b. b ≢ 10) bytes

-- The byte order of names.
abbrev pub name_cmp : List ℕ → List ℕ → Ordering
name_cmp = slice_cmp nat_cmp

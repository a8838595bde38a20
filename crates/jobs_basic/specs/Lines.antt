-- The lines of an answer.
use Rattle.std.specs.Prelude.{ℕ, List, [], ◌∷◌, ◌++◌}

-- The key, TAB, what is written of its value, LF.
abbrev pub line_of : List ℕ → List ℕ → List ℕ
line_of key field' = key ++ (9 ∷ field' ++ 10 ∷ [])

-- Texts of leaves: how often a text occurs, and which texts are new.
use Rattle.std.specs.Prelude.{ℕ, cond, Bool, ◌||◌, List, [], ◌∷◌}
use Rattle.std.specs.List.{sum_by, list_any}
use Rattle.marker_chunker.specs.Cuts.{joined}
use Rattle.window_manager.specs.Windows.{Leaf}
use Rattle.map_tasks.specs.Texts.{same_text}

-- How often a text occurs.
abbrev pub times : Leaf → List Leaf → ℕ
times t leaves = sum_by (λ u. cond (same_text t u) 1 0) leaves

-- The text is that of one of the leaves.
abbrev pub is_among : List Leaf → Leaf → Bool
is_among leaves t = list_any (same_text t) leaves

-- The texts of leaves that were not seen before, each once.
abbrev pub new_texts : (Leaf → Bool) → List Leaf → List Leaf
new_texts seen [] = []
new_texts seen (t ∷ leaves) = cond (seen t) (new_texts seen leaves) (t ∷ new_texts (λ u. same_text u t || seen u) leaves)

-- The records of the leaf texts that no leaf had before, each text once.
abbrev pub new_records : List Leaf → List Leaf → List (List ℕ)
new_records old now = joined (new_texts (is_among old) now)

-- What a tree over tables merges, by the digests of the pairs.
use Rattle.std.specs.Prelude.{ℕ, Bool, cond, nat_le, List, [], ◌∷◌, slice_index}
use Rattle.std.specs.List.{list_any}
use Rattle.std.specs.Str.{bytes_eq}
use Rattle.definitions.specs.Tables.{merged}
use Rattle.sheets.specs.Digests.{table_digest}
use Rattle.tree_laws.specs.Pairs.{PairOf, pair_digest}
use Rattle.random_tree.specs.Groups.{inputs_of}

-- The digests of the second list that the first one lacks, each once.
abbrev pub lacked : List (List ℕ) → List (List ℕ) → List (List ℕ)
lacked old [] = []
lacked old (d ∷ ds) = cond (list_any (bytes_eq d) old) (lacked old ds) (d ∷ lacked (d ∷ old) ds)

module _ {V : Type 0} where
  -- The pair of two tables of one setting.
  abbrev pub pair_at : ℕ → List (List ℕ × V) → List (List ℕ × V) → PairOf V
  pair_at setting t u = record { setting = setting; left = t; right = u }

  module _ (encoded : V → List ℕ) where
    -- The table's digest begins with a byte of 128 or more.
    abbrev pub is_marked : List (List ℕ × V) → Bool
    is_marked t = nat_le 128 (slice_index (table_digest encoded t) 0)

    -- The digest of a merge's input.
    abbrev pub input_of : ℕ → List (List ℕ × V) → List (List ℕ × V) → List ℕ
    input_of setting t u = pair_digest encoded (pair_at setting t u)

    -- The inputs of the tree over these tables.
    abbrev pub tree_inputs : (ℕ → V → V → V) → ℕ → List (List (List ℕ × V)) → List (List ℕ)
    tree_inputs joined setting ts = inputs_of is_marked (merged (joined setting)) (input_of setting) ts

    -- The inputs of the tree over the new tables that the one over the old tables lacks, each once.
    abbrev pub fresh_inputs : (ℕ → V → V → V) → ℕ → List (List (List ℕ × V)) → List (List (List ℕ × V)) → List (List ℕ)
    fresh_inputs joined setting old new = lacked (tree_inputs joined setting old) (tree_inputs joined setting new)

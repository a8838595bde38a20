-- What a job's laws give for tables.
use Rattle.std.specs.Prelude.{◌≡◌, ℕ, List, ◌++◌}
use Rattle.definitions.specs.Tables.{HasGoodValues, table_of, merged}

module _ {V : Type 0} where
  -- The table of two lists of pairs end to end is the merge of their tables.
  abbrev pub TablesAppend : (V → Type 0) → (V → V → V) → Type 0
  TablesAppend good join = (xs ys : List (List ℕ × V)) → HasGoodValues good xs → HasGoodValues good ys → table_of join (xs ++ ys) ≡ merged join (table_of join xs) (table_of join ys)

  -- Merging is associative on tables of good values.
  abbrev pub MergingAssociates : (V → Type 0) → (V → V → V) → Type 0
  MergingAssociates good join = (t u w : List (List ℕ × V)) → HasGoodValues good t → HasGoodValues good u → HasGoodValues good w → merged join (merged join t u) w ≡ merged join t (merged join u w)

  -- Merging is commutative on tables of good values.
  abbrev pub MergingCommutes : (V → Type 0) → (V → V → V) → Type 0
  MergingCommutes good join = (t u : List (List ℕ × V)) → HasGoodValues good t → HasGoodValues good u → merged join t u ≡ merged join u t

  -- Tables of good values have good values.
  abbrev pub TablesKeepGood : (V → Type 0) → (V → V → V) → Type 0
  TablesKeepGood good join = (ps : List (List ℕ × V)) → HasGoodValues good ps → HasGoodValues good (table_of join ps)

  -- A merge of tables of good values has good values.
  abbrev pub MergesKeepGood : (V → Type 0) → (V → V → V) → Type 0
  MergesKeepGood good join = (t u : List (List ℕ × V)) → HasGoodValues good t → HasGoodValues good u → HasGoodValues good (merged join t u)

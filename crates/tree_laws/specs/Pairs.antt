-- What is merged, its merge, and its digest.
use Rattle.std.specs.Prelude.{◌≡◌, ℕ, List, ◌∷◌, ◌++◌}
use Rattle.sha2.specs.Sha256.{sha256}
use Rattle.definitions.specs.Tables.{merged}
use Rattle.sheets.specs.Sheets.{SheetOf}
use Rattle.sheets.specs.Digests.{table_digest}

-- Two tables of one setting, of which the left one came first.
pub record PairOf (V : Type 0) : Type 0 where
  pub setting : ℕ
  pub left : List (List ℕ × V)
  pub right : List (List ℕ × V)

-- The pair of two sheets.
abbrev pub pair_of : {V : Type 0} → SheetOf V → SheetOf V → PairOf V
pair_of a b = record { setting = a.setting; left = a.entries; right = b.entries }

-- The merge of a pair, where `joined` joins two values at each setting.
abbrev pub merge_of : {V : Type 0} → (ℕ → V → V → V) → PairOf V → SheetOf V
merge_of joined p = record { setting = p.setting; entries = merged (joined p.setting) p.left p.right }

-- The sheet is the merge of the pair.
abbrev pub IsMergeOf : {V : Type 0} → (ℕ → V → V → V) → PairOf V → SheetOf V → Type 0
IsMergeOf joined p s = s ≡ merge_of joined p

-- The digest of a pair: of a byte that no other digest begins with, and of the digests of its tables.
unfoldable pub pair_digest : {V : Type 0} → (V → List ℕ) → PairOf V → List ℕ
pair_digest encoded p = sha256 (1 ∷ table_digest encoded p.left ++ table_digest encoded p.right)

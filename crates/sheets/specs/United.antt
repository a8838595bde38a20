-- All entries of tables that share no key.
use Rattle.std.specs.Prelude.{◌≡◌, ◌≢◌, ◌<◌, ℕ, true, List, [], ◌∷◌, ◌++◌, length, map, Option, is_some, slice_index_or, drop}
use Rattle.std.specs.Borrow.{Bor}
use Rattle.std.specs.declared.option.Option.TheVariants.{Some, None}
use Rattle.std.specs.declared.cmp.Ordering.TheVariants.{Greater}
use Rattle.definitions.specs.Tables.{key_cmp, value_at, keys_of, tabulate}
use Rattle.sheets.specs.Sheets.{SheetOf}

module _ {V : Type 0} where
  -- The tables of sheets.
  abbrev pub tables_of : List (SheetOf V) → List (List (List ℕ × V))
  tables_of sheets = map (λ s. s.entries) sheets

  -- The entries of all tables, end to end.
  abbrev pub end_to_end : List (List (List ℕ × V)) → List (List ℕ × V)
  end_to_end [] = []
  end_to_end (t ∷ ts) = t ++ end_to_end ts

  -- The value at a key in the first table that has it.
  abbrev pub first_value : List (List (List ℕ × V)) → List ℕ → Option V
  first_value ts key = value_at (end_to_end ts) key

  -- The entries of all tables in byte order of their keys.
  unfoldable pub united : List (List (List ℕ × V)) → List (List ℕ × V)
  united ts = tabulate (first_value ts) (keys_of (end_to_end ts))

  -- No key is in two of the tables.
  abbrev pub Apart : List (List (List ℕ × V)) → Type 0
  Apart ts = (i j : ℕ) (key : List ℕ) → i < length ts → j < length ts → is_some (value_at (slice_index_or ts i []) key) ≡ true → is_some (value_at (slice_index_or ts j []) key) ≡ true → i ≡ j

  -- A key is not above the first key of a table.
  abbrev pub IsNotAfter : List ℕ → List (List ℕ × V) → Type 0
  IsNotAfter key [] = Unit {0}
  IsNotAfter key (e ∷ t) = key_cmp key e.0 ≢ Greater

  -- The table at place `i` has a first entry, whose key is not above the first key of any table.
  pub record IsLeast (ts : List (List (List ℕ × V))) (i : ℕ) : Type 0 where
    pub within : i < length ts
    pub first : List ℕ × V
    pub is : slice_index_or ts i [] ≡ first ∷ drop 1 (slice_index_or ts i [])
    pub least : (j : ℕ) → j < length ts → IsNotAfter first.0 (slice_index_or ts j [])

  -- Of the first `n` tables, the one whose first entry has the least key, with that key; nothing if no table has an
  -- entry.
  abbrev pub BestIs : List (List (List ℕ × V)) → ℕ → Option (ℕ × List ℕ) → Type 0
  BestIs ts n None = (j : ℕ) → j < n → slice_index_or ts j [] ≡ []
  BestIs ts n (Some best) = (best.0 < n) × ((first : List ℕ × V) × (first.0 ≡ best.1) × (slice_index_or ts best.0 [] ≡ first ∷ drop 1 (slice_index_or ts best.0 []))) × ((j : ℕ) → j < n → IsNotAfter best.1 (slice_index_or ts j []))

-- The place and the key of the best entry so far.
abbrev pub best_key : Option (ℕ × Bor (List ℕ)) → Option (ℕ × List ℕ)
best_key None = None
best_key (Some best) = Some (best.0, best.1.now)

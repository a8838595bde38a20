-- Tables in parts: each key belongs to one part.
use Rattle.std.specs.Prelude.{◌≡◌, ◌<◌, ℕ, zero, suc, ◌+◌, ◌==◌, List, ◌≤◌, ◌++◌, filter, length, map, slice_index_or}
use Rattle.partition.specs.Parts.{part_number}
use Rattle.definitions.specs.Tables.{IsRising, HasGoodValues, keys_of, table_of, merged}
use Rattle.definitions.specs.Answer.{pairs_of}
use Rattle.job_laws.specs.Meanings.{Meaning}
use Rattle.sheets.specs.Sheets.{SheetOf}
use Rattle.sheets.specs.United.{Apart, end_to_end, united}

-- The entries of a table whose keys belong to a part.
abbrev pub in_part : {V : Type 0} → ℕ → ℕ → List (List ℕ × V) → List (List ℕ × V)
in_part parts part t = filter (λ e. part_number e.0 parts == part) t

-- There is a list for each part, with the entries of that part.
pub record HasParts {V : Type 0} (parts : ℕ) (t : List (List ℕ × V)) (lists : List (List (List ℕ × V))) : Type 0 where
  pub count : length lists ≡ parts
  pub each : (part : ℕ) (d : List (List ℕ × V)) → part < parts → slice_index_or lists part d ≡ in_part parts part t

-- There is a sheet for each part, with the entries of that part.
pub record AreSheets {V : Type 0} (setting parts : ℕ) (t : List (List ℕ × V)) (sheets : List (SheetOf V)) : Type 0 where
  pub count : length sheets ≡ parts
  pub each : (part : ℕ) (d : SheetOf V) → part < parts → slice_index_or sheets part d ≡ record { setting = setting; entries = in_part parts part t }

-- The sheets of the table of the pairs that the records emit.
abbrev pub IsMapped : {V : Type 0} → Meaning V → ℕ → ℕ → List (List ℕ) → List (SheetOf V) → Type 0
IsMapped m setting parts records sheets = AreSheets setting parts (table_of m.joined (pairs_of m.emits records)) sheets

module _ {V : Type 0} where
  -- A part of the table of two lists of pairs is the merge of the parts of their tables.
  abbrev pub PartsAppend : (V → Type 0) → (V → V → V) → Type 0
  PartsAppend good join = (parts part : ℕ) (xs ys : List (List ℕ × V)) → HasGoodValues good xs → HasGoodValues good ys → in_part parts part (table_of join (xs ++ ys)) ≡ merged join (in_part parts part (table_of join xs)) (in_part parts part (table_of join ys))

  -- A part of a merge is the merge of the parts.
  abbrev pub PartsMerge : (V → V → V) → Type 0
  PartsMerge join = (parts part : ℕ) (t u : List (List ℕ × V)) → in_part parts part (merged join t u) ≡ merged join (in_part parts part t) (in_part parts part u)

-- The parts of a table share no key, and their union is the table.
abbrev pub PartsUnite : (V : Type 0) → Type 0
PartsUnite V = (parts : ℕ) (t : List (List ℕ × V)) (lists : List (List (List ℕ × V))) → 1 ≤ parts → IsRising t → HasParts parts t lists → Apart lists × (united lists ≡ t)

-- The numbers of the parts below one, added up.
abbrev pub sum_below : (ℕ → ℕ) → ℕ → ℕ
sum_below f zero = 0
sum_below f (suc n) = sum_below f n + f n

-- All parts of the tables of several lists of pairs together have as many keys as all the pairs.
abbrev pub PartsShare : {V : Type 0} → (V → V → V) → Type 0
PartsShare {V} join = (parts : ℕ) (lists : List (List (List ℕ × V))) → 1 ≤ parts → sum_below (λ part. length (keys_of (end_to_end (map (λ pairs. in_part parts part (table_of join pairs)) lists)))) parts ≡ length (keys_of (end_to_end lists))

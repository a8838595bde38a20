-- A list of records that is being cut: the complete chunks, and the records of the begun one.
use Rattle.std.specs.Prelude.{◌≡◌, ◌≤◌, ℕ, ◌+◌, Bool, true, List, [], ◌∷◌, ◌++◌, length, Option}
use Rattle.std.specs.declared.option.Option.TheVariants.{None}
use Rattle.definitions.specs.Records.{text_of}
use Rattle.marker_chunker.specs.Cuts.{first_or, last_marks, most_chunk, ends, joined, IsOpen, AreChunks}

-- The complete chunks, and the records of the begun one.
abbrev pub Cutting : Type 0
Cutting = List (List (List ℕ)) × List (List ℕ)

-- The records that were cut so far.
abbrev pub records_of : Cutting → List (List ℕ)
records_of c = joined c.0 ++ c.1

-- The begun chunk, if there is one, did not end before.
abbrev pub IsBegun : List (List ℕ) → Type 0
IsBegun [] = Unit {0}
IsBegun (r ∷ rs) = IsOpen (r ∷ []) rs

-- A cutter that holds these, where `marks` says whether the last record is a marker.
pub record IsCutting (done : List (List (List ℕ))) (begun : List (List ℕ)) (marks : Bool) : Type 0 where
  pub chunks : AreChunks done (first_or None begun)
  pub grown : IsBegun begun
  pub marked : marks ≡ last_marks begun
  pub started : begun ≡ [] → done ≡ []
  pub small : length (text_of begun) ≤ most_chunk

-- Whether there may be a boundary after the begun records, where `next` follows.
abbrev pub stops_at : List (List ℕ) → Option (List ℕ) → Bool
stops_at [] next = true
stops_at (r ∷ rs) next = ends (r ∷ rs) next

-- The chunks once the begun one is done.
abbrev pub closed : List (List (List ℕ)) → List (List ℕ) → List (List (List ℕ))
closed done [] = done
closed done (r ∷ rs) = done ++ (r ∷ rs) ∷ []

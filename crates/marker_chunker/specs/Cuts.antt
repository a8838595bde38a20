-- How a list of records is cut into chunks.
use Rattle.std.specs.Prelude.{◌≡◌, ℕ, ◌+◌, Bool, true, false, ◌&&◌, ◌||◌, nat_le, nat_lt, cond, List, [], ◌∷◌, ◌++◌, length, take, Option}
use Rattle.std.specs.declared.option.Option.TheVariants.{Some, None}
use Rattle.definitions.specs.Records.{text_of}
use Rattle.marker_chunker.specs.Markers.{is_marker}

-- The record that comes first, or else `next`.
abbrev pub first_or : Option (List ℕ) → List (List ℕ) → Option (List ℕ)
first_or next [] = next
first_or next (r ∷ rs) = Some r

-- Whether the last of these records is a marker; of no records, false.
abbrev pub last_marks : List (List ℕ) → Bool
last_marks [] = false
last_marks (r ∷ []) = is_marker r
last_marks (r ∷ s ∷ rs) = last_marks (s ∷ rs)

-- The least bytes of text at which a marker ends a chunk.
abbrev pub least_chunk : ℕ
least_chunk = 512

-- The most bytes of text of a chunk.
abbrev pub most_chunk : ℕ
most_chunk = 65536

-- Whether a chunk of a given size in bytes ends before a record of a given size, where `marks` says that its last
-- record is a marker.
abbrev pub ends_by : Bool → ℕ → ℕ → Bool
ends_by marks size more = (marks && nat_le least_chunk size) || nat_lt most_chunk (size + (more + 1))

-- Whether the chunk that these records begin ends after them, where `next` follows.
unfoldable pub ends : List (List ℕ) → Option (List ℕ) → Bool
ends begun None = true
ends begun (Some next) = ends_by (last_marks begun) (length (text_of begun)) (length next)

-- The chunks of the begun records and the others: each chunk is the shortest prefix that ends.
unfoldable pub cut_on : List (List ℕ) → List (List ℕ) → List (List (List ℕ))
cut_on begun [] = begun ∷ []
cut_on begun (r ∷ rs) = cond (ends begun (Some r)) (begun ∷ cut_on (r ∷ []) rs) (cut_on (begun ++ r ∷ []) rs)

-- The chunks of a list of records, cut from nothing; no records have no chunks.
unfoldable pub chunks_of : List (List ℕ) → List (List (List ℕ))
chunks_of [] = []
chunks_of (r ∷ rs) = cut_on (r ∷ []) rs

-- Chunks end to end.
abbrev pub joined : List (List (List ℕ)) → List (List ℕ)
joined [] = []
joined (c ∷ cs) = c ++ joined cs

-- The begun records go on with these, and end there and not before.
abbrev pub GoesOn : List (List ℕ) → List (List ℕ) → Option (List ℕ) → Type 0
GoesOn begun [] next = ends begun next ≡ true
GoesOn begun (r ∷ rs) next = (ends begun (Some r) ≡ false) × GoesOn (begun ++ r ∷ []) rs next

-- The begun records did not end before.
abbrev pub IsOpen : List (List ℕ) → List (List ℕ) → Type 0
IsOpen begun [] = Unit {0}
IsOpen begun (r ∷ rs) = (ends begun (Some r) ≡ false) × IsOpen (begun ++ r ∷ []) rs

-- These records are one chunk, where `next` follows: they end there and not before.
abbrev pub IsChunk : List (List ℕ) → Option (List ℕ) → Type 0
IsChunk [] next = ⊥
IsChunk (r ∷ rs) next = GoesOn (r ∷ []) rs next

-- These are chunks, one after the other, where `next` follows.
abbrev pub AreChunks : List (List (List ℕ)) → Option (List ℕ) → Type 0
AreChunks [] next = Unit {0}
AreChunks (c ∷ cs) next = IsChunk c (first_or next (joined cs)) × AreChunks cs next

-- How many records the first chunk has.
abbrev pub first_length : List (List (List ℕ)) → ℕ
first_length [] = 0
first_length (c ∷ cs) = length c

-- The places where chunks end, from a place on.
abbrev pub places : ℕ → List (List (List ℕ)) → List ℕ
places start [] = []
places start (c ∷ cs) = (start + length c) ∷ places (start + length c) cs

-- How many records the first `i` chunks have.
abbrev pub reach : ℕ → List (List (List ℕ)) → ℕ
reach i cs = length (joined (take i cs))

-- Files: documents by name.
use Rattle.std.specs.Prelude.{◌≡◌, ◌≢◌, ◌≤◌, ◌<◌, ℕ, ◌+◌, cond, List, [], ◌∷◌, ◌++◌, length, take, drop, slice_index_or}
use Rattle.std.specs.List.{filter}
use Rattle.std.specs.Ordering.{is_lt, eq_by_cmp}
use Rattle.std.specs.declared.cmp.Ordering.TheVariants.{Less}
use Rattle.definitions.specs.Limits.{most_files, most_text}
use Rattle.record_text.specs.Names.{name_cmp}
use Rattle.marker_chunker.specs.Cuts.{joined, chunks_of}
use Rattle.chunk_store.specs.declared.change.Change.{Change}
use Rattle.chunk_store.specs.Documents.{spliced, text_size, IsChange, IsWhole}

-- A name with the chunks of its document.
abbrev pub File : Type 0
File = List ℕ × List (List (List ℕ))

-- The name comes before those of all these files.
abbrev pub IsBelow : List ℕ → List File → Type 0
IsBelow name [] = Unit {0}
IsBelow name (f ∷ fs) = (name_cmp name f.0 ≡ Less) × IsBelow name fs

-- The names rise bytewise.
abbrev pub HasRisingNames : List File → Type 0
HasRisingNames [] = Unit {0}
HasRisingNames (f ∷ fs) = IsBelow f.0 fs × HasRisingNames fs

-- Each file has records, cut from nothing.
abbrev pub HasDocuments : List File → Type 0
HasDocuments [] = Unit {0}
HasDocuments (f ∷ fs) = (f.1 ≢ []) × (f.1 ≡ chunks_of (joined f.1)) × HasDocuments fs

-- The files with smaller names.
abbrev pub smaller : List ℕ → List File → List File
smaller name files = filter (λ f. is_lt (name_cmp f.0 name)) files

-- The files with greater names.
abbrev pub greater : List ℕ → List File → List File
greater name files = filter (λ f. is_lt (name_cmp name f.0)) files

-- The chunks of the file with this name; a file that is not in the list has none.
abbrev pub file_at : List ℕ → List File → List (List (List ℕ))
file_at name [] = []
file_at name (f ∷ fs) = cond (eq_by_cmp name_cmp name f.0) f.1 (file_at name fs)

-- A file with these chunks; without chunks there is no file.
abbrev pub file_of : List ℕ → List (List (List ℕ)) → List File
file_of name [] = []
file_of name (c ∷ cs) = (name, c ∷ cs) ∷ []

-- The files, with these chunks under this name.
abbrev pub with_file : List ℕ → List (List (List ℕ)) → List File → List File
with_file name chunks files = smaller name files ++ (file_of name chunks ++ greater name files)

-- The chunks of all files, in the order of their names.
abbrev pub all_chunks : List File → List (List (List ℕ))
all_chunks [] = []
all_chunks (f ∷ fs) = f.1 ++ all_chunks fs

-- How many chunks the files with smaller names have.
abbrev pub chunks_before : List ℕ → List File → ℕ
chunks_before name files = length (all_chunks (smaller name files))

-- The change of one file as a change of all chunks, of which this many come before the file.
abbrev pub raised : ℕ → Change → Change
raised before change = record { first = before + change.first; gone = change.gone; fresh = change.fresh }

-- These records would make the file with this name one too many.
abbrev pub IsOneTooMany : List (List ℕ) → List ℕ → List File → Type 0
IsOneTooMany records name files = (file_at name files ≡ []) × (records ≢ []) × (length files ≡ most_files)

-- The chunks of a file once `del` of its records from place `at` on became others.
abbrev pub edited : ℕ → ℕ → List (List ℕ) → List (List (List ℕ)) → List (List (List ℕ))
edited at del ins olds = chunks_of (spliced at del ins (joined olds))

-- The change of the file with this name by an edit, its place counted among all chunks.
abbrev pub IsEditOf : ℕ → ℕ → List (List ℕ) → List ℕ → List File → Change → Type 0
IsEditOf at del ins name files change =
    (own : Change) × (change ≡ raised (chunks_before name files) own) × IsChange at del ins (file_at name files) (edited at del ins (file_at name files)) own

-- The chunks of the file with this name became these, all of them.
abbrev pub IsLoadOf : List (List (List ℕ)) → List ℕ → List File → Change → Type 0
IsLoadOf chunks name files change = IsWhole (chunks_before name files) (file_at name files) chunks change

-- The file with this name is at place `i`.
pub record IsAt (name : List ℕ) (files : List File) (i : ℕ) : Type 0 where
  pub within : i < length files
  pub prefix : smaller name files ≡ take i files
  pub back : greater name files ≡ drop (i + 1) files
  pub named : (d : File) → (slice_index_or files i d).0 ≡ name
  pub chunks : (d : File) → (slice_index_or files i d).1 ≡ file_at name files

-- No file has this name, and one with it would be at place `i`.
pub record IsGap (name : List ℕ) (files : List File) (i : ℕ) : Type 0 where
  pub within : i ≤ length files
  pub prefix : smaller name files ≡ take i files
  pub back : greater name files ≡ drop i files
  pub none : file_at name files ≡ []

-- Where the chunks of each file end among all chunks.
abbrev pub ends_of : ℕ → List File → List ℕ
ends_of from [] = []
ends_of from (f ∷ fs) = (from + length f.1) ∷ ends_of (from + length f.1) fs

-- What a shelf keeps with its files: where their chunks end, and the size of their text.
pub record IsShelf (files : List File) (ends : List ℕ) (size : ℕ) : Type 0 where
  pub names : HasRisingNames files
  pub documents : HasDocuments files
  pub most : length files ≤ most_files
  pub ended : ends ≡ ends_of 0 files
  pub sized : size ≡ text_size (all_chunks files)
  pub small : size ≤ most_text

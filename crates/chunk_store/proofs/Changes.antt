-- What a change of one document makes of the list of files.
use Rattle.std.proofs.Common.{◌≡◌, ◌≢◌, ◌≤◌, ℕ, suc, ◌+◌, ◌-◌, List, [], ◌∷◌, ◌++◌, length, take, drop, get_or, set, sym, ap, ◌∙◌, arith}
use Rattle.std.proofs.lemmas.List.{length-set, take-set, drop-set-lt, get_or-set_same, set_split, get_or_read}
use Rattle.definitions.specs.Records.{text_of}
use Rattle.marker_chunker.specs.Cuts.{joined, chunks_of}
use Rattle.chunk_store.specs.Documents.{text_size}
use Rattle.chunk_store.specs.Files.{File, HasDocuments, all_chunks, ends_of, file_at, file_of, greater, with_file, IsAt, IsShelf}
use Rattle.chunk_store.proofs.Ends.{ends_length, ends_take}
use Rattle.chunk_store.proofs.Refusals.{text_is}
use Rattle.chunk_store.proofs.Together.{all_append, all_with, at_with, chunks_size, count_at, docs_with, doc_at, shelf_with, split_at, text_part}

-- the file at its place
pub file_is : (name : List ℕ) (files : List File) (i : ℕ) (f : File) → IsAt name files i → f ≡ get_or files i f → (f.0 ≡ name) × (f.1 ≡ file_at name files)
file_is name files i f h e =
    let is = get_or_read files i f h.within e ([], []) in
    (ap (λ (x : File). x.0) is ∙ h.named ([], []), ap (λ (x : File). x.1) is ∙ h.chunks ([], []))

-- the text of all files once the one at its place has these records: that of the others stays
pub text_beside : (name : List ℕ) (files : List File) (i : ℕ) (f : File) (rs : List (List ℕ)) (size own : ℕ) → IsAt name files i → f ≡ get_or files i f → size ≡ text_size (all_chunks files) → own ≡ text_size f.1
    → (own ≤ size) × (text_size (all_chunks (with_file name (chunks_of rs) files)) ≡ size - own + length (text_of rs))
text_beside name files i f rs size own at here sized size_of =
    let split = split_at name files i at in
    let old = ap text_size (file_is name files i f at here).1 in
    let part = text_part name files split in
    (omega arith, text_is name files rs (size - own) split (omega arith))

pub some_at : (name : List ℕ) (files : List File) (i : ℕ) → IsAt name files i → HasDocuments files → file_at name files ≢ []
some_at name files i h docs e = doc_at files i ([], []) docs h.within (h.chunks ([], []) ∙ e)

pub prefix_set : (files : List File) (ends : List ℕ) (i : ℕ) (x : File) → ends ≡ ends_of 0 files → take i ends ≡ ends_of 0 (take i (set files i x))
prefix_set files ends i x e = ap (take i) e ∙ ends_take 0 files i ∙ ap (ends_of 0) (sym (take-set files i x))

pub length_ends : (files : List File) (ends : List ℕ) (i : ℕ) (x : File) → ends ≡ ends_of 0 files → length ends ≡ length (set files i x)
length_ends files ends i x e = ap length e ∙ ends_length 0 files ∙ sym (length-set files i x)

all_set : (name : List ℕ) (files : List File) (i : ℕ) (x : File) → IsAt name files i → all_chunks (set files i x) ≡ all_chunks (with_file name x.1 files)
all_set name files i x h =
    let next : suc i ≡ i + 1 = omega arith in
    ap all_chunks (set_split files i x h.within)
    ∙ all_append (take i files) (x ∷ drop (suc i) files)
    ∙ ap (λ n. all_chunks (take i files) ++ (x.1 ++ all_chunks (drop n files))) next
    ∙ ap (λ (y : List File). all_chunks (take i files) ++ (x.1 ++ all_chunks y)) (sym h.back)
    ∙ ap (λ (y : List File). all_chunks y ++ (x.1 ++ all_chunks (greater name files))) (sym h.prefix)
    ∙ sym (all_with name x.1 files)

pub small_set : (name : List ℕ) (files : List File) (i : ℕ) (x : File) → IsAt name files i → HasDocuments files → x.1 ≡ chunks_of (joined x.1)
    → text_size (all_chunks (with_file name x.1 files)) ≤ 268435456 → length (all_chunks (set files i x)) ≤ 268435456
small_set name files i x h docs cut l =
    let a = ap length (all_set name files i x h) in
    let b = chunks_size (with_file name x.1 files) (docs_with name x.1 files cut docs) in
    omega arith

pub settled_is : (name : List ℕ) (files news : List File) (i : ℕ) (x : File) → IsAt name files i → x.0 ≡ name
    → ((d : File) → news ≡ take i (set files i x) ++ (file_of (get_or (set files i x) i d).0 (get_or (set files i x) i d).1 ++ drop (i + 1) (set files i x)))
    → news ≡ with_file name x.1 files
settled_is name files news i x h named e =
    e ([], [])
    ∙ ap (λ (y : List File). y ++ (file_of (get_or (set files i x) i ([], [])).0 (get_or (set files i x) i ([], [])).1 ++ drop (i + 1) (set files i x))) (take-set files i x)
    ∙ ap (λ (y : File). take i files ++ (file_of y.0 y.1 ++ drop (i + 1) (set files i x))) (get_or-set_same files i x ([], []) h.within)
    ∙ ap (λ (y : List File). take i files ++ (file_of x.0 x.1 ++ y)) (drop-set-lt (i + 1) files i x (omega arith))
    ∙ ap (λ (n : List ℕ). take i files ++ (file_of n x.1 ++ drop (i + 1) files)) named
    ∙ at_with name files i x.1 h

pub shelf_at : (name : List ℕ) (cs : List (List (List ℕ))) (files news : List File) (old ends : List ℕ) (was size : ℕ) (i : ℕ) → IsShelf files old was → IsAt name files i → news ≡ with_file name cs files
    → cs ≡ chunks_of (joined cs) → ends ≡ ends_of 0 news → size ≡ text_size (all_chunks (with_file name cs files)) → size ≤ 268435456 → IsShelf news ends size
shelf_at name cs files news old ends was size i h at is cut ended sized small =
    let count = count_at name files i cs at in
    let most = h.most in
    let size_is = ap length is in
    shelf_with name cs files news ends size is h.names h.documents cut (omega arith) ended (sized ∙ sym (ap (λ (x : List File). text_size (all_chunks x)) is)) small

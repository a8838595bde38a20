-- The chunks of files end to end, and what one file's new chunks make of them.
use Rattle.std.proofs.Common.{◌≡◌, ◌≢◌, ◌≤◌, ◌<◌, ℕ, zero, suc, ◌+◌, ◌-◌, Bool, true, false, cond, List, [], ◌∷◌, ◌++◌, length, take, drop, get_or, None, Option, refl, sym, ap, subst, ◌∙◌, arith, append-nil, append_assoc, length-append}
use Rattle.std.specs.List.{filter}
use Rattle.std.specs.Ordering.{is_lt}
use Rattle.std.specs.declared.cmp.Ordering.TheVariants.{Less}
use Rattle.std.proofs.lemmas.Cmp.{nat_list_cmp_total}
use Rattle.std.proofs.lemmas.List.{drop_more, take-append-drop, length-take-le, length-drop, drop_all, drop-append-le, take-append-le}
use Rattle.record_text.specs.Names.{name_cmp}
use Rattle.marker_chunker.specs.Cuts.{joined, chunks_of, AreChunks}
use Rattle.marker_chunker.proofs.CutLaws.{chunks_are}
use Rattle.chunk_store.specs.declared.change.Change.{Change}
use Rattle.chunk_store.specs.Documents.{text_size, IsSplice, IsWhole}
use Rattle.chunk_store.specs.Files.{File, IsBelow, HasRisingNames, HasDocuments, smaller, greater, file_at, file_of, with_file, all_chunks, chunks_before, raised, ends_of, IsAt, IsGap, IsShelf}
use Rattle.chunk_store.proofs.Texts.{chunks_append, count_size}
use Rattle.chunk_store.proofs.Shelves.{is_less}

pub all_append : (fs gs : List File) → all_chunks (fs ++ gs) ≡ all_chunks fs ++ all_chunks gs
all_append [] gs = refl
all_append (f ∷ fs) gs = ap (λ x. f.1 ++ x) (all_append fs gs) ∙ sym (append_assoc f.1 (all_chunks fs) (all_chunks gs))

all_of : (name : List ℕ) (cs : List (List (List ℕ))) → all_chunks (file_of name cs) ≡ cs
all_of name [] = refl
all_of name (c ∷ cs) = append-nil (c ∷ cs)

pub all_at : (files : List File) (i : ℕ) (d : File) → i < length files → all_chunks files ≡ all_chunks (take i files) ++ ((get_or files i d).1 ++ all_chunks (drop (i + 1) files))
all_at files i d l =
    sym (ap all_chunks (take-append-drop i files)) ∙ all_append (take i files) (drop i files)
    ∙ ap (λ (x : List File). all_chunks (take i files) ++ all_chunks x) (drop_more files i d l)

pub all_with : (name : List ℕ) (cs : List (List (List ℕ))) (files : List File) → all_chunks (with_file name cs files) ≡ all_chunks (smaller name files) ++ (cs ++ all_chunks (greater name files))
all_with name cs files =
    all_append (smaller name files) (file_of name cs ++ greater name files)
    ∙ ap (λ x. all_chunks (smaller name files) ++ x)
    (all_append (file_of name cs) (greater name files) ∙ ap (λ x. x ++ all_chunks (greater name files)) (all_of name cs))

pub count_insert : (files : List File) (i : ℕ) (f : File) → length (all_chunks (take i files ++ f ∷ drop i files)) ≡ length (all_chunks files) + length f.1
count_insert files i f =
    let a = ap length (all_append (take i files) (f ∷ drop i files)) in
    let b = length-append (all_chunks (take i files)) (f.1 ++ all_chunks (drop i files)) in
    let c = length-append f.1 (all_chunks (drop i files)) in
    let d = ap length (sym (ap all_chunks (take-append-drop i files)) ∙ all_append (take i files) (drop i files)) in
    let e = length-append (all_chunks (take i files)) (all_chunks (drop i files)) in
    omega arith

-- a file that is removed without chunks takes none with it
pub count_settle : (files : List File) (i : ℕ) (d : File) → i < length files
    → length (all_chunks (take i files ++ (file_of (get_or files i d).0 (get_or files i d).1 ++ drop (i + 1) files))) ≡ length (all_chunks files)
count_settle files i d l =
    ap length
    (all_append (take i files) (file_of (get_or files i d).0 (get_or files i d).1 ++ drop (i + 1) files)
    ∙ ap (λ x. all_chunks (take i files) ++ x)
    (all_append (file_of (get_or files i d).0 (get_or files i d).1) (drop (i + 1) files) ∙ ap (λ x. x ++ all_chunks (drop (i + 1) files)) (all_of (get_or files i d).0 (get_or files i d).1))
    ∙ sym (all_at files i d l))

-- the chunks of the file with a name are between those of the others
abbrev pub IsSplit : List ℕ → List File → Type 0
IsSplit name files = all_chunks files ≡ all_chunks (smaller name files) ++ (file_at name files ++ all_chunks (greater name files))

pub split_at : (name : List ℕ) (files : List File) (i : ℕ) → IsAt name files i → IsSplit name files
split_at name files i h =
    all_at files i ([], []) h.within
    ∙ ap (λ (x : List (List (List ℕ))). all_chunks (take i files) ++ (x ++ all_chunks (drop (i + 1) files))) (h.chunks ([], []))
    ∙ ap (λ (x : List File). all_chunks x ++ (file_at name files ++ all_chunks (drop (i + 1) files))) (sym h.prefix)
    ∙ ap (λ (x : List File). all_chunks (smaller name files) ++ (file_at name files ++ all_chunks x)) (sym h.back)

pub split_gap : (name : List ℕ) (files : List File) (i : ℕ) → IsGap name files i → IsSplit name files
split_gap name files i h =
    sym (ap all_chunks (take-append-drop i files)) ∙ all_append (take i files) (drop i files)
    ∙ ap (λ (x : List File). all_chunks x ++ all_chunks (drop i files)) (sym h.prefix)
    ∙ ap (λ (x : List File). all_chunks (smaller name files) ++ all_chunks x) (sym h.back)
    ∙ ap (λ (x : List (List (List ℕ))). all_chunks (smaller name files) ++ (x ++ all_chunks (greater name files))) (sym h.none)

pub text_with : (name : List ℕ) (files : List File) (cs : List (List (List ℕ))) → IsSplit name files
    → text_size (all_chunks (with_file name cs files)) + text_size (file_at name files) ≡ text_size (all_chunks files) + text_size cs
text_with name files cs split =
    let a = ap text_size (all_with name cs files) in
    let b = chunks_append (all_chunks (smaller name files)) (cs ++ all_chunks (greater name files)) in
    let c = chunks_append cs (all_chunks (greater name files)) in
    let d = ap text_size split in
    let e = chunks_append (all_chunks (smaller name files)) (file_at name files ++ all_chunks (greater name files)) in
    let f = chunks_append (file_at name files) (all_chunks (greater name files)) in
    omega arith

pub text_part : (name : List ℕ) (files : List File) → IsSplit name files → text_size (file_at name files) ≤ text_size (all_chunks files)
text_part name files split =
    let d = ap text_size split in
    let e = chunks_append (all_chunks (smaller name files)) (file_at name files ++ all_chunks (greater name files)) in
    let f = chunks_append (file_at name files) (all_chunks (greater name files)) in
    omega arith

pub chunks_part : (name : List ℕ) (files : List File) → IsSplit name files → chunks_before name files + length (file_at name files) ≤ length (all_chunks files)
chunks_part name files split =
    let d = ap length split in
    let e = length-append (all_chunks (smaller name files)) (file_at name files ++ all_chunks (greater name files)) in
    let f = length-append (file_at name files) (all_chunks (greater name files)) in
    omega arith

take_past : {X : Type 0} (xs ys : List X) (n : ℕ) → take (length xs + n) (xs ++ ys) ≡ xs ++ take n ys
take_past [] ys n = let e : 0 + n ≡ n = omega arith in ap (λ k. take k ys) e
take_past (x ∷ xs) ys n = let e : suc (length xs) + n ≡ suc (length xs + n) = omega arith in ap (λ k. take k (x ∷ xs ++ ys)) e ∙ ap (λ y. x ∷ y) (take_past xs ys n)

drop_past : {X : Type 0} (xs ys : List X) (n : ℕ) → drop (length xs + n) (xs ++ ys) ≡ drop n ys
drop_past [] ys n = let e : 0 + n ≡ n = omega arith in ap (λ k. drop k ys) e
drop_past (x ∷ xs) ys n = let e : suc (length xs) + n ≡ suc (length xs + n) = omega arith in ap (λ k. drop k (x ∷ xs ++ ys)) e ∙ drop_past xs ys n

splice_within : (prefix old new back : List (List (List ℕ))) (own : Change) → IsSplice old new own → IsSplice (prefix ++ (old ++ back)) (prefix ++ (new ++ back)) (raised (length prefix) own)
splice_within prefix old new back own h =
    let a = length-append prefix (old ++ back) in
    let b = length-append old back in
    let c = length-append prefix (new ++ back) in
    let d = length-append new back in
    let in_old : own.first + own.gone ≤ length old = h.within in
    let in_new : own.first + own.fresh ≤ length new = h.fits in
    let fresh : (length prefix + own.first) + own.fresh ≡ length prefix + (own.first + own.fresh) = omega arith in
    let gone : length prefix + (own.first + own.gone) ≡ (length prefix + own.first) + own.gone = omega arith in
    record {
      within = omega arith;
      fits = omega arith;
      before = take_past prefix (new ++ back) own.first
          ∙ ap (λ x. prefix ++ x) (take-append-le own.first new back (omega arith) ∙ h.before ∙ sym (take-append-le own.first old back (omega arith)))
          ∙ sym (take_past prefix (old ++ back) own.first);
      behind = ap (λ k. drop k (prefix ++ (new ++ back))) fresh
          ∙ drop_past prefix (new ++ back) (own.first + own.fresh)
          ∙ drop-append-le (own.first + own.fresh) new back in_new
          ∙ ap (λ x. x ++ back) h.behind
          ∙ sym (drop-append-le (own.first + own.gone) old back in_old)
          ∙ sym (drop_past prefix (old ++ back) (own.first + own.gone))
          ∙ ap (λ k. drop k (prefix ++ (old ++ back))) gone;
    }

pub splice_with : (name : List ℕ) (files : List File) (cs : List (List (List ℕ))) (own : Change) → IsSplit name files → IsSplice (file_at name files) cs own
    → IsSplice (all_chunks files) (all_chunks (with_file name cs files)) (raised (chunks_before name files) own)
splice_with name files cs own split h =
    subst (λ (x : List (List (List ℕ))). IsSplice x (all_chunks (with_file name cs files)) (raised (chunks_before name files) own)) (sym split)
    (subst (λ (x : List (List (List ℕ))). IsSplice (all_chunks (smaller name files) ++ (file_at name files ++ all_chunks (greater name files))) x (raised (chunks_before name files) own)) (sym (all_with name cs files))
    (splice_within (all_chunks (smaller name files)) (file_at name files) cs (all_chunks (greater name files)) own h))

pub whole_splice : (olds news : List (List (List ℕ))) (change : Change) → IsWhole 0 olds news change → IsSplice olds news change
whole_splice olds news change h =
    let a = h.0 in
    let b = h.1 in
    let c = h.2 in
    record {
      within = omega arith;
      fits = omega arith;
      before = ap (λ n. take n news) a ∙ sym (ap (λ n. take n olds) a);
      behind = drop_all (change.first + change.fresh) news (omega arith) ∙ sym (drop_all (change.first + change.gone) olds (omega arith));
    }

-- names

abbrev AreBelow : List ℕ → List File → Type 0
AreBelow name [] = Unit {0}
AreBelow name (f ∷ fs) = (name_cmp f.0 name ≡ Less) × AreBelow name fs

smaller_below : (name : List ℕ) (files : List File) → AreBelow name (smaller name files)
smaller_below name [] = tt
smaller_below name (f ∷ fs) =
    elim (is_lt (name_cmp f.0 name)) as (λ b. is_lt (name_cmp f.0 name) ≡ b → AreBelow name (cond b (f ∷ smaller name fs) (smaller name fs))) [
      | true ↦ λ e. (is_less _ e, smaller_below name fs)
      | false ↦ λ e. smaller_below name fs
    ] refl

greater_above : (name : List ℕ) (files : List File) → IsBelow name (greater name files)
greater_above name [] = tt
greater_above name (f ∷ fs) =
    elim (is_lt (name_cmp name f.0)) as (λ b. is_lt (name_cmp name f.0) ≡ b → IsBelow name (cond b (f ∷ greater name fs) (greater name fs))) [
      | true ↦ λ e. (is_less _ e, greater_above name fs)
      | false ↦ λ e. greater_above name fs
    ] refl

below_filter : (name : List ℕ) (p : File → Bool) (fs : List File) → IsBelow name fs → IsBelow name (filter p fs)
below_filter name p [] h = tt
below_filter name p (f ∷ fs) h =
    elim (p f) as (λ b. IsBelow name (cond b (f ∷ filter p fs) (filter p fs))) [
      | true ↦ (h.0, below_filter name p fs h.1)
      | false ↦ below_filter name p fs h.1
    ]

rising_filter : (p : File → Bool) (fs : List File) → HasRisingNames fs → HasRisingNames (filter p fs)
rising_filter p [] h = tt
rising_filter p (f ∷ fs) h =
    elim (p f) as (λ b. HasRisingNames (cond b (f ∷ filter p fs) (filter p fs))) [
      | true ↦ (below_filter f.0 p fs h.0, rising_filter p fs h.1)
      | false ↦ rising_filter p fs h.1
    ]

below_append : (name : List ℕ) (fs gs : List File) → IsBelow name fs → IsBelow name gs → IsBelow name (fs ++ gs)
below_append name [] gs h g = g
below_append name (f ∷ fs) gs h g = (h.0, below_append name fs gs h.1 g)

below_chain : (a b : List ℕ) (fs : List File) → name_cmp a b ≡ Less → IsBelow b fs → IsBelow a fs
below_chain a b [] e h = tt
below_chain a b (f ∷ fs) e h = (nat_list_cmp_total.trans a b f.0 e h.0, below_chain a b fs e h.1)

below_of : (a name : List ℕ) (cs : List (List (List ℕ))) (back : List File) → name_cmp a name ≡ Less → IsBelow name back → IsBelow a (file_of name cs ++ back)
below_of a name [] back h b = below_chain a name back h b
below_of a name (c ∷ cs) back h b = (h, below_chain a name back h b)

rising_join : (prefix : List File) (name : List ℕ) (cs : List (List (List ℕ))) (back : List File) → HasRisingNames prefix → AreBelow name prefix → IsBelow name back → HasRisingNames back
    → HasRisingNames (prefix ++ (file_of name cs ++ back))
rising_join [] name [] back r a b s = s
rising_join [] name (c ∷ cs) back r a b s = (b, s)
rising_join (f ∷ prefix) name cs back r a b s =
    (below_append f.0 prefix (file_of name cs ++ back) r.0 (below_of f.0 name cs back a.0 b), rising_join prefix name cs back r.1 a.1 b s)

pub rising_with : (name : List ℕ) (cs : List (List (List ℕ))) (files : List File) → HasRisingNames files → HasRisingNames (with_file name cs files)
rising_with name cs files h =
    rising_join (smaller name files) name cs (greater name files) (rising_filter _ files h) (smaller_below name files) (greater_above name files) (rising_filter _ files h)

-- documents

docs_filter : (p : File → Bool) (fs : List File) → HasDocuments fs → HasDocuments (filter p fs)
docs_filter p [] h = tt
docs_filter p (f ∷ fs) h =
    elim (p f) as (λ b. HasDocuments (cond b (f ∷ filter p fs) (filter p fs))) [
      | true ↦ (h.0, h.1, docs_filter p fs h.2)
      | false ↦ docs_filter p fs h.2
    ]

docs_append : (fs gs : List File) → HasDocuments fs → HasDocuments gs → HasDocuments (fs ++ gs)
docs_append [] gs h g = g
docs_append (f ∷ fs) gs h g = (h.0, h.1, docs_append fs gs h.2 g)

docs_of : (name : List ℕ) (cs : List (List (List ℕ))) → cs ≡ chunks_of (joined cs) → HasDocuments (file_of name cs)
docs_of name [] h = tt
docs_of name (c ∷ cs) h = ((λ e. cc), h, tt)

pub docs_with : (name : List ℕ) (cs : List (List (List ℕ))) (files : List File) → cs ≡ chunks_of (joined cs) → HasDocuments files → HasDocuments (with_file name cs files)
docs_with name cs files c h =
    docs_append (smaller name files) (file_of name cs ++ greater name files) (docs_filter _ files h) (docs_append (file_of name cs) (greater name files) (docs_of name cs c) (docs_filter _ files h))

pub doc_at : (files : List File) (i : ℕ) (d : File) → HasDocuments files → i < length files → (get_or files i d).1 ≢ []
doc_at [] i d h l = absurd (omega arith)
doc_at (f ∷ fs) zero d h l = h.0
doc_at (f ∷ fs) (suc i) d h l = doc_at fs i d h.2 (omega arith)

-- counts

pub length_of : (name : List ℕ) (cs : List (List (List ℕ))) → length (file_of name cs) ≤ 1
length_of name [] = omega arith
length_of name (c ∷ cs) = omega arith

chunks_count : (cs : List (List (List ℕ))) (next : Option (List ℕ)) → AreChunks cs next → length cs ≤ length (joined cs)
chunks_count [] next h = omega arith
chunks_count ([] ∷ cs) next h = absurd h.0
chunks_count ((r ∷ rs) ∷ cs) next h =
    let e = length-append (r ∷ rs) (joined cs) in
    let g = chunks_count cs next h.1 in
    omega arith

-- each chunk has a byte of text at least
pub chunks_size : (files : List File) → HasDocuments files → length (all_chunks files) ≤ text_size (all_chunks files)
chunks_size [] h = omega arith
chunks_size (f ∷ fs) h =
    let g = chunks_size fs h.2 in
    let a = length-append f.1 (all_chunks fs) in
    let b = chunks_append f.1 (all_chunks fs) in
    let c = chunks_count f.1 None (subst (λ (x : List (List (List ℕ))). AreChunks x None) (sym h.1) (chunks_are (joined f.1))) in
    let d = count_size f.1 in
    omega arith

pub doc_size : (cs : List (List (List ℕ))) → cs ≡ chunks_of (joined cs) → length cs ≤ text_size cs
doc_size cs h =
    let a = chunks_count cs None (subst (λ (x : List (List (List ℕ))). AreChunks x None) (sym h) (chunks_are (joined cs))) in
    let b = count_size cs in
    omega arith

-- what the code makes of the list of files

some_of : (name : List ℕ) (cs : List (List (List ℕ))) → cs ≢ [] → file_of name cs ≡ (name, cs) ∷ []
some_of name [] h = absurd (h refl)
some_of name (c ∷ cs) h = refl

pub at_with : (name : List ℕ) (files : List File) (i : ℕ) (cs : List (List (List ℕ))) → IsAt name files i → take i files ++ (file_of name cs ++ drop (i + 1) files) ≡ with_file name cs files
at_with name files i cs h =
    ap (λ (x : List File). take i files ++ (file_of name cs ++ x)) (sym h.back) ∙ ap (λ (x : List File). x ++ (file_of name cs ++ greater name files)) (sym h.prefix)

gap_with : (name : List ℕ) (files : List File) (i : ℕ) (cs : List (List (List ℕ))) → IsGap name files i → take i files ++ (file_of name cs ++ drop i files) ≡ with_file name cs files
gap_with name files i cs h =
    ap (λ (x : List File). take i files ++ (file_of name cs ++ x)) (sym h.back) ∙ ap (λ (x : List File). x ++ (file_of name cs ++ greater name files)) (sym h.prefix)

pub gap_none : (name : List ℕ) (files : List File) (i : ℕ) → IsGap name files i → files ≡ with_file name [] files
gap_none name files i h = sym (take-append-drop i files) ∙ gap_with name files i [] h

pub gap_put : (name : List ℕ) (files : List File) (i : ℕ) (cs : List (List (List ℕ))) → IsGap name files i → cs ≢ [] → take i files ++ (name, cs) ∷ drop i files ≡ with_file name cs files
gap_put name files i cs h some = ap (λ (x : List File). take i files ++ (x ++ drop i files)) (sym (some_of name cs some)) ∙ gap_with name files i cs h

pub count_at : (name : List ℕ) (files : List File) (i : ℕ) (cs : List (List (List ℕ))) → IsAt name files i → length (with_file name cs files) ≤ length files
count_at name files i cs h =
    let a = ap length (sym (at_with name files i cs h)) in
    let b = length-append (take i files) (file_of name cs ++ drop (i + 1) files) in
    let c = length-append (file_of name cs) (drop (i + 1) files) in
    let d = length_of name cs in
    let w : i < length files = h.within in
    let e = length-take-le i files (omega arith) in
    let f = length-drop (i + 1) files in
    omega arith

pub count_gap : (name : List ℕ) (files : List File) (i : ℕ) (cs : List (List (List ℕ))) → IsGap name files i → length (with_file name cs files) ≤ length files + 1
count_gap name files i cs h =
    let a = ap length (sym (gap_with name files i cs h)) in
    let b = length-append (take i files) (file_of name cs ++ drop i files) in
    let c = length-append (file_of name cs) (drop i files) in
    let d = length_of name cs in
    let w : i ≤ length files = h.within in
    let e = length-take-le i files w in
    let f = length-drop i files in
    omega arith

pub before_at : (name : List ℕ) (files : List File) (i : ℕ) → IsAt name files i → length (all_chunks (take i files)) ≡ chunks_before name files
before_at name files i h = ap (λ (x : List File). length (all_chunks x)) (sym h.prefix)

pub before_gap : (name : List ℕ) (files : List File) (i : ℕ) → IsGap name files i → length (all_chunks (take i files)) ≡ chunks_before name files
before_gap name files i h = ap (λ (x : List File). length (all_chunks x)) (sym h.prefix)

pub shelf_with : (name : List ℕ) (cs : List (List (List ℕ))) (files news : List File) (ends : List ℕ) (size : ℕ) → news ≡ with_file name cs files → HasRisingNames files → HasDocuments files → cs ≡ chunks_of (joined cs)
    → length news ≤ 65536 → ends ≡ ends_of 0 news → size ≡ text_size (all_chunks news) → size ≤ 268435456 → IsShelf news ends size
shelf_with name cs files news ends size is names docs cut most ended sized small = record {
  names = subst (λ (x : List File). HasRisingNames x) (sym is) (rising_with name cs files names);
  documents = subst (λ (x : List File). HasDocuments x) (sym is) (docs_with name cs files cut docs);
  most = most;
  ended = ended;
  sized = sized;
  small = small;
}

-- Sizes of texts.
use Rattle.std.proofs.Common.{◌≡◌, ◌≤◌, ◌<◌, ℕ, ◌+◌, ◌-◌, List, [], ◌∷◌, ◌++◌, length, sym, ap, ◌∙◌, arith, take, drop, get_or, length-append}
use Rattle.std.proofs.lemmas.List.{take-append-drop, take_more, take-take}
use Rattle.definitions.specs.Records.{text_of}
use Rattle.marker_chunker.specs.Cuts.{joined}
use Rattle.marker_chunker.proofs.CutLaws.{joined_append}
use Rattle.marker_chunker.proofs.Parts.{size_push}
use Rattle.chunk_store.specs.Documents.{text_size, spliced}

-- each record has a byte at least
pub length_size : (rs : List (List ℕ)) → length rs ≤ length (text_of rs)
length_size [] = omega arith
length_size (r ∷ rs) = let h = length_size rs in let e = length-append r (10 ∷ text_of rs) in omega arith

pub text_append : (rs ss : List (List ℕ)) → length (text_of (rs ++ ss)) ≡ length (text_of rs) + length (text_of ss)
text_append [] ss = omega arith
text_append (r ∷ rs) ss =
    let h = text_append rs ss in
    let e = length-append r (10 ∷ text_of (rs ++ ss)) in
    let f = length-append r (10 ∷ text_of rs) in
    omega arith

pub text_split : (n : ℕ) (rs : List (List ℕ)) → length (text_of (take n rs)) + length (text_of (drop n rs)) ≡ length (text_of rs)
text_split n rs = sym (text_append (take n rs) (drop n rs)) ∙ ap (λ x. length (text_of x)) (take-append-drop n rs)

pub text_take : (n : ℕ) (rs : List (List ℕ)) → length (text_of (take n rs)) ≤ length (text_of rs)
text_take n rs = let h = text_split n rs in omega arith

pub text_more : (rs : List (List ℕ)) (i : ℕ) → i < length rs → length (text_of (take (i + 1) rs)) ≡ length (text_of (take i rs)) + (length (get_or rs i []) + 1)
text_more rs i l = ap (λ x. length (text_of x)) (take_more rs i [] l) ∙ size_push (take i rs) (get_or rs i [])

pub chunks_append : (cs ds : List (List (List ℕ))) → text_size (cs ++ ds) ≡ text_size cs + text_size ds
chunks_append cs ds = ap (λ x. length (text_of x)) (joined_append cs ds) ∙ text_append (joined cs) (joined ds)

pub chunks_split : (i : ℕ) (cs : List (List (List ℕ))) → text_size (take i cs) + text_size (drop i cs) ≡ text_size cs
chunks_split i cs = sym (chunks_append (take i cs) (drop i cs)) ∙ ap text_size (take-append-drop i cs)

pub chunks_take : (i : ℕ) (cs : List (List (List ℕ))) → text_size (take i cs) ≤ text_size cs
chunks_take i cs = let h = chunks_split i cs in omega arith

one_chunk : (c : List (List ℕ)) → text_size (c ∷ []) ≡ length (text_of c)
one_chunk c = let h = text_append c [] in h ∙ omega arith

pub chunks_more : (cs : List (List (List ℕ))) (i : ℕ) → i < length cs → text_size (take (i + 1) cs) ≡ text_size (take i cs) + length (text_of (get_or cs i []))
chunks_more cs i l =
    ap text_size (take_more cs i [] l)
    ∙ chunks_append (take i cs) (get_or cs i [] ∷ [])
    ∙ ap (λ k. text_size (take i cs) + k) (one_chunk (get_or cs i []))

pub count_size : (cs : List (List (List ℕ))) → length (joined cs) ≤ text_size cs
count_size cs = length_size (joined cs)

pub spliced_text : (at del : ℕ) (ins rs : List (List ℕ)) → length (text_of (spliced at del ins rs)) ≡ length (text_of (take at rs)) + (length (text_of ins) + (length (text_of rs) - length (text_of (take (at + del) rs))))
spliced_text at del ins rs =
    let a = text_append (take at rs) (ins ++ drop (at + del) rs) in
    let b = text_append ins (drop (at + del) rs) in
    let c = text_split (at + del) rs in
    omega arith

-- a shorter prefix has no more text
pub prefix_text : (at del : ℕ) (rs : List (List ℕ)) → length (text_of (take at rs)) ≤ length (text_of (take (at + del) rs))
prefix_text at del rs =
    let h = text_take at (take (at + del) rs) in
    let e : take at (take (at + del) rs) ≡ take at rs = take-take at (at + del) rs (omega arith) in
    let f = ap (λ x. length (text_of x)) e in
    omega arith

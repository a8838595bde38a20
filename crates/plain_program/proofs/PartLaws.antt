-- Parts of lists of records, and the first chunk of what is left.
use Rattle.std.proofs.Common.{◌≡◌, ◌<◌, ℕ, ◌+◌, ◌-◌, List, [], ◌∷◌, ◌++◌, length, take, drop, None, sym, ap, ◌∙◌, arith}
use Rattle.std.proofs.lemmas.List.{take_all, drop_all, length-drop, drop-append-le, take-append-le, drop-drop}
use Rattle.marker_chunker.specs.Cuts.{chunks_of, joined, AreChunks, first_length}
use Rattle.marker_chunker.proofs.CutLaws.{chunks_all, chunks_are, joined_chunks}

-- all records
pub part_all : (rs : List (List ℕ)) (n : ℕ) → n ≡ length rs → take (n - 0) (drop 0 rs) ≡ rs
part_all rs n is = take_all (n - 0) rs (omega (arith, is))

-- the records from a place on
pub part_rest : (rs : List (List ℕ)) (from n : ℕ) → n ≡ length rs → take (n - from) (drop from rs) ≡ drop from rs
part_rest rs from n is = let size = length-drop from rs in take_all (n - from) (drop from rs) (omega (arith, is, size))

take_left : (xs ys : List (List ℕ)) → take (length xs) (xs ++ ys) ≡ xs
take_left xs ys = take-append-le (length xs) xs ys (omega arith) ∙ take_all (length xs) xs (omega arith)

drop_left : (xs ys : List (List ℕ)) → drop (length xs) (xs ++ ys) ≡ ys
drop_left xs ys = drop-append-le (length xs) xs ys (omega arith) ∙ ap (λ x. x ++ ys) (drop_all (length xs) xs (omega arith))

first_of : (cs : List (List (List ℕ))) (rs : List (List ℕ)) → AreChunks cs None → joined cs ≡ rs → 0 < length rs → cs ≡ take (first_length cs) rs ∷ chunks_of (drop (first_length cs) rs)
first_of [] rs h j l = let e = ap length j in absurd (omega (arith, e, l))
first_of ([] ∷ cs) rs h j l = absurd h.0
first_of ((r ∷ c) ∷ cs) rs h j l =
    let prefix : take (length (r ∷ c)) rs ≡ r ∷ c = ap (take (length (r ∷ c))) (sym j) ∙ take_left (r ∷ c) (joined cs) in
    let back : drop (length (r ∷ c)) rs ≡ joined cs = ap (drop (length (r ∷ c))) (sym j) ∙ drop_left (r ∷ c) (joined cs) in
    λ i. sym prefix i ∷ (sym (chunks_all cs h.1) ∙ ap chunks_of (sym back)) i

-- the first chunk of what is left, and the chunks after it
pub chunk_next : (rs : List (List ℕ)) (from size : ℕ) → from < length rs → size ≡ first_length (chunks_of (drop from rs)) → chunks_of (drop from rs) ≡ take (from + size - from) (drop from rs) ∷ chunks_of (drop (from + size) rs)
chunk_next rs from size within is =
    let rest = length-drop from rs in
    first_of (chunks_of (drop from rs)) (drop from rs) (chunks_are (drop from rs)) (joined_chunks (drop from rs)) (omega (arith, rest, within))
    ∙ (λ i. take (sym is i) (drop from rs) ∷ chunks_of (drop (sym is i) (drop from rs)))
    ∙ (λ i. take (at i) (drop from rs) ∷ chunks_of (drop-drop size from rs i))
  where
    at : size ≡ from + size - from
    at = omega arith

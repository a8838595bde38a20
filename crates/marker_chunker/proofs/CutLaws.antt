-- Cutting from a boundary on, and which parts of chunks stay chunks.
use Rattle.std.proofs.Common.{◌≡◌, ◌<◌, ◌≤◌, ℕ, suc, ◌+◌, true, false, cond, List, [], ◌∷◌, ◌++◌, length, Some, None, Option, refl, sym, ap, subst, ◌∙◌, arith, append-nil, append_assoc, take, zero, length-append, get_or}
use Rattle.definitions.specs.Records.{text_of}
use Rattle.marker_chunker.specs.Markers.{is_marker}
use Rattle.marker_chunker.specs.Cuts.{last_marks, ends_by, first_or, ends, cut_on, chunks_of, joined, GoesOn, IsOpen, IsChunk, AreChunks, first_length, reach}

pub joined_append : (cs ds : List (List (List ℕ))) → joined (cs ++ ds) ≡ joined cs ++ joined ds
joined_append [] ds = refl
joined_append (c ∷ cs) ds = ap (λ x. c ++ x) (joined_append cs ds) ∙ sym (append_assoc c (joined cs) (joined ds))

pub first_or_append : (next : Option (List ℕ)) (rs ss : List (List ℕ)) → first_or next (rs ++ ss) ≡ first_or (first_or next ss) rs
first_or_append next [] ss = refl
first_or_append next (r ∷ rs) ss = refl

-- what goes on and ends is the first chunk, and the rest is cut in the same way
goes_on_cut : (begun rs rest : List (List ℕ)) → GoesOn begun rs (first_or None rest) → cut_on begun (rs ++ rest) ≡ (begun ++ rs) ∷ chunks_of rest
unfolding cut_on chunks_of ends
goes_on_cut begun [] [] h = ap (λ o. o ∷ []) (sym (append-nil begun))
goes_on_cut begun [] (r ∷ rest) h = ap (λ b. cond b (begun ∷ cut_on (r ∷ []) rest) (cut_on (begun ++ r ∷ []) rest)) h ∙ ap (λ o. o ∷ cut_on (r ∷ []) rest) (sym (append-nil begun))
goes_on_cut begun (r ∷ rs) rest h =
    ap (λ b. cond b (begun ∷ cut_on (r ∷ []) (rs ++ rest)) (cut_on (begun ++ r ∷ []) (rs ++ rest))) h.0
    ∙ goes_on_cut (begun ++ r ∷ []) rs rest h.1
    ∙ ap (λ o. o ∷ chunks_of rest) (append_assoc begun (r ∷ []) rs)

pub chunk_first : (c rest : List (List ℕ)) → IsChunk c (first_or None rest) → chunks_of (c ++ rest) ≡ c ∷ chunks_of rest
unfolding chunks_of
chunk_first [] rest h = absurd h
chunk_first (r ∷ rs) rest h = goes_on_cut (r ∷ []) rs rest h

-- from a boundary on, the cuts of a list are the cuts of the rest
pub chunks_first : (cs : List (List (List ℕ))) (rest : List (List ℕ)) → AreChunks cs (first_or None rest) → chunks_of (joined cs ++ rest) ≡ cs ++ chunks_of rest
chunks_first [] rest h = refl
chunks_first (c ∷ cs) rest h =
    ap chunks_of (append_assoc c (joined cs) rest)
    ∙ chunk_first c (joined cs ++ rest) (subst (λ n. IsChunk c n) (sym (first_or_append None (joined cs) rest)) h.0)
    ∙ ap (λ x. c ∷ x) (chunks_first cs rest h.1)

pub chunks_all : (cs : List (List (List ℕ))) → AreChunks cs None → chunks_of (joined cs) ≡ cs
unfolding chunks_of
chunks_all cs h = ap chunks_of (sym (append-nil (joined cs))) ∙ chunks_first cs [] h ∙ append-nil cs

pub are_chunks_append : (cs ds : List (List (List ℕ))) (next : Option (List ℕ)) → AreChunks cs (first_or next (joined ds)) → AreChunks ds next → AreChunks (cs ++ ds) next
are_chunks_append [] ds next h g = g
are_chunks_append (c ∷ cs) ds next h g = (
  subst (λ n. IsChunk c n) (sym (ap (first_or next) (joined_append cs ds) ∙ first_or_append next (joined cs) (joined ds))) h.0,
  are_chunks_append cs ds next h.1 g,
)

pub are_chunks_left : (cs ds : List (List (List ℕ))) (next : Option (List ℕ)) → AreChunks (cs ++ ds) next → AreChunks cs (first_or next (joined ds))
are_chunks_left [] ds next h = tt
are_chunks_left (c ∷ cs) ds next h = (
  subst (λ n. IsChunk c n) (ap (first_or next) (joined_append cs ds) ∙ first_or_append next (joined cs) (joined ds)) h.0,
  are_chunks_left cs ds next h.1,
)

pub are_chunks_right : (cs ds : List (List (List ℕ))) (next : Option (List ℕ)) → AreChunks (cs ++ ds) next → AreChunks ds next
are_chunks_right [] ds next h = h
are_chunks_right (c ∷ cs) ds next h = are_chunks_right cs ds next h.1

-- a begun list that does not end takes the next record
pub open_more : (begun rs : List (List ℕ)) (r : List ℕ) → IsOpen begun rs → ends (begun ++ rs) (Some r) ≡ false → IsOpen begun (rs ++ r ∷ [])
open_more begun [] r h e = (subst (λ o. ends o (Some r) ≡ false) (append-nil begun) e, tt)
open_more begun (s ∷ rs) r h e = (h.0, open_more (begun ++ s ∷ []) rs r h.1 (subst (λ o. ends o (Some r) ≡ false) (sym (append_assoc begun (s ∷ []) rs)) e))

pub open_ends : (begun rs : List (List ℕ)) (next : Option (List ℕ)) → IsOpen begun rs → ends (begun ++ rs) next ≡ true → GoesOn begun rs next
open_ends begun [] next h e = subst (λ o. ends o next ≡ true) (append-nil begun) e
open_ends begun (r ∷ rs) next h e = (h.0, open_ends (begun ++ r ∷ []) rs next h.1 (subst (λ o. ends o next ≡ true) (sym (append_assoc begun (r ∷ []) rs)) e))

pub joined_cut_on : (begun rest : List (List ℕ)) → joined (cut_on begun rest) ≡ begun ++ rest
unfolding cut_on
joined_cut_on begun [] = refl
joined_cut_on begun (r ∷ rest) =
    elim (ends begun (Some r)) as (λ b. joined (cond b (begun ∷ cut_on (r ∷ []) rest) (cut_on (begun ++ r ∷ []) rest)) ≡ begun ++ r ∷ rest) [
      | true ↦ ap (λ x. begun ++ x) (joined_cut_on (r ∷ []) rest)
      | false ↦ joined_cut_on (begun ++ r ∷ []) rest ∙ append_assoc begun (r ∷ []) rest
    ]

-- every list is cut into chunks that are chunks
cut_on_are : (r : List ℕ) (rs rest : List (List ℕ)) → IsOpen (r ∷ []) rs → AreChunks (cut_on (r ∷ rs) rest) None
unfolding cut_on ends
cut_on_are r rs [] h = (open_ends (r ∷ []) rs None h refl, tt)
cut_on_are r rs (s ∷ rest) h =
    elim (ends (r ∷ rs) (Some s)) as (λ b. ends (r ∷ rs) (Some s) ≡ b → AreChunks (cond b ((r ∷ rs) ∷ cut_on (s ∷ []) rest) (cut_on (r ∷ rs ++ s ∷ []) rest)) None) [
      | true ↦ λ e. (subst (λ n. IsChunk (r ∷ rs) n) (sym (ap (first_or None) (joined_cut_on (s ∷ []) rest))) (open_ends (r ∷ []) rs (Some s) h e), cut_on_are s [] rest tt)
      | false ↦ λ e. cut_on_are r (rs ++ s ∷ []) rest (open_more (r ∷ []) rs s h e)
    ] refl

pub chunks_are : (rs : List (List ℕ)) → AreChunks (chunks_of rs) None
unfolding chunks_of
chunks_are [] = tt
chunks_are (r ∷ rs) = cut_on_are r [] rs tt

pub joined_chunks : (rs : List (List ℕ)) → joined (chunks_of rs) ≡ rs
unfolding chunks_of
joined_chunks [] = refl
joined_chunks (r ∷ rs) = joined_cut_on (r ∷ []) rs

pub last_marks_push : (rs : List (List ℕ)) (r : List ℕ) → last_marks (rs ++ r ∷ []) ≡ is_marker r
last_marks_push [] r = refl
last_marks_push (s ∷ []) r = refl
last_marks_push (s ∷ t ∷ rs) r = last_marks_push (t ∷ rs) r

pub ends_is : (begun : List (List ℕ)) (r : List ℕ) → ends begun (Some r) ≡ ends_by (last_marks begun) (length (text_of begun)) (length r)
unfolding ends
ends_is begun r = refl

-- a begun chunk that does not end takes the next record
pub cut_on_grows : (begun rest : List (List ℕ)) (r : List ℕ) → ends begun (Some r) ≡ false → cut_on begun (r ∷ rest) ≡ cut_on (begun ++ r ∷ []) rest
unfolding cut_on
cut_on_grows begun rest r e = ap (λ b. cond b (begun ∷ cut_on (r ∷ []) rest) (cut_on (begun ++ r ∷ []) rest)) e

pub cut_on_ends : (begun rest : List (List ℕ)) (r : List ℕ) → ends begun (Some r) ≡ true → cut_on begun (r ∷ rest) ≡ begun ∷ cut_on (r ∷ []) rest
unfolding cut_on
cut_on_ends begun rest r e = ap (λ b. cond b (begun ∷ cut_on (r ∷ []) rest) (cut_on (begun ++ r ∷ []) rest)) e

open_run : (begun rs rest : List (List ℕ)) → IsOpen begun rs → cut_on begun (rs ++ rest) ≡ cut_on (begun ++ rs) rest
open_run begun [] rest h = ap (λ b. cut_on b rest) (sym (append-nil begun))
open_run begun (r ∷ rs) rest h = cut_on_grows begun (rs ++ rest) r h.0 ∙ open_run (begun ++ r ∷ []) rs rest h.1 ∙ ap (λ b. cut_on b rest) (append_assoc begun (r ∷ []) rs)

first_longer : (begun rest : List (List ℕ)) → length begun ≤ first_length (cut_on begun rest)
unfolding cut_on
first_longer begun [] = omega arith
first_longer begun (r ∷ rest) =
    elim (ends begun (Some r)) as (λ b. length begun ≤ first_length (cond b (begun ∷ cut_on (r ∷ []) rest) (cut_on (begun ++ r ∷ []) rest))) [
      | true ↦ omega arith
      | false ↦ (let h = first_longer (begun ++ r ∷ []) rest in let e = length-append begun (r ∷ []) in omega arith)
    ]

-- no boundary lies within a chunk
within_first : (cs : List (List (List ℕ))) (k q : ℕ) → 0 < k → k < first_length cs → reach q cs ≡ k → ⊥
within_first [] k q p l e = omega arith
within_first (c ∷ cs) k zero p l e = omega arith
within_first (c ∷ cs) k (suc q) p l e = let h = length-append c (joined (take q cs)) in omega arith

within : (done cs : List (List (List ℕ))) (k q : ℕ) → 0 < k → k < first_length cs → reach q (done ++ cs) ≡ length (joined done) + k → ⊥
within [] cs k q p l e = within_first cs k q p l (omega arith)
within (d ∷ done) cs k zero p l e = omega arith
within (d ∷ done) cs k (suc q) p l e =
    let h = length-append d (joined (take q (done ++ cs))) in
    let g = length-append d (joined done) in
    within done cs k q p l (omega arith)

-- if a begun chunk does not end, there is no boundary
pub no_boundary : (done : List (List (List ℕ))) (s : List ℕ) (rs : List (List ℕ)) (r : List ℕ) (rest : List (List ℕ)) (q : ℕ)
    → AreChunks done (Some s) → IsOpen (s ∷ []) rs → ends (s ∷ rs) (Some r) ≡ false
    → reach q (chunks_of ((joined done ++ s ∷ rs) ++ r ∷ rest)) ≡ length (joined done ++ s ∷ rs) → ⊥
unfolding chunks_of
no_boundary done s rs r rest q h o e meets =
    let cut : chunks_of ((joined done ++ s ∷ rs) ++ r ∷ rest) ≡ done ++ cut_on (s ∷ rs ++ r ∷ []) rest =
    ap chunks_of (append_assoc (joined done) (s ∷ rs) (r ∷ rest))
    ∙ chunks_first done (s ∷ rs ++ r ∷ rest) h
    ∙ ap (λ x. done ++ x) (open_run (s ∷ []) rs (r ∷ rest) o ∙ cut_on_grows (s ∷ rs) rest r e) in
    let longer = first_longer (s ∷ rs ++ r ∷ []) rest in
    let size = length-append (s ∷ rs) (r ∷ []) in
    let all = length-append (joined done) (s ∷ rs) in
    within done (cut_on (s ∷ rs ++ r ∷ []) rest) (length (s ∷ rs)) q (omega arith) (omega arith)
    (ap (reach q) (sym cut) ∙ meets ∙ all)

pub not_empty : (cs : List (List (List ℕ))) (next : Option (List ℕ)) (i : ℕ) → AreChunks cs next → i < length cs → 0 < length (get_or cs i [])
not_empty [] next i h l = absurd (omega arith)
not_empty ([] ∷ cs) next zero h l = absurd h.0
not_empty ((r ∷ rs) ∷ cs) next zero h l = omega arith
not_empty (c ∷ cs) next (suc i) h l = not_empty cs next i h.1 (omega arith)

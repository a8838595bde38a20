-- Where the chunks of each file end among all chunks.
use Rattle.std.proofs.Common.{◌≡◌, ◌≤◌, ◌<◌, ℕ, zero, suc, ◌+◌, ◌-◌, List, [], ◌∷◌, ◌++◌, length, take, drop, get_or, true, false, leb, leb-true, leb-false, inl, inr, refl, sym, ap, ◌∙◌, arith, append-nil, length-append}
use Rattle.std.specs.List.Sorted.{IsPartitionedBy, IsNonDecreasingBy}
use Rattle.std.proofs.lemmas.List.{take_more, take_all, get_or_append_left, get_or-append_right}
use Rattle.std.proofs.lemmas.List.Sorted.{IsPartitionedBy-leb}
use Rattle.std.proofs.lemmas.Bool.{cases_order}
use Rattle.chunk_store.specs.Files.{File, all_chunks, ends_of}
use Rattle.chunk_store.proofs.Together.{all_append, all_at}

pub ends_length : (from : ℕ) (files : List File) → length (ends_of from files) ≡ length files
ends_length from [] = refl
ends_length from (f ∷ fs) = ap suc (ends_length (from + length f.1) fs)

ends_append : (from : ℕ) (fs : List File) (f : File) → ends_of from (fs ++ f ∷ []) ≡ ends_of from fs ++ (from + length (all_chunks (fs ++ f ∷ []))) ∷ []
ends_append from [] f = ap (λ (x : List (List (List ℕ))). (from + length x) ∷ []) (sym (append-nil f.1))
ends_append from (g ∷ fs) f =
    let a = length-append g.1 (all_chunks (fs ++ f ∷ [])) in
    let sum : (from + length g.1) + length (all_chunks (fs ++ f ∷ [])) ≡ from + length (g.1 ++ all_chunks (fs ++ f ∷ [])) = omega arith in
    ap (λ x. (from + length g.1) ∷ x) (ends_append (from + length g.1) fs f)
    ∙ ap (λ n. (from + length g.1) ∷ (ends_of (from + length g.1) fs ++ n ∷ [])) sum

pub ends_more : (files : List File) (i : ℕ) (d : File) → i < length files → ends_of 0 (take (i + 1) files) ≡ ends_of 0 (take i files) ++ length (all_chunks (take (i + 1) files)) ∷ []
ends_more files i d l =
    let more = take_more files i d l in
    let e : 0 + length (all_chunks (take i files ++ get_or files i d ∷ [])) ≡ length (all_chunks (take (i + 1) files)) = let s = ap (λ x. length (all_chunks x)) more in omega arith in
    ap (ends_of 0) more ∙ ends_append 0 (take i files) (get_or files i d) ∙ ap (λ n. ends_of 0 (take i files) ++ n ∷ []) e

pub count_more : (files : List File) (i : ℕ) (d : File) → i < length files → length (all_chunks (take (i + 1) files)) ≡ length (all_chunks (take i files)) + length (get_or files i d).1
count_more files i d l =
    let more = ap (λ x. length (all_chunks x)) (take_more files i d l) in
    let a = ap length (all_append (take i files) (get_or files i d ∷ [])) in
    let b = length-append (all_chunks (take i files)) (all_chunks (get_or files i d ∷ [])) in
    let c = ap length (append-nil (get_or files i d).1) in
    omega arith

pub count_rises : (files : List File) (i j : ℕ) → i ≤ j → length (all_chunks (take i files)) ≤ length (all_chunks (take j files))
count_rises [] zero zero l = omega arith
count_rises [] zero (suc j) l = omega arith
count_rises [] (suc i) zero l = omega arith
count_rises [] (suc i) (suc j) l = omega arith
count_rises (f ∷ fs) zero j l = omega arith
count_rises (f ∷ fs) (suc i) zero l = absurd (omega arith)
count_rises (f ∷ fs) (suc i) (suc j) l =
    let a = length-append f.1 (all_chunks (take i fs)) in
    let b = length-append f.1 (all_chunks (take j fs)) in
    let h = count_rises fs i j (omega arith) in
    omega arith

pub count_all : (files : List File) (i : ℕ) → length files ≤ i → length (all_chunks (take i files)) ≡ length (all_chunks files)
count_all files i l = ap (λ x. length (all_chunks x)) (take_all i files l)

ends_get : (from : ℕ) (files : List File) (k d : ℕ) → k < length files → get_or (ends_of from files) k d ≡ from + length (all_chunks (take (k + 1) files))
ends_get from [] k d l = absurd (omega arith)
ends_get from (f ∷ fs) zero d l = let a = length-append f.1 (all_chunks (take 0 fs)) in omega arith
ends_get from (f ∷ fs) (suc k) d l =
    let h = ends_get (from + length f.1) fs k d (omega arith) in
    let a = length-append f.1 (all_chunks (take (k + 1) fs)) in
    let e : suc k + 1 ≡ suc (k + 1) = omega arith in
    let t = ap (λ n. length (all_chunks (take n (f ∷ fs)))) e in
    omega arith

pub end_at : (files : List File) (k d : ℕ) → k < length files → get_or (ends_of 0 files) k d ≡ length (all_chunks (take (k + 1) files))
end_at files k d l = let h = ends_get 0 files k d l in omega arith

ends_rise : (files : List File) → IsNonDecreasingBy (λ (x : ℕ). x) (ends_of 0 files)
ends_rise files i j d le l =
    let n = ends_length 0 files in
    let a = end_at files i d (omega arith) in
    let b = end_at files j d (omega arith) in
    let c = count_rises files (i + 1) (j + 1) (omega arith) in
    omega arith

pub ends_parted : (files : List File) (i : ℕ) → IsPartitionedBy (λ y. leb y i) (ends_of 0 files)
ends_parted files i = IsPartitionedBy-leb (λ (x : ℕ). x) (ends_of 0 files) i (ends_rise files)

-- the chunk of all at a place, in its file
pub chunk_in : (files : List File) (k i : ℕ) (d : File) → k < length files → length (all_chunks (take k files)) ≤ i → i < length (all_chunks (take (k + 1) files))
    → get_or (all_chunks files) i [] ≡ get_or (get_or files k d).1 (i - length (all_chunks (take k files))) []
chunk_in files k i d l low high =
    let more = count_more files k d l in
    ap (λ x. get_or x i []) (all_at files k d l)
    ∙ get_or-append_right (all_chunks (take k files)) ((get_or files k d).1 ++ all_chunks (drop (k + 1) files)) (length (all_chunks (take k files))) i [] refl low
    ∙ get_or_append_left (get_or files k d).1 (all_chunks (drop (k + 1) files)) [] (i - length (all_chunks (take k files))) (omega arith)

pub ends_take : (from : ℕ) (files : List File) (i : ℕ) → take i (ends_of from files) ≡ ends_of from (take i files)
ends_take from [] zero = refl
ends_take from [] (suc i) = refl
ends_take from (f ∷ fs) zero = refl
ends_take from (f ∷ fs) (suc i) = ap (λ x. (from + length f.1) ∷ x) (ends_take (from + length f.1) fs i)

-- what a search among the ends says
pub chunk_file : (files : List File) (ends : List ℕ) (i k : ℕ) → ends ≡ ends_of 0 files → i < length (all_chunks files) → k ≤ length ends
    → ((j d : ℕ) → j < k → leb (get_or ends j d) i ≡ true) → ((j d : ℕ) → k ≤ j → j < length ends → leb (get_or ends j d) i ≡ false)
    → (k < length files) × (length (all_chunks (take k files)) ≤ i) × (i < length (all_chunks (take (k + 1) files)))
chunk_file files ends i k e l m lows highs =
    let n = ap length e ∙ ends_length 0 files in
    let low : length (all_chunks (take k files)) ≤ i = below k (omega arith) lows in
    let within : k < length files = inside (omega arith) low in
    let high = leb-false _ _ (highs k 0 (omega arith) (omega arith)) in
    let here = ap (λ x. get_or x k 0) e ∙ end_at files k 0 within in
    (within, low, omega arith)
  where
    below : (k : ℕ) → k ≤ length files → ((j d : ℕ) → j < k → leb (get_or ends j d) i ≡ true) → length (all_chunks (take k files)) ≤ i
    below zero m lows = omega arith
    below (suc k) m lows =
        let a = leb-true _ _ (lows k 0 (omega arith)) in
        let b = ap (λ x. get_or x k 0) e ∙ end_at files k 0 (omega arith) in
        let s : k + 1 ≡ suc k = omega arith in
        let t = ap (λ n. length (all_chunks (take n files))) s in
        omega arith

    inside : k ≤ length files → length (all_chunks (take k files)) ≤ i → k < length files
    inside m low =
        elim (cases_order k (length files)) [
          | inl same ↦ (let all = count_all files k (omega arith) in absurd (omega arith))
          | inr (inl less) ↦ less
          | inr (inr more) ↦ absurd (omega arith)
        ]

-- Places among chunks.
use Rattle.std.proofs.Common.{◌≡◌, ◌≤◌, ◌<◌, ℕ, zero, suc, ◌+◌, ◌-◌, true, List, [], ◌∷◌, ◌++◌, length, Some, None, Option, refl, sym, ap, ◌∙◌, arith, take, drop, get_or, length-append, below_more}
use Rattle.std.proofs.lemmas.List.{drop_more, take-append-drop, drop_all, take_all, drop_at, drop-append-le, take_at, take-append-le}
use Rattle.marker_chunker.specs.Cuts.{first_or, joined, AreChunks, reach, chunks_of, ends}
use Rattle.marker_chunker.proofs.CutLaws.{joined_append, not_empty}
use Rattle.chunk_store.specs.Cutting.{stops_at}
use Rattle.chunk_store.specs.Documents.{NoMeeting}

pub reach_split : (i : ℕ) (cs : List (List (List ℕ))) → reach i cs + length (joined (drop i cs)) ≡ length (joined cs)
reach_split i cs =
    sym (length-append (joined (take i cs)) (joined (drop i cs))) ∙ ap length (sym (joined_append (take i cs) (drop i cs))) ∙ ap (λ x. length (joined x)) (take-append-drop i cs)

pub chunk_at : (i : ℕ) (cs : List (List (List ℕ))) → i < length cs → joined (drop i cs) ≡ get_or cs i [] ++ joined (drop (i + 1) cs)
chunk_at i cs l = ap joined (drop_more cs i [] l)

pub reach_more : (i : ℕ) (cs : List (List (List ℕ))) → i < length cs → reach (i + 1) cs ≡ reach i cs + length (get_or cs i [])
reach_more i cs l =
    let a = reach_split i cs in
    let b = reach_split (i + 1) cs in
    let e = ap length (chunk_at i cs l) in
    let f = length-append (get_or cs i []) (joined (drop (i + 1) cs)) in
    omega arith

first_of : (c rest : List (List ℕ)) → 0 < length c → first_or None (c ++ rest) ≡ Some (get_or c 0 [])
first_of [] rest l = absurd (omega arith)
first_of (r ∷ c) rest l = refl

pub first_at : (i : ℕ) (cs : List (List (List ℕ))) → AreChunks cs None → i < length cs → first_or None (joined (drop i cs)) ≡ Some (get_or (get_or cs i []) 0 [])
first_at i cs h l = ap (first_or None) (chunk_at i cs l) ∙ first_of (get_or cs i []) (joined (drop (i + 1) cs)) (not_empty cs None i h l)

head_rest : (c : List (List ℕ)) → 0 < length c → c ≡ get_or c 0 [] ∷ drop 1 c
head_rest c l = drop_more c 0 [] l

pub stops_last : (begun : List (List ℕ)) (i : ℕ) (cs : List (List (List ℕ))) → length cs ≤ i → stops_at begun (first_or None (joined (drop i cs))) ≡ true
unfolding ends
stops_last [] i cs l = refl
stops_last (r ∷ rs) i cs l = ap (λ (x : List (List (List ℕ))). ends (r ∷ rs) (first_or None (joined x))) (drop_all i cs l)

pub meets_more : (cs : List (List (List ℕ))) (from place : ℕ) (now begun : List (List ℕ)) → AreChunks cs None → place < length cs
    → now ++ joined (drop place cs) ≡ begun ++ joined (drop from cs)
    → ((rest : List (List ℕ)) (q : ℕ) → reach q (chunks_of (now ++ get_or (get_or cs place []) 0 [] ∷ rest)) ≡ length now → ⊥)
    → NoMeeting cs from place (chunks_of (begun ++ joined (drop from cs))) (length begun)
    → NoMeeting cs from (place + 1) (chunks_of (begun ++ joined (drop from cs))) (length begun)
meets_more cs from place now begun h l same apart least g q a b meets =
    let c : List (List ℕ) = get_or cs place [] in
    let rest : List (List ℕ) = drop 1 c ++ joined (drop (place + 1) cs) in
    let text : joined (drop place cs) ≡ get_or c 0 [] ∷ rest = chunk_at place cs l ∙ ap (λ x. x ++ joined (drop (place + 1) cs)) (head_rest c (not_empty cs None place h l)) in
    let news : chunks_of (begun ++ joined (drop from cs)) ≡ chunks_of (now ++ get_or c 0 [] ∷ rest) = ap chunks_of (sym same ∙ ap (λ x. now ++ x) text) in
    let s1 = reach_split place cs in
    let s2 = reach_split from cs in
    let s3 = ap length same in
    let s4 = length-append now (joined (drop place cs)) in
    let s5 = length-append begun (joined (drop from cs)) in
    let here : (p : ℕ) → reach p (chunks_of (begun ++ joined (drop from cs))) + reach from cs ≡ length begun + reach place cs → ⊥ =
    λ p m. apart rest p (sym (ap (reach p) news) ∙ omega arith) in
    below_more (λ (k : ℕ). (p : ℕ) → from ≤ k → reach p (chunks_of (begun ++ joined (drop from cs))) + reach from cs ≡ length begun + reach k cs → ⊥) place
    (λ k m p f e. least k p f m e) (λ p f e. here p e) g b q a meets

-- a part of a list that reaches into its second piece
pub take_within : (a c b : List (List ℕ)) (to : ℕ) → length a ≤ to → to ≤ length a + length c → take to (a ++ (c ++ b)) ≡ a ++ take (to - length a) c
take_within [] c b to h l = let e : to - 0 ≡ to = omega arith in take-append-le to c b (omega arith) ∙ ap (λ k. take k c) (sym e)
take_within (x ∷ a) c b zero h l = absurd (omega arith)
take_within (x ∷ a) c b (suc to) h l =
    let e : suc to - suc (length a) ≡ to - length a = omega arith in
    ap (λ y. x ∷ y) (take_within a c b to (omega arith) (omega arith)) ∙ ap (λ k. x ∷ (a ++ take k c)) (sym e)

pub drop_within : (a c b : List (List ℕ)) (to : ℕ) → length a ≤ to → to ≤ length a + length c → drop to (a ++ (c ++ b)) ≡ drop (to - length a) c ++ b
drop_within [] c b to h l = let e : to - 0 ≡ to = omega arith in drop-append-le to c b (omega arith) ∙ ap (λ k. drop k c ++ b) (sym e)
drop_within (x ∷ a) c b zero h l = absurd (omega arith)
drop_within (x ∷ a) c b (suc to) h l =
    let e : suc to - suc (length a) ≡ to - length a = omega arith in
    drop_within a c b to (omega arith) (omega arith) ∙ ap (λ k. drop k c ++ b) (sym e)

pub reach_rises : (cs : List (List (List ℕ))) (next : Option (List ℕ)) (i j : ℕ) → AreChunks cs next → i < j → j ≤ length cs → reach i cs < reach j cs
reach_rises [] next i j h l m = absurd (omega arith)
reach_rises (c ∷ cs) next i zero h l m = absurd (omega arith)
reach_rises (c ∷ cs) next zero (suc j) h l m =
    let some : 0 < length c = not_empty (c ∷ cs) next 0 h (omega arith) in
    let e = length-append c (joined (take j cs)) in
    omega arith
reach_rises (c ∷ cs) next (suc i) (suc j) h l m =
    let e = length-append c (joined (take j cs)) in
    let f = length-append c (joined (take i cs)) in
    let g = reach_rises cs next i j h.1 (omega arith) (omega arith) in
    omega arith

pub joined_at : (i : ℕ) (cs : List (List (List ℕ))) → i < length cs → joined cs ≡ joined (take i cs) ++ (get_or cs i [] ++ joined (drop (i + 1) cs))
joined_at i cs l = sym (ap joined (take-append-drop i cs)) ∙ joined_append (take i cs) (drop i cs) ∙ ap (λ x. joined (take i cs) ++ x) (chunk_at i cs l)

-- a place that no chunk holds is the end
pub reach_all : (i : ℕ) (cs : List (List (List ℕ))) → length cs ≤ i → reach i cs ≡ length (joined cs)
reach_all i cs l = ap (λ x. length (joined x)) (take_all i cs l)

pub take_at_chunk : (i to : ℕ) (cs : List (List (List ℕ))) → i < length cs → reach i cs ≤ to → to ≤ reach (i + 1) cs → joined (take i cs) ++ take (to - reach i cs) (get_or cs i []) ≡ take to (joined cs)
take_at_chunk i to cs l h m =
    let more = reach_more i cs l in
    sym (take_within (joined (take i cs)) (get_or cs i []) (joined (drop (i + 1) cs)) to h (omega arith)) ∙ ap (take to) (sym (joined_at i cs l))

pub drop_at_chunk : (i to : ℕ) (cs : List (List (List ℕ))) → i < length cs → reach i cs ≤ to → to ≤ reach (i + 1) cs → drop (to - reach i cs) (get_or cs i []) ++ joined (drop (i + 1) cs) ≡ drop to (joined cs)
drop_at_chunk i to cs l h m =
    let more = reach_more i cs l in
    sym (drop_within (joined (take i cs)) (get_or cs i []) (joined (drop (i + 1) cs)) to h (omega arith)) ∙ ap (drop to) (sym (joined_at i cs l))

pub drop_whole : (i to : ℕ) (cs : List (List (List ℕ))) → reach i cs ≡ to → joined (drop i cs) ≡ drop to (joined cs)
drop_whole i to cs e =
    sym (drop_at (joined (take i cs)) (joined (drop i cs)) to e) ∙ ap (drop to) (sym (joined_append (take i cs) (drop i cs)) ∙ ap joined (take-append-drop i cs))

pub held : (i k : ℕ) (cs : List (List (List ℕ))) → reach i cs ≤ k → k < length (joined cs) → i < length cs
held i k [] h l = absurd (omega arith)
held zero k (c ∷ cs) h l = omega arith
held (suc i) k (c ∷ cs) h l =
    let e = length-append c (joined (take i cs)) in
    let f = length-append c (joined cs) in
    let g = held i (k - length c) cs (omega arith) (omega arith) in
    omega arith

pub reach_grows : (cs : List (List (List ℕ))) (i j : ℕ) → i ≤ j → reach i cs ≤ reach j cs
reach_grows [] zero j l = omega arith
reach_grows [] (suc i) zero l = omega arith
reach_grows [] (suc i) (suc j) l = omega arith
reach_grows (c ∷ cs) zero j l = omega arith
reach_grows (c ∷ cs) (suc i) zero l = absurd (omega arith)
reach_grows (c ∷ cs) (suc i) (suc j) l =
    let e = length-append c (joined (take j cs)) in
    let f = length-append c (joined (take i cs)) in
    let g = reach_grows cs i j (omega arith) in
    omega arith

pub take_whole : (i to : ℕ) (cs : List (List (List ℕ))) → reach i cs ≡ to → joined (take i cs) ≡ take to (joined cs)
take_whole i to cs e =
    sym (take_at (joined (take i cs)) (joined (drop i cs)) to e) ∙ ap (take to) (sym (joined_append (take i cs) (drop i cs)) ∙ ap joined (take-append-drop i cs))

-- A chunk that is being cut, as a part of the list of records.
use Rattle.std.proofs.Common.{◌≡◌, ◌<◌, ◌≤◌, ℕ, ◌+◌, ◌-◌, Bool, true, false, ◌&&◌, ◌||◌, nat_le, nat_lt, List, [], ◌∷◌, ◌++◌, length, Some, None, refl, sym, ap, subst, ◌∙◌, arith, append-nil, take, drop, get_or, length-append}
use Rattle.std.proofs.lemmas.List.{take_more, drop_more, drop_all, get_or-drop, length-drop, length-take-le, drop-append-le, drop-drop}
use Rattle.std.proofs.lemmas.Bool.{ltb-false}
use Rattle.definitions.specs.Records.{text_of}
use Rattle.marker_chunker.specs.Markers.{is_marker}
use Rattle.marker_chunker.specs.Cuts.{last_marks, ends_by, ends, cut_on, chunks_of, joined, AreChunks, first_length, places}
use Rattle.marker_chunker.proofs.CutLaws.{chunks_all, chunks_are, joined_chunks, last_marks_push, ends_is, cut_on_grows, cut_on_ends}

pub size_push : (rs : List (List ℕ)) (r : List ℕ) → length (text_of (rs ++ r ∷ [])) ≡ length (text_of rs) + (length r + 1)
size_push [] r = let e = length-append r (10 ∷ []) in omega arith
size_push (s ∷ rs) r =
    let h = size_push rs r in
    let a = length-append s (10 ∷ text_of (rs ++ r ∷ [])) in
    let b = length-append s (10 ∷ text_of rs) in
    omega arith

-- the records from one place to another
abbrev pub part : ℕ → ℕ → List (List ℕ) → List (List ℕ)
part from to rs = take (to - from) (drop from rs)

pub part_more : (rs : List (List ℕ)) (from to : ℕ) → from ≤ to → to < length rs → part from (to + 1) rs ≡ part from to rs ++ get_or rs to [] ∷ []
part_more rs from to h l =
    let more : to + 1 - from ≡ to - from + 1 = omega arith in
    let here : from + (to - from) ≡ to = omega arith in
    let lt : to - from < length (drop from rs) = omega (arith, length-drop from rs) in
    ap (λ k. take k (drop from rs)) more ∙ take_more (drop from rs) (to - from) [] lt
    ∙ ap (λ r. take (to - from) (drop from rs) ++ r ∷ []) (get_or-drop from rs (to - from) [] ∙ ap (λ k. get_or rs k []) here)

pub part_none : (rs : List (List ℕ)) (from : ℕ) → part from from rs ≡ []
part_none rs from = let none : from - from ≡ 0 = omega arith in ap (λ k. take k (drop from rs)) none

pub part_length : (rs : List (List ℕ)) (from to : ℕ) → from ≤ to → to ≤ length rs → length (part from to rs) ≡ to - from
part_length rs from to h l = length-take-le (to - from) (drop from rs) (omega (arith, length-drop from rs))

-- a chunk that is begun from one place on and has not ended before another
pub record IsGrowing (rs : List (List ℕ)) (from to : ℕ) (marks : Bool) (size : ℕ) : Type 0 where
  pub cut : chunks_of (drop from rs) ≡ cut_on (part from to rs) (drop to rs)
  pub marked : marks ≡ last_marks (part from to rs)
  pub sized : size ≡ length (text_of (part from to rs))
  pub small : size ≤ 65536

pub one : (rs : List (List ℕ)) (from : ℕ) → from < length rs → part from (from + 1) rs ≡ get_or rs from [] ∷ []
one rs from l = part_more rs from from (omega arith) l ∙ ap (λ x. x ++ get_or rs from [] ∷ []) (part_none rs from)

chunks_one : (r : List ℕ) (rs : List (List ℕ)) → chunks_of (r ∷ rs) ≡ cut_on (r ∷ []) rs
unfolding chunks_of
chunks_one r rs = refl

pub begins : (rs : List (List ℕ)) (from : ℕ) (marks : Bool) (r : List ℕ) → from < length rs → r ≡ get_or rs from [] → marks ≡ is_marker r → length r ≤ 65535 → IsGrowing rs from (from + 1) marks (length r + 1)
begins rs from marks r l is mark most =
    let here : part from (from + 1) rs ≡ r ∷ [] = one rs from l ∙ ap (λ x. x ∷ []) (sym is) in
    record {
      cut = ap chunks_of (drop_more rs from [] l) ∙ chunks_one (get_or rs from []) (drop (from + 1) rs) ∙ ap (λ x. cut_on x (drop (from + 1) rs)) (sym (one rs from l));
      marked = mark ∙ sym (ap last_marks here);
      sized = (let e = ap (λ x. length (text_of x)) here ∙ size_push [] r in omega arith);
      small = omega arith;
    }

pub ends_here : (rs : List (List ℕ)) (from to : ℕ) (marks : Bool) (size : ℕ) (r : List ℕ) → IsGrowing rs from to marks size → ends (part from to rs) (Some r) ≡ ends_by marks size (length r)
ends_here rs from to marks size r h =
    ends_is (part from to rs) r
    ∙ ap (λ m. ends_by m (length (text_of (part from to rs))) (length r)) (sym h.marked)
    ∙ ap (λ s. ends_by marks s (length r)) (sym h.sized)

or_false : (a b : Bool) → (a || b) ≡ false → b ≡ false
or_false true b e = cc
or_false false b e = e

pub grows : (rs : List (List ℕ)) (from to : ℕ) (marks : Bool) (size : ℕ) (r : List ℕ) (next : Bool) → IsGrowing rs from to marks size → from ≤ to → to < length rs
    → r ≡ get_or rs to [] → next ≡ is_marker r → ends_by marks size (length r) ≡ false → IsGrowing rs from (to + 1) next (size + (length r + 1))
grows rs from to marks size r next h o l is mark goes =
    let more : part from (to + 1) rs ≡ part from to rs ++ r ∷ [] = part_more rs from to o l ∙ ap (λ x. part from to rs ++ x ∷ []) (sym is) in
    let rest : drop to rs ≡ r ∷ drop (to + 1) rs = drop_more rs to [] l ∙ ap (λ x. x ∷ drop (to + 1) rs) (sym is) in
    record {
      cut = h.cut ∙ ap (cut_on (part from to rs)) rest
          ∙ cut_on_grows (part from to rs) (drop (to + 1) rs) r (ends_here rs from to marks size r h ∙ goes)
          ∙ ap (λ x. cut_on x (drop (to + 1) rs)) (sym more);
      marked = mark ∙ sym (ap last_marks more ∙ last_marks_push (part from to rs) r);
      sized = ap (λ s. s + (length r + 1)) h.sized ∙ sym (ap (λ x. length (text_of x)) more ∙ size_push (part from to rs) r);
      small = (let f = ltb-false 65536 (size + (length r + 1)) (or_false (marks && nat_le 512 size) (nat_lt 65536 (size + (length r + 1))) goes) in omega arith);
    }

pub ends_at : (rs : List (List ℕ)) (from to : ℕ) (marks : Bool) (size : ℕ) (r : List ℕ) → IsGrowing rs from to marks size → from ≤ to → to < length rs
    → r ≡ get_or rs to [] → ends_by marks size (length r) ≡ true → to - from ≡ first_length (chunks_of (drop from rs))
ends_at rs from to marks size r h o l is stops =
    let rest : drop to rs ≡ r ∷ drop (to + 1) rs = drop_more rs to [] l ∙ ap (λ x. x ∷ drop (to + 1) rs) (sym is) in
    sym (ap first_length (h.cut ∙ ap (cut_on (part from to rs)) rest ∙ cut_on_ends (part from to rs) (drop (to + 1) rs) r (ends_here rs from to marks size r h ∙ stops))
    ∙ part_length rs from to o (omega arith))

cut_all_begun : (begun : List (List ℕ)) → cut_on begun [] ≡ begun ∷ []
unfolding cut_on
cut_all_begun begun = refl

pub ends_last : (rs : List (List ℕ)) (from to : ℕ) (marks : Bool) (size : ℕ) → IsGrowing rs from to marks size → from ≤ to → to ≡ length rs → to - from ≡ first_length (chunks_of (drop from rs))
ends_last rs from to marks size h o l =
    sym (ap first_length (h.cut ∙ ap (cut_on (part from to rs)) (drop_all to rs (omega arith)) ∙ cut_all_begun (part from to rs))
    ∙ part_length rs from to o (omega arith))

drop_left : (xs ys : List (List ℕ)) → drop (length xs) (xs ++ ys) ≡ ys
drop_left xs ys = drop-append-le (length xs) xs ys (omega arith) ∙ ap (λ x. x ++ ys) (drop_all (length xs) xs (omega arith))

step_cuts : (start : ℕ) (cs : List (List (List ℕ))) (rs : List (List ℕ)) → AreChunks cs None → joined cs ≡ rs → 0 < length rs
    → (0 < first_length cs) × (first_length cs ≤ length rs) × (places start cs ≡ (start + first_length cs) ∷ places (start + first_length cs) (chunks_of (drop (first_length cs) rs)))
step_cuts start [] rs h j l = let e = ap length j in absurd (omega arith)
step_cuts start ([] ∷ cs) rs h j l = absurd h.0
step_cuts start ((r ∷ c) ∷ cs) rs h j l =
    let size = length-append (r ∷ c) (joined cs) in
    let all = ap length j in (
      omega arith,
      omega arith,
      ap (λ x. (start + length (r ∷ c)) ∷ places (start + length (r ∷ c)) x)
          (sym (chunks_all cs h.1) ∙ ap chunks_of (sym (ap (drop (length (r ∷ c))) (sym j) ∙ drop_left (r ∷ c) (joined cs)))),
    )

-- one chunk more of the cuts of a list
pub next_cut : (rs : List (List ℕ)) (from size : ℕ) → from < length rs → size ≡ first_length (chunks_of (drop from rs))
    → (0 < size) × (from + size ≤ length rs) × (places from (chunks_of (drop from rs)) ≡ (from + size) ∷ places (from + size) (chunks_of (drop (from + size) rs)))
next_cut rs from size l is =
    let rest = length-drop from rs in
    let h = step_cuts from (chunks_of (drop from rs)) (drop from rs) (chunks_are (drop from rs)) (joined_chunks (drop from rs)) (omega arith) in
    subst (λ n. (0 < n) × (from + n ≤ length rs) × (places from (chunks_of (drop from rs)) ≡ (from + n) ∷ places (from + n) (chunks_of (drop (from + n) rs)))) (sym is)
    (h.0, (let m = h.1 in omega arith), h.2 ∙ ap (λ x. (from + first_length (chunks_of (drop from rs))) ∷ places (from + first_length (chunks_of (drop from rs))) (chunks_of x)) (drop-drop (first_length (chunks_of (drop from rs))) from rs))

places_none : (start : ℕ) → places start (chunks_of []) ≡ []
unfolding chunks_of
places_none start = refl

pub all_cut : (ends : List ℕ) (rs : List (List ℕ)) (from : ℕ) → ends ++ places from (chunks_of (drop from rs)) ≡ places 0 (chunks_of rs) → from ≡ length rs → ends ≡ places 0 (chunks_of rs)
all_cut ends rs from h l =
    sym (append-nil ends) ∙ ap (λ x. ends ++ x) (sym (ap (λ x. places from (chunks_of x)) (drop_all from rs (omega arith)) ∙ places_none from)) ∙ h

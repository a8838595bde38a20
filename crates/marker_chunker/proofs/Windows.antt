-- The windows of a text, one after the other.
use Rattle.std.proofs.Common.{◌≡◌, ◌≤◌, ◌<◌, ℕ, ◌+◌, ◌-◌, Bool, true, false, cond, ◌&&◌, ◌||◌, nat_lt, List, [], ◌∷◌, ◌++◌, length, take, drop, get_or, refl, sym, ap, ◌∙◌, arith, ◌⊎◌, inl, inr}
use Rattle.std.proofs.lemmas.List.{drop-append-le, length-drop, length_push, drop-drop, drop_more, take_more, length-take-le}
use Rattle.std.proofs.lemmas.Bool.{le-ltb, lt-ltb, ltb-false, ltb-true}
use Rattle.marker_chunker.specs.Markers.{last_bytes, marks, some_marks, is_marker}

pub last_push : (xs : List ℕ) (b : ℕ) → last_bytes (last_bytes xs ++ b ∷ []) ≡ last_bytes (xs ++ b ∷ [])
last_push xs b =
    let d = length-drop (length xs - 16) xs in
    let p = length_push (last_bytes xs) b in
    let q = length_push xs b in
    let k : length (last_bytes xs ++ b ∷ []) - 16 ≤ length (last_bytes xs) = omega arith in
    let m : length (xs ++ b ∷ []) - 16 ≤ length xs = omega arith in
    let n : (length xs - 16) + (length (last_bytes xs ++ b ∷ []) - 16) ≡ length (xs ++ b ∷ []) - 16 = omega arith in
    drop-append-le (length (last_bytes xs ++ b ∷ []) - 16) (last_bytes xs) (b ∷ []) k
    ∙ ap (λ x. x ++ b ∷ []) (drop-drop (length (last_bytes xs ++ b ∷ []) - 16) (length xs - 16) xs ∙ ap (λ j. drop j xs) n)
    ∙ sym (drop-append-le (length (xs ++ b ∷ []) - 16) xs (b ∷ []) m)

-- a window that does not mark is passed
pub passes : (before rest : List ℕ) (b : ℕ) → (nat_lt 15 (length (before ++ b ∷ [])) && marks (last_bytes (before ++ b ∷ []))) ≡ false → some_marks before (b ∷ rest) ≡ some_marks (before ++ b ∷ []) rest
unfolding some_marks
passes before rest b e = ap (λ t. t || some_marks (before ++ b ∷ []) rest) e

pub stays : (before rest : List ℕ) (b : ℕ) → (nat_lt 15 (length (before ++ b ∷ [])) && marks (last_bytes (before ++ b ∷ []))) ≡ true → some_marks before (b ∷ rest) ≡ true
unfolding some_marks
stays before rest b e = ap (λ t. t || some_marks (before ++ b ∷ []) rest) e

window_at : (r : List ℕ) (i : ℕ) (roll : List ℕ) → roll ≡ last_bytes (take i r) → i < length r → last_bytes (roll ++ get_or r i 0 ∷ []) ≡ last_bytes (take i r ++ get_or r i 0 ∷ [])
window_at r i roll e l = ap (λ x. last_bytes (x ++ get_or r i 0 ∷ [])) e ∙ last_push (take i r) (get_or r i 0)

pub window_more : (r : List ℕ) (i : ℕ) (roll : List ℕ) → roll ≡ last_bytes (take i r) → i < length r → last_bytes (roll ++ get_or r i 0 ∷ []) ≡ last_bytes (take (i + 1) r)
window_more r i roll e l = window_at r i roll e l ∙ ap last_bytes (sym (take_more r i 0 l))

and_false : (a b : Bool) → (a ≡ false) ⊎ (b ≡ false) → (a && b) ≡ false
and_false a b (inl e) = ap (λ x. x && b) e
and_false true b (inr e) = e
and_false false b (inr e) = refl

pub passed_more : (r : List ℕ) (i : ℕ) → i < length r → (i < 15) ⊎ (marks (last_bytes (take (i + 1) r)) ≡ false)
    → some_marks (take i r) (drop i r ++ 10 ∷ []) ≡ some_marks (take (i + 1) r) (drop (i + 1) r ++ 10 ∷ [])
passed_more r i l which =
    let more = take_more r i 0 l in
    let size : length (take i r ++ get_or r i 0 ∷ []) ≡ i + 1 = length_push (take i r) (get_or r i 0) ∙ ap (λ k. k + 1) (length-take-le i r (omega arith)) in
    let fails : (nat_lt 15 (length (take i r ++ get_or r i 0 ∷ [])) ≡ false) ⊎ (marks (last_bytes (take i r ++ get_or r i 0 ∷ [])) ≡ false) =
    elim which [ inl e ↦ inl (le-ltb 15 (length (take i r ++ get_or r i 0 ∷ [])) (omega arith)) | inr e ↦ inr (ap (λ x. marks (last_bytes x)) (sym more) ∙ e) ] in
    ap (λ x. some_marks (take i r) (x ++ 10 ∷ [])) (drop_more r i 0 l)
    ∙ passes (take i r) (drop (i + 1) r ++ 10 ∷ []) (get_or r i 0) (and_false _ _ fails)
    ∙ ap (λ x. some_marks x (drop (i + 1) r ++ 10 ∷ [])) (sym more)

pub by_test : (a : Bool) (u v : Bool) (P : Bool → Type 0) → (a ≡ true → P u) → (a ≡ false → P v) → P (cond a u v)
by_test true u v P f g = f refl
by_test false u v P f g = g refl

or_none : (a : Bool) → (a || false) ≡ a
or_none true = refl
or_none false = refl

pub at_end : (r : List ℕ) → some_marks [] (r ++ 10 ∷ []) ≡ some_marks r (10 ∷ []) → is_marker r ≡ marks (last_bytes (r ++ 10 ∷ []))
unfolding is_marker some_marks
at_end r e =
    let size = length_push r 10 in
    by_test (nat_lt (length r) 15) (marks (r ++ 10 ∷ [])) (some_marks [] (r ++ 10 ∷ [])) (λ x. x ≡ marks (last_bytes (r ++ 10 ∷ [])))
    (λ t. let l = ltb-true (length r) 15 t in let z : 0 ≡ length (r ++ 10 ∷ []) - 16 = omega arith in ap (λ k. marks (drop k (r ++ 10 ∷ []))) z)
    (λ t. let l = ltb-false (length r) 15 t in
    let long : nat_lt 15 (length (r ++ 10 ∷ [])) ≡ true = lt-ltb 15 (length (r ++ 10 ∷ [])) (omega arith) in
    e ∙ or_none _ ∙ ap (λ a. a && marks (last_bytes (r ++ 10 ∷ []))) long)

pub found_at : (r : List ℕ) (i : ℕ) → 14 < i → i < length r → some_marks [] (r ++ 10 ∷ []) ≡ some_marks (take i r) (drop i r ++ 10 ∷ []) → marks (last_bytes (take (i + 1) r)) ≡ true → is_marker r ≡ true
unfolding is_marker
found_at r i m l e found =
    let more = take_more r i 0 l in
    let size : length (take i r ++ get_or r i 0 ∷ []) ≡ i + 1 = length_push (take i r) (get_or r i 0) ∙ ap (λ k. k + 1) (length-take-le i r (omega arith)) in
    let long : nat_lt 15 (length (take i r ++ get_or r i 0 ∷ [])) ≡ true = lt-ltb 15 (length (take i r ++ get_or r i 0 ∷ [])) (omega arith) in
    let both : (nat_lt 15 (length (take i r ++ get_or r i 0 ∷ [])) && marks (last_bytes (take i r ++ get_or r i 0 ∷ []))) ≡ true =
    ap (λ a. a && marks (last_bytes (take i r ++ get_or r i 0 ∷ []))) long ∙ ap (λ x. marks (last_bytes x)) (sym more) ∙ found in
    by_test (nat_lt (length r) 15) (marks (r ++ 10 ∷ [])) (some_marks [] (r ++ 10 ∷ [])) (λ x. x ≡ true)
    (λ t. let k = ltb-true (length r) 15 t in absurd (omega arith))
    (λ t. e ∙ ap (λ x. some_marks (take i r) (x ++ 10 ∷ [])) (drop_more r i 0 l) ∙ stays (take i r) (drop (i + 1) r ++ 10 ∷ []) (get_or r i 0) both)

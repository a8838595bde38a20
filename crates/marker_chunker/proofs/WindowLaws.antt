-- A record is a marker exactly if some window of its text marks.
use Rattle.std.proofs.Common.{◌≡◌, ◌≤◌, ◌<◌, ℕ, ◌+◌, ◌-◌, Bool, true, false, ◌&&◌, nat_lt, List, [], ◌∷◌, ◌++◌, length, take, drop, refl, sym, ap, subst, ◌∙◌, arith, append_assoc, length-append, inl, inr}
use Rattle.std.proofs.lemmas.List.{length_push, length-take-le, drop-take, take_at}
use Rattle.std.proofs.lemmas.Bool.{lt-ltb, ltb-false, ltb-true, or_cases, or_right, cases_order}
use Rattle.marker_chunker.specs.Markers.{last_bytes, marks, some_marks, is_marker, HasWindow, IsMarkerText}
use Rattle.marker_chunker.proofs.Windows.{by_test, stays}

window_is : (text : List ℕ) (e : ℕ) → 16 ≤ e → e ≤ length text → last_bytes (take e text) ≡ take 16 (drop (e - 16) text)
window_is text e h l =
    let size : length (take e text) - 16 ≡ e - 16 = ap (λ k. k - 16) (length-take-le e text l) in
    let all : e ≡ (e - 16) + 16 = omega arith in
    ap (λ k. drop k (take e text)) size ∙ ap (λ k. drop (e - 16) (take k text)) all ∙ drop-take (e - 16) 16 text

-- the window that ends after the next byte
window_next : (before rest : List ℕ) (b e : ℕ) → e ≡ length before + 1 → 16 ≤ e → last_bytes (before ++ b ∷ []) ≡ take 16 (drop (e - 16) (before ++ b ∷ rest))
window_next before rest b e is h =
    let push = length_push before b in
    let all = length-append before (b ∷ rest) in
    let prefix : take e (before ++ b ∷ rest) ≡ before ++ b ∷ [] = ap (take e) (sym (append_assoc before (b ∷ []) rest)) ∙ take_at (before ++ b ∷ []) rest e (omega arith) in
    ap last_bytes (sym prefix) ∙ window_is (before ++ b ∷ rest) e h (omega arith)

both : (a b : Bool) → (a && b) ≡ true → (a ≡ true) × (b ≡ true)
both true b e = (refl, e)
both false b e = cc

some_has : (before rest : List ℕ) → some_marks before rest ≡ true → HasWindow (before ++ rest)
unfolding some_marks
some_has before [] e = cc
some_has before (b ∷ rest) e =
    elim (or_cases (nat_lt 15 (length (before ++ b ∷ [])) && marks (last_bytes (before ++ b ∷ []))) (some_marks (before ++ b ∷ []) rest) e) [
      | inl h ↦ here (both _ _ h).0 (both (nat_lt 15 (length (before ++ b ∷ []))) (marks (last_bytes (before ++ b ∷ []))) h).1
      | inr h ↦ subst HasWindow (append_assoc before (b ∷ []) rest) (some_has (before ++ b ∷ []) rest h)
    ]
  where
    here : nat_lt 15 (length (before ++ b ∷ [])) ≡ true → marks (last_bytes (before ++ b ∷ [])) ≡ true → HasWindow (before ++ b ∷ rest)
    here t m =
        let long = ltb-true 15 (length (before ++ b ∷ [])) t in
        let push = length_push before b in
        let all = length-append before (b ∷ rest) in
        record {
          place = length before + 1 - 16;
          within = omega arith;
          marked = ap marks (sym (window_next before rest b (length before + 1) refl (omega arith))) ∙ m;
        }

has_some : (before rest : List ℕ) (e : ℕ) → length before < e → e ≤ length (before ++ rest) → 16 ≤ e → marks (take 16 (drop (e - 16) (before ++ rest))) ≡ true → some_marks before rest ≡ true
unfolding some_marks
has_some before [] e l h w m = let all = length-append before [] in absurd (omega arith)
has_some before (b ∷ rest) e l h w m =
    let push = length_push before b in
    elim (cases_order e (length before + 1)) [
      | inl is ↦
          (let long : nat_lt 15 (length (before ++ b ∷ [])) ≡ true = lt-ltb 15 (length (before ++ b ∷ [])) (omega arith) in
          stays before rest b (ap (λ a. a && marks (last_bytes (before ++ b ∷ []))) long ∙ ap marks (window_next before rest b e is w) ∙ m))
      | inr (inl less) ↦ absurd (omega arith)
      | inr (inr more) ↦
          or_right (nat_lt 15 (length (before ++ b ∷ [])) && marks (last_bytes (before ++ b ∷ []))) (some_marks (before ++ b ∷ []) rest)
          (has_some (before ++ b ∷ []) rest e (omega arith)
          (subst (λ x. e ≤ length x) (sym (append_assoc before (b ∷ []) rest)) h) w
          (ap (λ x. marks (take 16 (drop (e - 16) x))) (append_assoc before (b ∷ []) rest) ∙ m))
    ]

-- a marker has a window that marks
pub marker_has : (r : List ℕ) → is_marker r ≡ true → IsMarkerText (r ++ 10 ∷ [])
unfolding is_marker
marker_has r =
    let push = length_push r 10 in
    by_test (nat_lt (length r) 15) (marks (r ++ 10 ∷ [])) (some_marks [] (r ++ 10 ∷ [])) (λ x. x ≡ true → IsMarkerText (r ++ 10 ∷ []))
    (λ t e. let l = ltb-true (length r) 15 t in inl (omega arith, e))
    (λ t e. inr (some_has [] (r ++ 10 ∷ []) e))

-- a record of whose text a window marks is a marker
pub has_marker : (r : List ℕ) → IsMarkerText (r ++ 10 ∷ []) → is_marker r ≡ true
unfolding is_marker
has_marker r (inl h) =
    let push = length_push r 10 in
    by_test (nat_lt (length r) 15) (marks (r ++ 10 ∷ [])) (some_marks [] (r ++ 10 ∷ [])) (λ x. x ≡ true)
    (λ t. h.1)
    (λ t. let l = ltb-false (length r) 15 t in let short = h.0 in absurd (omega arith))
has_marker r (inr w) =
    let push = length_push r 10 in
    let within = w.within in
    let at : w.place + 16 - 16 ≡ w.place = omega arith in
    by_test (nat_lt (length r) 15) (marks (r ++ 10 ∷ [])) (some_marks [] (r ++ 10 ∷ [])) (λ x. x ≡ true)
    (λ t. let l = ltb-true (length r) 15 t in absurd (omega arith))
    (λ t. has_some [] (r ++ 10 ∷ []) (w.place + 16) (omega arith) within (omega arith) (ap (λ k. marks (take 16 (drop k (r ++ 10 ∷ [])))) at ∙ w.marked))

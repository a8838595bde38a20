-- Places in the order of a window: a write at one of them, and the place where the window begins.
use Rattle.std.proofs.Common.{◌≡◌, ℕ, suc, zero, ◌+◌, ◌-◌, ◌<◌, ◌≤◌, arith, sym, ap, ◌∙◌, List, [], ◌∷◌, ◌++◌, length, length-append, length-take, length-drop, refl, Option, Some, None, set, take, drop, map, append_assoc, get_or, ◌⊎◌, inl, inr}
use Rattle.std.proofs.lemmas.List.{set-append_left, set-append_right, take-set-le, drop-set-add, drop-set-lt, take-take, length-take-le, length-map, drop_more, set_at, map_more}
use Rattle.record_text.specs.Shifts.{put_at}
use Rattle.rotating_tree.specs.Circles.{IsPlaceOf, slots}
use Rattle.rotating_tree.proofs.RowLaws.{turn_on, turn_round}

pub take_set : {X : Type 0} (n : ℕ) (xs : List X) (i : ℕ) (v : X) → take n (set xs i v) ≡ set (take n xs) i v
take_set zero xs i v = refl
take_set (suc n) [] i v = refl
take_set (suc n) (x ∷ xs) zero v = refl
take_set (suc n) (x ∷ xs) (suc i) v = ap (λ ys. x ∷ ys) (take_set n xs i v)

-- A write at a place is one in the order of the window.
pub set_slots : {X : Type 0} (n start at place : ℕ) (xs : List X) (v : X) → n ≤ length xs → start < n → at < n → IsPlaceOf n start at place → slots n start (set xs place v) ≡ set (slots n start xs) at v
set_slots n start at place xs v long s a (below, way) =
    let far : length (drop start (take n xs)) ≡ n - start = length-drop start (take n xs) ∙ omega (arith, length-take n xs) in
    elim way [
      | inl e ↦
          let lt : at < length (drop start (take n xs)) = omega arith in
          ap (λ ys. drop start ys ++ take start (set xs place v)) (take_set n xs place v)
          ∙ ap (λ i. drop start (set (take n xs) i v) ++ take start (set xs i v)) e
          ∙ ap (λ ys. drop start (set (take n xs) (start + at) v) ++ ys) (take-set-le start xs (start + at) v (omega arith))
          ∙ ap (λ ys. ys ++ take start xs) (drop-set-add start (take n xs) at v)
          ∙ sym (set-append_left (drop start (take n xs)) (take start xs) at v lt)
      | inr e ↦
          let ge : n - start ≤ at = omega arith in
          let off : at - (n - start) ≡ place = omega arith in
          ap (λ ys. drop start ys ++ take start (set xs place v)) (take_set n xs place v)
          ∙ ap (λ ys. ys ++ take start (set xs place v)) (drop-set-lt start (take n xs) place v (omega arith))
          ∙ ap (λ ys. drop start (take n xs) ++ ys) (take_set start xs place v)
          ∙ ap (λ i. drop start (take n xs) ++ set (take start xs) i v) (sym off)
          ∙ sym (set-append_right (drop start (take n xs)) (take start xs) (n - start) at v far ge)
    ]

-- The next fresh leaf.
pub write_next : {X : Type 0} (old : List (Option X)) (fresh : List X) (kept i : ℕ) (v : X) → kept + length fresh ≤ length old → i < length fresh → v ≡ get_or fresh i v → set ((take kept old ++ map Some (take i fresh)) ++ drop (kept + i) old) (kept + i) (Some v) ≡ (take kept old ++ map Some (take (i + 1) fresh)) ++ drop (kept + (i + 1)) old
write_next old fresh kept i v room lt is =
    let front : length (take kept old ++ map Some (take i fresh)) ≡ kept + i = length-append (take kept old) (map Some (take i fresh)) ∙ omega (arith, length-take-le kept old (omega arith), length-map (take i fresh) Some, length-take-le i fresh (omega arith)) in
    let here : drop (kept + i) old ≡ get_or old (kept + i) None ∷ drop (kept + i + 1) old = drop_more old (kept + i) None (omega arith) in
    ap (λ zs. set ((take kept old ++ map Some (take i fresh)) ++ zs) (kept + i) (Some v)) here
    ∙ set_at (take kept old ++ map Some (take i fresh)) (get_or old (kept + i) None) (drop (kept + i + 1) old) (Some v) (kept + i) front
    ∙ sym (append_assoc (take kept old ++ map Some (take i fresh)) (Some v ∷ []) (drop (kept + i + 1) old))
    ∙ ap (λ zs. zs ++ drop (kept + i + 1) old) (append_assoc (take kept old) (map Some (take i fresh)) (Some v ∷ []))
    ∙ ap (λ zs. (take kept old ++ (map Some (take i fresh) ++ zs ∷ [])) ++ drop (kept + i + 1) old) (ap Some is)
    ∙ ap (λ zs. (take kept old ++ zs) ++ drop (kept + i + 1) old) (sym (map_more Some fresh i v lt))
    ∙ ap (λ k. (take kept old ++ map Some (take (i + 1) fresh)) ++ drop k old) (omega arith)

pub length_slots : {X : Type 0} (n start : ℕ) (xs : List X) → n ≤ length xs → start ≤ n → length (slots n start xs) ≡ n
length_slots n start xs long le = length-append (drop start (take n xs)) (take start xs) ∙ omega (arith, length-drop start (take n xs), length-take n xs, length-take start xs)

-- The next leaf that stayed.
pub place_next : {X : Type 0} (row : List (Option X)) (ps : List ℕ) (vs : List X) (i p : ℕ) (v : X) → i < length ps → i < length vs → p ≡ get_or ps i 0 → v ≡ get_or vs i v → put_at (drop (i + 1) ps) (map Some (drop (i + 1) vs)) (set row p (Some v)) ≡ put_at (drop i ps) (map Some (drop i vs)) row
place_next row ps vs i p v in_ps in_vs place is =
    ap (λ q. put_at (drop (i + 1) ps) (map Some (drop (i + 1) vs)) (set row q (Some v))) place
    ∙ ap (λ x. put_at (drop (i + 1) ps) (map Some (drop (i + 1) vs)) (set row (get_or ps i 0) (Some x))) is
    ∙ sym (ap (λ qs. put_at qs (map Some (drop i vs)) row) (drop_more ps i 0 in_ps)
    ∙ ap (λ us. put_at (get_or ps i 0 ∷ drop (i + 1) ps) (map Some us) row) (drop_more vs i v in_vs))

-- The slots from the new first place on, if it is the old one's successor.
pub slots_turn : {X : Type 0} (n old gone new : ℕ) (xs : List X) → n ≤ length xs → old < n → gone ≤ n → new < n → (new ≡ old + gone) ⊎ (new + n ≡ old + gone) → slots n new xs ≡ drop gone (slots n old xs) ++ take gone (slots n old xs)
slots_turn n old gone new xs long a b c way =
    let size : length (take n xs) ≡ n = length-take n xs ∙ omega (arith, long) in
    let as_new : slots n new xs ≡ drop new (take n xs) ++ take new (take n xs) = ap (λ ys. drop new (take n xs) ++ ys) (sym (take-take new n xs (omega arith))) in
    let as_old : drop old (take n xs) ++ take old (take n xs) ≡ slots n old xs = ap (λ ys. drop old (take n xs) ++ ys) (take-take old n xs (omega arith)) in
    elim way [
      | inl e ↦ as_new ∙ ap (λ i. drop i (take n xs) ++ take i (take n xs)) e ∙ turn_on old gone (take n xs) (omega (arith, size, e, c)) ∙ ap (λ r. drop gone r ++ take gone r) as_old
      | inr e ↦ as_new ∙ turn_round old gone new (take n xs) (omega (arith, size, a)) (omega (arith, e, b)) (omega (arith, size, e)) ∙ ap (λ r. drop gone r ++ take gone r) as_old
    ]

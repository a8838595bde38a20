-- Lists that loops make item by item.
use Rattle.std.proofs.Common.{◌≡◌, inl, inr, ℕ, ◌+◌, ◌-◌, ◌<◌, arith, sym, ap, ◌∙◌, subst, List, [], ◌∷◌, ◌++◌, length, get_or, take, drop, map, set}
use Rattle.std.specs.List.{AllZip}
use Rattle.std.specs.List.Sorted.{IsStrictlyIncreasing}
use Rattle.std.proofs.lemmas.Bool.{cases_eq}
use Rattle.std.proofs.lemmas.List.{take_more, length_push, get_or_push, get_or_append_left, drop_more}
use Rattle.record_text.specs.Shifts.{put_at}

-- One item more, paired with one of the list that is walked.
pub zip-push : {X Y : Type 0} (R : X → Y → Type 0) (xs : List X) (ys : List Y) (x : X) (y : Y) → AllZip R xs ys → R x y → AllZip R (xs ++ x ∷ []) (ys ++ y ∷ [])
zip-push R [] [] x y z r = (r, z)
zip-push R [] (b ∷ ys) x y z r = absurd z
zip-push R (a ∷ xs) [] x y z r = absurd z
zip-push R (a ∷ xs) (b ∷ ys) x y z r = (z.0, zip-push R xs ys x y z.1 r)

pub zip-more : {Y : Type 0} (R : ℕ → Y → Type 0) (xs : List ℕ) (ys : List Y) (i : ℕ) (y : Y) → i < length xs → AllZip R (take i xs) ys → R (get_or xs i 0) y → AllZip R (take (i + 1) xs) (ys ++ y ∷ [])
zip-more R xs ys i y lt z r = subst (λ (zs : List ℕ). AllZip R zs (ys ++ y ∷ [])) (sym (take_more xs i 0 lt)) (zip-push R (take i xs) ys (get_or xs i 0) y z r)

-- A number above all others at the end of a list that rises.
pub rising-push : (xs : List ℕ) (y : ℕ) → IsStrictlyIncreasing xs → (0 < length xs → get_or xs (length xs - 1) 0 < y) → IsStrictlyIncreasing (xs ++ y ∷ [])
rising-push xs y r above k lt =
    let n = length_push xs y in
    elim (cases_eq (k + 1) (length xs)) [
      | inl e ↦
          let here = get_or_append_left xs (y ∷ []) 0 k (omega (arith, e)) in
          let next = get_or_push xs y 0 (k + 1) (sym e) in
          let last : get_or xs (length xs - 1) 0 ≡ get_or xs k 0 = (let i : length xs - 1 ≡ k = omega (arith, e) in ap (λ (j : ℕ). get_or xs j 0) i) in
          let up = above (omega (arith, e)) in
          omega (arith, here, next, last, up)
      | inr off ↦
          let less : k + 1 < length xs = omega (arith, lt, n, off) in
          let here = get_or_append_left xs (y ∷ []) 0 k (omega (arith, less)) in
          let next = get_or_append_left xs (y ∷ []) 0 (k + 1) less in
          let up = r k less in
          omega (arith, here, next, up)
    ]

-- The next item is put at its place.
pub put-next : {X : Type 0} (low : ℕ) (places : List ℕ) (news : List X) (rest : List X) (xs : List X) (i : ℕ) (y : X) → i < length places → news ≡ y ∷ rest
    → put_at (map (λ (p : ℕ). p - low) (drop (i + 1) places)) rest (set xs (get_or places i 0 - low) y) ≡ put_at (map (λ (p : ℕ). p - low) (drop i places)) news xs
put-next low places news rest xs i y lt is =
    sym (ap (λ ps. put_at (map (λ (p : ℕ). p - low) ps) news xs) (drop_more places i 0 lt) ∙ ap (λ ys. put_at (map (λ (p : ℕ). p - low) (get_or places i 0 ∷ drop (i + 1) places)) ys xs) is)

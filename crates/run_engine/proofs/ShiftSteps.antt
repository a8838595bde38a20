-- A list that is shifted in place, step by step.
use Rattle.std.proofs.Common.{◌≡◌, ℕ, ◌+◌, ◌<◌, ◌≤◌, List, [], ◌∷◌, ◌++◌, length, take, drop, append_assoc, ap, sym, ◌∙◌, arith}
use Rattle.std.specs.Prelude.{slice_index, slice_set}
use mathlib.Core.List.{reverse}
use Rattle.std.proofs.Math.Seq.{take-append-add, drop-append_seam, take-append_seam}
use Rattle.std.proofs.lemmas.List.{drop_more, reverse-reverse, reverse-append, length-drop, take-take, drop-drop}
use Rattle.record_text.specs.Shifts.{put_at}

module _ {X : Type 0} where
  -- One more item is put at its place.
  pub put-next : (places : List ℕ) (fresh rest xs : List X) (i p : ℕ) (y : X) → i < length places → p ≡ slice_index places i → fresh ≡ y ∷ rest → put_at (drop i places) fresh xs ≡ put_at (drop (i + 1) places) rest (slice_set xs p y)
  put-next places fresh rest xs i p y lt read is =
      ap (λ (l : List ℕ). put_at l fresh xs) (drop_more places i 0 lt ∙ ap (λ (q : ℕ). q ∷ drop (i + 1) places) (sym read))
      ∙ ap (λ (l : List X). put_at (p ∷ drop (i + 1) places) l xs) is

  -- The items that are left to put, taken from the end, are those from the first on.
  pub last-of : (i : ℕ) (fresh before : List X) (y : X) → reverse (drop i fresh) ≡ before ++ y ∷ [] → drop i fresh ≡ y ∷ reverse before
  last-of i fresh before y is = sym (reverse-reverse (drop i fresh)) ∙ ap (λ (l : List X). reverse l) is ∙ reverse-append before (y ∷ [])

  pub next-of : (i : ℕ) (fresh before : List X) (y : X) → reverse (drop i fresh) ≡ before ++ y ∷ [] → drop (i + 1) fresh ≡ reverse before
  next-of i fresh before y is = sym (drop-drop-one i fresh) ∙ ap (λ (l : List X). drop 1 l) (last-of i fresh before y is)
    where
      drop-drop-one : (i : ℕ) (xs : List X) → drop 1 (drop i xs) ≡ drop (i + 1) xs
      drop-drop-one i xs = drop-drop 1 i xs

  -- The rest is turned to the front and back again.
  pub spliced : (old news turned cut more now : List X) (first gone behind : ℕ) → first + gone ≤ length old → behind + (first + gone) ≡ length old → turned ≡ drop (first + gone) old ++ take (first + gone) old → cut ≡ take (behind + first) turned → more ≡ cut ++ news → now ≡ drop behind more ++ take behind more
      → now ≡ (take first old ++ news) ++ drop (first + gone) old
  spliced old news turned cut more now first gone behind within count turn cuts adds turns =
      let back = drop (first + gone) old in
      let l = length-drop (first + gone) old in
      let n : length back ≡ behind = omega (arith, l, count) in
      let c : cut ≡ back ++ take first old =
      cuts ∙ ap (λ (k : ℕ). take (k + first) turned) (sym n) ∙ ap (λ (xs : List X). take (length back + first) xs) turn
      ∙ take-append-add back (take (first + gone) old) first ∙ ap (λ (xs : List X). back ++ xs) (take-take first (first + gone) old (omega arith)) in
      let m : more ≡ back ++ (take first old ++ news) = adds ∙ ap (λ (xs : List X). xs ++ news) c ∙ append_assoc back (take first old) news in
      turns
      ∙ ap (λ (xs : List X). drop behind xs ++ take behind xs) m
      ∙ ap (λ (k : ℕ). drop k (back ++ (take first old ++ news)) ++ take k (back ++ (take first old ++ news))) (sym n)
      ∙ ap (λ (xs : List X). xs ++ take (length back) (back ++ (take first old ++ news))) (drop-append_seam back (take first old ++ news))
      ∙ ap (λ (xs : List X). (take first old ++ news) ++ xs) (take-append_seam back (take first old ++ news))

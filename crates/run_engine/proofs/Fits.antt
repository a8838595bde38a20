-- Which lists the shift of a window fits, and what it brings and takes away.
use Rattle.std.proofs.Common.{◌≡◌, ℕ, zero, suc, ◌+◌, ◌-◌, ◌<◌, ◌≤◌, Bool, true, false, cond, ◌||◌, List, [], ◌∷◌, ◌++◌, length, map, take, drop, All, replicate, refl, ap, sym, subst, ◌∙◌, arith, length-append, length-take, length-drop, length-set}
use Rattle.std.specs.Prelude.{slice_set, slice_index_or}
use Rattle.std.proofs.lemmas.List.{length-replicate}
use Rattle.std.proofs.lemmas.List.Sums.{sum_by-cons}
use Rattle.std.proofs.lemmas.List.Elements.{All-weaker, All-head, All-tail}
use Rattle.record_text.specs.Shifts.{put_at, shifted, brought, left, FitsShift, IsSlideOf}
use Rattle.record_text.specs.declared.kind.Kind.{Kind}
use Rattle.record_text.specs.declared.kind.Kind.TheVariants.{Buckets, Circle, Growing, Document}
use Rattle.record_text.specs.declared.shift.Shift.{Shift}
use Rattle.record_text.specs.declared.shift.Shift.TheVariants.{Slide, Splice}
use Rattle.window_manager.specs.Windows.{Leaf}
use Rattle.window_manager.specs.Since.{ShiftBalances}
use Rattle.map_tasks.specs.Texts.{same_text}
use Rattle.map_tasks.proofs.Totals.{same-not}
use Rattle.run_engine.specs.NewTexts.{times, is_among}
use Rattle.run_engine.specs.Inputs.{FitsOld, FitsNew, FitsList}

-- A slide of any kind fits its list.
slide-of : (kind : Kind) (most old count news : ℕ) (first gone : ℕ) (places : List ℕ) (fresh : ℕ) → FitsShift kind most old count news (Slide first gone places fresh) → IsSlideOf old count news first gone places fresh
slide-of Growing most old count news first gone places fresh fits = fits.0
slide-of Buckets most old count news first gone places fresh fits = fits
slide-of Circle most old count news first gone places fresh fits = fits.0
slide-of Document most old count news first gone places fresh fits = absurd fits

splice-of : (kind : Kind) (most old count news : ℕ) (first gone fresh : ℕ) → FitsShift kind most old count news (Splice first gone fresh) → (first + gone ≤ count) × (fresh ≡ news)
splice-of Growing most old count news first gone fresh fits = absurd fits
splice-of Buckets most old count news first gone fresh fits = absurd fits
splice-of Circle most old count news first gone fresh fits = absurd fits
splice-of Document most old count news first gone fresh fits = fits

module _ (kind : Kind) (most old count news : ℕ) where
  pub fits-old : (shift : Shift) → FitsShift kind most old count news shift → FitsOld shift count
  fits-old (Slide first gone places fresh) fits =
      let s = slide-of kind most old count news first gone places fresh fits in
      let w = s.within in
      (w, All-weaker (λ p. p < count - gone) (λ p. gone + p < count) (λ p h. omega (arith, h, w)) places s.places_are)
  fits-old (Splice first gone fresh) fits = (splice-of kind most old count news first gone fresh fits).0

  pub fits-list : (shift : Shift) → FitsShift kind most old count news shift → FitsList shift count news
  fits-list (Slide first gone places fresh) fits =
      let s = slide-of kind most old count news first gone places fresh fits in
      let n = s.news_are in
      (s.within, s.places_are, omega (arith, n))
  fits-list (Splice first gone fresh) fits = (splice-of kind most old count news first gone fresh fits).0

module _ {X : Type 0} where
  length-put : (places : List ℕ) (news xs : List X) → length (put_at places news xs) ≡ length xs
  length-put [] news xs = refl
  length-put (p ∷ ps) [] xs = refl
  length-put (p ∷ ps) (y ∷ ys) xs = length-put ps ys (slice_set xs p y) ∙ length-set xs p y

  -- How many items there are after a slide.
  length-slid : (first gone : ℕ) (places : List ℕ) (fresh : ℕ) (news old : List X) → length (shifted (Slide first gone places fresh) news old) ≡ (length old - gone) + (length news - length places)
  length-slid first gone places fresh news old =
      let a = length-append (put_at places news (drop gone old)) (drop (length places) news) in
      let b = length-put places news (drop gone old) in
      let c = length-drop gone old in
      let d = length-drop (length places) news in
      omega (arith, a, b, c, d)

  length-spliced : (first gone fresh : ℕ) (news old : List X) → first + gone ≤ length old → length (shifted (Splice first gone fresh) news old) ≡ (first + length news) + (length old - (first + gone))
  length-spliced first gone fresh news old within =
      let a = length-append (take first old ++ news) (drop (first + gone) old) in
      let b = length-append (take first old) news in
      let c = length-take first old in
      let d = length-drop (first + gone) old in
      omega (arith, a, b, c, d, within)

  -- What a window's shift brings is in the list after it.
  pub fits-new : (kind : Kind) (most old : ℕ) (shift : Shift) (news olds now : List X) → now ≡ shifted shift news olds → FitsShift kind most old (length olds) (length news) shift → FitsNew shift (length now)
  fits-new kind most old (Slide first gone places fresh) news olds now leads fits =
      let s = slide-of kind most old (length olds) (length news) first gone places fresh fits in
      let w = s.within in
      let n = s.news_are in
      let l = ap length leads ∙ length-slid first gone places fresh news olds in
      (omega (arith, l, n), All-weaker (λ p. p < length olds - gone) (λ p. p < length now) (λ p h. omega (arith, h, l)) places s.places_are)
  fits-new kind most old (Splice first gone fresh) news olds now leads fits =
      let s = splice-of kind most old (length olds) (length news) first gone fresh fits in
      let w = s.0 in
      let n = s.1 in
      let l = ap length leads ∙ length-spliced first gone fresh news olds w in
      omega (arith, l, n, w)

-- Texts of what a shift brings.

among-append : (xs ys : List Leaf) (t : Leaf) (P : Type 0) → is_among (xs ++ ys) t ≡ true → (is_among xs t ≡ true → P) → (is_among ys t ≡ true → P) → P
among-append [] ys t P is front back = back is
among-append (x ∷ xs) ys t P is front back = by (same_text t x) refl is (λ (h : is_among (xs ++ ys) t ≡ true) (l : is_among xs t ≡ true → P). among-append xs ys t P h l back)
  where
    by : (b : Bool) → same_text t x ≡ b → (b || is_among (xs ++ ys) t) ≡ true → (is_among (xs ++ ys) t ≡ true → (is_among xs t ≡ true → P) → P) → P
    by true same h rest = front (ap (λ (b : Bool). b || is_among xs t) same)
    by false same h rest = rest h (λ l. front (ap (λ (b : Bool). b || is_among xs t) same ∙ l))

behind : (x : Leaf) (xs : List Leaf) (t : Leaf) → is_among xs t ≡ true → is_among (x ∷ xs) t ≡ true
behind x xs t is = by (same_text t x)
  where
    by : (b : Bool) → (b || is_among xs t) ≡ true
    by true = refl
    by false = is

among-drop : (n : ℕ) (xs : List Leaf) (t : Leaf) → is_among (drop n xs) t ≡ true → is_among xs t ≡ true
among-drop zero xs t is = is
among-drop (suc n) [] t is = is
among-drop (suc n) (x ∷ xs) t is = behind x xs t (among-drop n xs t is)

among-take : (n : ℕ) (xs : List Leaf) (t : Leaf) → is_among (take n xs) t ≡ true → is_among xs t ≡ true
among-take zero xs t is = absurd cc
among-take (suc n) [] t is = is
among-take (suc n) (x ∷ xs) t is = by (same_text t x) refl is (among-take n xs t)
  where
    by : (b : Bool) → same_text t x ≡ b → (b || is_among (take n xs) t) ≡ true → (is_among (take n xs) t ≡ true → is_among xs t ≡ true) → (same_text t x || is_among xs t) ≡ true
    by true same h rest = ap (λ (b : Bool). b || is_among xs t) same
    by false same h rest = ap (λ (b : Bool). b || is_among xs t) same ∙ rest h

-- The item at a place is among the list.
among-read : (xs : List Leaf) (i : ℕ) (d t : Leaf) → i < length xs → same_text t (slice_index_or xs i d) ≡ true → is_among xs t ≡ true
among-read [] i d t lt same = absurd (omega (arith, lt))
among-read (x ∷ xs) zero d t lt same = ap (λ (b : Bool). b || is_among xs t) same
among-read (x ∷ xs) (suc i) d t lt same = behind x xs t (among-read xs i d t (omega (arith, lt)) same)

among-places : (places : List ℕ) (xs : List Leaf) (t : Leaf) → All (λ p. p < length xs) places → is_among (map (λ p. slice_index_or xs p []) places) t ≡ true → is_among xs t ≡ true
among-places [] xs t within is = absurd cc
among-places (p ∷ ps) xs t within is = by (same_text t (slice_index_or xs p [])) refl is (among-places ps xs t (All-tail (λ p. p < length xs) p ps within))
  where
    by : (b : Bool) → same_text t (slice_index_or xs p []) ≡ b → (b || is_among (map (λ p. slice_index_or xs p []) ps) t) ≡ true → (is_among (map (λ p. slice_index_or xs p []) ps) t ≡ true → is_among xs t ≡ true) → is_among xs t ≡ true
    by true same h rest = among-read xs p [] t (All-head (λ p. p < length xs) p ps within) same
    by false same h rest = rest h

-- What a shift brings is among the list after it.
pub among-brought : (shift : Shift) (now : List Leaf) (t : Leaf) → FitsNew shift (length now) → is_among (brought [] shift now) t ≡ true → is_among now t ≡ true
among-brought (Slide first gone places fresh) now t fits is =
    among-append (map (λ p. slice_index_or now p []) places) (drop (length now - fresh) now) t (is_among now t ≡ true) is (among-places places now t fits.1) (among-drop (length now - fresh) now t)
among-brought (Splice first gone fresh) now t fits is = among-drop first now t (among-take fresh (drop first now) t is)

-- A text of another length is none of the leaf's.
other-text : Leaf → Leaf
other-text t = [] ∷ t

times-other : (t : Leaf) (n : ℕ) → times t (replicate n (other-text t)) ≡ 0
unfolding other-text
times-other t zero = refl
times-other t (suc n) =
    let a = sum_by-cons {X = Leaf} (λ u. cond {A = ℕ} (same_text t u) 1 0) ([] ∷ t) (replicate n ([] ∷ t)) in
    let b = times-other t n in
    let c : cond {A = ℕ} (same_text t ([] ∷ t)) 1 0 ≡ 0 = ap (λ (b : Bool). cond {A = ℕ} b 1 0) (same-not t ([] ∷ t) (λ (e : t ≡ ([] ∷ t)). let n = ap length e in omega (arith, n))) in
    omega (arith, a, b, c)

-- No more leaves of a text are taken away than there are.
pub left-within : ShiftBalances → (kind : Kind) (places first : ℕ) (news olds : List Leaf) (shift : Shift) → FitsShift kind places first (length olds) (length news) shift → (t : Leaf) → times t (left [] shift olds) ≤ times t olds
left-within balances kind places first news olds shift fits t =
    let count : length news ≡ length (replicate (length news) (other-text t)) = sym (length-replicate (length news) (other-text t)) in
    let b = balances (λ u. cond {A = ℕ} (same_text t u) 1 0) kind places first (replicate (length news) (other-text t)) olds shift (subst (λ (n : ℕ). FitsShift kind places first (length olds) n shift) count fits) in
    let z = times-other t (length news) in
    omega (arith, b, z)

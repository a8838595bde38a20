-- What a shift makes of a list of leaves, or of a list with an item for each leaf, and which shifts a window can give.
use Rattle.std.specs.Prelude.{◌≡◌, ℕ, ◌+◌, ◌-◌, ◌<◌, ◌≤◌, List, [], ◌∷◌, ◌++◌, length, map, take, drop, slice_index_or, slice_set, All}
use Rattle.std.specs.List.Sorted.{IsStrictlyIncreasing}
use Rattle.record_text.specs.declared.shift.Shift.{Shift}
use Rattle.record_text.specs.declared.shift.Shift.TheVariants.{Slide, Splice}
use Rattle.record_text.specs.declared.kind.Kind.{Kind}
use Rattle.record_text.specs.declared.kind.Kind.TheVariants.{Buckets, Circle, Growing, Document}

-- The list with the items at the places replaced by these.
abbrev pub put_at : {X : Type 0} → List ℕ → List X → List X → List X
put_at [] news xs = xs
put_at (p ∷ ps) [] xs = xs
put_at (p ∷ ps) (y ∷ ys) xs = put_at ps ys (slice_set xs p y)

-- The list after a shift, made of the old list and what the shift brings: a slide first brings the items for its
-- places.
abbrev pub shifted : {X : Type 0} → Shift → List X → List X → List X
shifted (Slide first gone places fresh) news old = put_at places news (drop gone old) ++ drop (length places) news
shifted (Splice first gone fresh) news old = take first old ++ news ++ drop (first + gone) old

-- What a shift brings, taken from the list after it; the given item stands for a place past the list.
abbrev pub brought : {X : Type 0} → X → Shift → List X → List X
brought none (Slide first gone places fresh) now = map (λ p. slice_index_or now p none) places ++ drop (length now - fresh) now
brought none (Splice first gone fresh) now = take fresh (drop first now)

-- What a shift takes away, taken from the list before it; the given item stands for a place past the list.
abbrev pub left : {X : Type 0} → X → Shift → List X → List X
left none (Slide first gone places fresh) old = take gone old ++ map (λ p. slice_index_or old (gone + p) none) places
left none (Splice first gone fresh) old = take gone (drop first old)

-- The number of the first leaf after a shift, from the number before it: buckets are numbered, chunks are not.
abbrev pub first_after : Shift → ℕ → ℕ
first_after (Slide first gone places fresh) old = first
first_after (Splice first gone fresh) old = old

-- Of `count` leaves, the first of which has the number `old`, the oldest `gone` left, and the shift brings `news`:
-- those at the places, which stayed, and `fresh` new ones. If all left, leaves may have come and gone meanwhile.
pub record IsSlideOf (old count news : ℕ) (first gone : ℕ) (places : List ℕ) (fresh : ℕ) : Type 0 where
  pub within : gone ≤ count
  pub first_then : old + gone ≤ first
  pub first_is : gone < count → first ≡ old + gone
  pub news_are : news ≡ length places + fresh
  pub places_are : All (λ p. p < count - gone) places
  pub rising : IsStrictlyIncreasing places

-- A window of a kind, with `places` if it is a circle, can give the shift of `count` leaves, the first of which has the
-- number `old`; the shift brings `news`. A growing window keeps its first leaf, and a circle drops a leaf only if all
-- its places are taken.
abbrev pub FitsShift : Kind → ℕ → ℕ → ℕ → ℕ → Shift → Type 0
FitsShift Growing most old count news (Slide first gone places fresh) = IsSlideOf old count news first gone places fresh × (gone ≡ 0) × (places ≡ []) × (first ≡ old)
FitsShift Buckets most old count news (Slide first gone places fresh) = IsSlideOf old count news first gone places fresh
FitsShift Circle most old count news (Slide first gone places fresh) = IsSlideOf old count news first gone places fresh × ((count - gone) + fresh ≤ most) × (0 < gone → (count - gone) + fresh ≡ most)
FitsShift Document most old count news (Splice first gone fresh) = (first + gone ≤ count) × (fresh ≡ news)
FitsShift kind most old count news shift = ⊥

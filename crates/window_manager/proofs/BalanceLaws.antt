-- What a shift brings and takes away.
use Rattle.std.proofs.Common.{◌≡◌, ◌≢◌, ℕ, ◌+◌, ◌-◌, ◌<◌, ◌≤◌, List, [], ◌∷◌, ◌++◌, length, take, drop, get_or, refl, sym, ap, ◌∙◌, subst, arith, length-drop}
use Rattle.std.specs.Prelude.{All, map, slice_set}
use Rattle.std.specs.List.{sum_by}
use Rattle.std.specs.List.Sorted.{IsStrictlyIncreasing}
use Rattle.std.proofs.lemmas.List.{drop-drop, get_or-drop, get_or-set_other, length-set}
use Rattle.std.proofs.lemmas.List.Elements.{All-tail}
use Rattle.std.proofs.lemmas.List.Sums.{sum_by-append, sum_by-cons, sum_by-set, sum_by-take-drop}
use Rattle.record_text.specs.Shifts.{FitsShift, IsSlideOf, left, put_at, shifted}
use Rattle.record_text.specs.declared.kind.Kind.{Kind}
use Rattle.record_text.specs.declared.kind.Kind.TheVariants as Kinds
use Rattle.record_text.specs.declared.shift.Shift.TheVariants.{Slide, Splice}
use Rattle.window_manager.specs.Windows.{Leaf}
use Rattle.window_manager.specs.Since.{ShiftBalances}
use Rattle.window_manager.proofs.SlideLaws.{rising_head, rising_tail}
use Rattle.window_manager.proofs.SinceLaws.{map_same}

module _ {X : Type 0} (none : X) (weight : X → ℕ) where
  abbrev sum : List X → ℕ
  sum xs = sum_by weight xs

  -- items that are put at rising places
  put_balances : (ps : List ℕ) (ys xs : List X) → IsStrictlyIncreasing ps → All (λ p. p < length xs) ps → length ps ≤ length ys
      → sum (put_at ps ys xs) + sum (map (λ p. get_or xs p none) ps) ≡ sum xs + sum (take (length ps) ys)
  put_balances [] ys xs rising in_ many = refl
  put_balances (p ∷ ps) [] xs rising in_ many = absurd (omega (arith, many))
  put_balances (p ∷ ps) (y ∷ ys) xs rising in_ many =
      let next : List X = slice_set xs p y in
      let above = rising_head p ps rising in
      let rest_in : All (λ q. q < length next) ps = subst (λ (n : ℕ). All (λ q. q < n) ps) (sym (length-set xs p y)) (All-tail (λ q. q < length xs) p ps in_) in
      let rest = put_balances ps ys next (rising_tail p ps rising) rest_in (omega (arith, many)) in
      let same : map (λ q. get_or next q none) ps ≡ map (λ q. get_or xs q none) ps =
      map_same (λ q. get_or next q none) (λ q. get_or xs q none) ps (λ k d h. let lt : p < get_or ps k d = above k d h in get_or-set_other xs p (get_or ps k d) y none (λ e. omega (arith, e, lt)))
      in
      omega (
        arith,
        rest,
        ap sum same,
        sum_by-set weight xs p y none (in_ 0 0 (omega arith)),
        sum_by-cons weight (get_or xs p none) (map (λ q. get_or xs q none) ps),
        sum_by-cons weight y (take (length ps) ys),
      )

  slide_balances : (number gone fresh : ℕ) (places : List ℕ) (news olds : List X) → IsStrictlyIncreasing places → All (λ p. p < length olds - gone) places → length places ≤ length news
      → sum (shifted (Slide number gone places fresh) news olds) + sum (left none (Slide number gone places fresh) olds) ≡ sum olds + sum news
  slide_balances number gone fresh places news olds rising in_ many =
      let stays : List X = drop gone olds in
      let put = put_balances places news stays rising (subst (λ (n : ℕ). All (λ p. p < n) places) (sym (length-drop gone olds)) in_) many in
      let reads : map (λ p. get_or stays p none) places ≡ map (λ p. get_or olds (gone + p) none) places =
      map_same (λ p. get_or stays p none) (λ p. get_or olds (gone + p) none) places (λ k d h. get_or-drop gone olds (get_or places k d) none)
      in
      omega (
        arith,
        put,
        ap sum reads,
        sum_by-append weight (put_at places news stays) (drop (length places) news),
        sum_by-append weight (take gone olds) (map (λ p. get_or olds (gone + p) none) places),
        sum_by-take-drop weight olds gone,
        sum_by-take-drop weight news (length places),
      )

  splice_balances : (first gone fresh : ℕ) (news olds : List X) → sum (shifted (Splice first gone fresh) news olds) + sum (left none (Splice first gone fresh) olds) ≡ sum olds + sum news
  splice_balances first gone fresh news olds =
      let behind : List X = drop first olds in
      let rest : drop gone behind ≡ drop (first + gone) olds = drop-drop gone first olds in
      omega (
        arith,
        sum_by-append weight (take first olds ++ news) (drop (first + gone) olds),
        sum_by-append weight (take first olds) news,
        sum_by-take-drop weight olds first,
        sum_by-take-drop weight behind gone,
        ap sum rest,
      )

slid_balances : (weight : Leaf → ℕ) (first number gone fresh : ℕ) (places : List ℕ) (news olds : List Leaf) → IsSlideOf first (length olds) (length news) number gone places fresh
    → sum_by weight (shifted (Slide number gone places fresh) news olds) + sum_by weight (left [] (Slide number gone places fresh) olds) ≡ sum_by weight olds + sum_by weight news
slid_balances weight first number gone fresh places news olds is = slide_balances [] weight number gone fresh places news olds is.rising is.places_are (let n = is.news_are in omega (arith, n))

pub shift_balances : ShiftBalances
shift_balances weight Kinds.Buckets most first news olds (Slide number gone places fresh) fits = slid_balances weight first number gone fresh places news olds fits
shift_balances weight Kinds.Circle most first news olds (Slide number gone places fresh) fits = slid_balances weight first number gone fresh places news olds fits.0
shift_balances weight Kinds.Growing most first news olds (Slide number gone places fresh) fits = slid_balances weight first number gone fresh places news olds fits.0
shift_balances weight Kinds.Document most first news olds (Slide number gone places fresh) fits = absurd fits
shift_balances weight Kinds.Document most first news olds (Splice at gone fresh) fits = splice_balances [] weight at gone fresh news olds
shift_balances weight Kinds.Buckets most first news olds (Splice at gone fresh) fits = absurd fits
shift_balances weight Kinds.Circle most first news olds (Splice at gone fresh) fits = absurd fits
shift_balances weight Kinds.Growing most first news olds (Splice at gone fresh) fits = absurd fits

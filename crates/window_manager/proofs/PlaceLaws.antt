-- Rising places, visited one by one.
use Rattle.std.proofs.Common.{◌≡◌, ℕ, zero, suc, subst, ◌+◌, ◌-◌, ◌<◌, ◌≤◌, Bool, true, false, List, [], ◌∷◌, ◌++◌, length, take, get_or, refl, sym, ap, ◌∙◌, arith, append-nil}
use Rattle.std.specs.Prelude.{cond, All, nat_le, nat_lt, map}
use Rattle.std.specs.List.{filter}
use Rattle.std.specs.List.Sorted.{IsStrictlyIncreasing}
use Rattle.std.proofs.lemmas.Bool.Decides.{nat_tests}
use Rattle.std.proofs.Math.Seq.{take-suc}
use Rattle.std.proofs.lemmas.List.{take_more, map-append}
use Rattle.std.proofs.lemmas.List.Elements.{All-append, All-cons, All-tail, filter-append}
use Rattle.window_manager.specs.Slides.{lowered, with_place}

one_yes : (test : ℕ → Bool) (p : ℕ) → test p ≡ true → filter test (p ∷ []) ≡ p ∷ []
one_yes test p is = grind (arith, is)

one_not : (test : ℕ → Bool) (p : ℕ) → test p ≡ false → filter test (p ∷ []) ≡ []
one_not test p is = grind (arith, is)

-- one place more was looked at
module _ (ps : List ℕ) (i p : ℕ) (lt : i < length ps) (is : p ≡ get_or ps i 0) where
  more : take (i + 1) ps ≡ take i ps ++ p ∷ []
  more = take_more ps i 0 lt ∙ ap (λ (q : ℕ). take i ps ++ q ∷ []) (sym is)

  pub filter_takes : (test : ℕ → Bool) → test p ≡ true → filter test (take (i + 1) ps) ≡ filter test (take i ps) ++ p ∷ []
  filter_takes test holds = ap (filter test) more ∙ filter-append test (take i ps) (p ∷ []) ∙ ap (λ (l : List ℕ). filter test (take i ps) ++ l) (one_yes test p holds)

  pub filter_skips : (test : ℕ → Bool) → test p ≡ false → filter test (take (i + 1) ps) ≡ filter test (take i ps)
  filter_skips test other = ap (filter test) more ∙ filter-append test (take i ps) (p ∷ []) ∙ ap (λ (l : List ℕ). filter test (take i ps) ++ l) (one_not test p other) ∙ append-nil (filter test (take i ps))

  pub lowered_takes : (by : ℕ) → by ≤ p → lowered by (take (i + 1) ps) ≡ lowered by (take i ps) ++ (p - by) ∷ []
  lowered_takes by le =
      let holds : nat_le by p ≡ true = grind (arith, nat_tests) in
      ap (map (λ q. q - by)) (filter_takes (λ q. nat_le by q) holds) ∙ map-append (λ q. q - by) (filter (λ q. nat_le by q) (take i ps)) (p ∷ [])

  pub lowered_skips : (by : ℕ) → p < by → lowered by (take (i + 1) ps) ≡ lowered by (take i ps)
  lowered_skips by lt' =
      let other : nat_le by p ≡ false = grind (arith, nat_tests) in
      ap (map (λ q. q - by)) (filter_skips (λ q. nat_le by q) other)

  pub rises : IsStrictlyIncreasing ps → i + 1 < length ps → p < get_or ps (i + 1) 0
  rises rising next = let r : get_or ps i 0 < get_or ps (i + 1) 0 = rising i next in omega (arith, r, is)

-- what is below a place is below a greater one, with more that is
pub all_on : (by p q : ℕ) (l : List ℕ) → p < q → All (λ x. x + by < p) l → All (λ x. x + by < q) l
all_on by p q l lt all k d h = let a = all k d h in omega (arith, a, lt)

pub all_more : (by p q x : ℕ) (l : List ℕ) → p < q → x + by ≤ p → All (λ x. x + by < p) l → All (λ x. x + by < q) (l ++ x ∷ [])
all_more by p q x l lt le all = All-append (λ x. x + by < q) l (x ∷ []) (all_on by p q l lt all) (All-cons (λ x. x + by < q) x [] (omega (arith, lt, le)) (λ k d h. absurd (omega (arith, h))))

pub all_less : (p q : ℕ) (l : List ℕ) → p ≤ q → All (λ x. x < p) l → All (λ x. x < q) l
all_less p q l le all k d h = let a = all k d h in omega (arith, a, le)

pub all_push : (q x : ℕ) (l : List ℕ) → x < q → All (λ x. x < q) l → All (λ x. x < q) (l ++ x ∷ [])
all_push q x l lt all = All-append (λ x. x < q) l (x ∷ []) all (All-cons (λ x. x < q) x [] lt (λ k d h. absurd (omega (arith, h))))

-- a place is below the rest
pub nat_below : (p q : ℕ) → p < q → nat_lt p q ≡ true
nat_below p q lt = grind (arith, nat_tests)

pub nat_not_below : (p q : ℕ) → q ≤ p → nat_lt p q ≡ false
nat_not_below p q le = grind (arith, nat_tests)

-- the places before one are below it
pub rising_before : (ps : List ℕ) → IsStrictlyIncreasing ps → (i : ℕ) → i < length ps → All (λ x. x < get_or ps i 0) (take i ps)
rising_before ps rising zero lt = λ k d h. absurd (omega (arith, h))
rising_before ps rising (suc i) lt =
    let same : i + 1 ≡ suc i = omega arith in
    let up : get_or ps i 0 < get_or ps (suc i) 0 = subst (λ (n : ℕ). get_or ps i 0 < get_or ps n 0) same (rising i (omega (arith, lt))) in
    subst (λ (l : List ℕ). All (λ x. x < get_or ps (suc i) 0) l) (sym (take-suc ps i 0 (omega (arith, lt))))
    (all_push (get_or ps (suc i) 0) (get_or ps i 0) (take i ps) up (all_less (get_or ps i 0) (get_or ps (suc i) 0) (take i ps) (omega (arith, up)) (rising_before ps rising i (omega (arith, lt)))))

-- below a bound is what was looked at before, and the next place
all_left : (q : ℕ) (xs ys : List ℕ) → All (λ x. x < q) (xs ++ ys) → All (λ x. x < q) xs
all_left q [] ys all = λ k d h. absurd (omega (arith, h))
all_left q (x ∷ xs) ys all = All-cons (λ x. x < q) x xs (all 0 0 (omega arith)) (all_left q xs ys (All-tail (λ x. x < q) x (xs ++ ys) all))

all_last : (q : ℕ) (xs : List ℕ) (y : ℕ) → All (λ x. x < q) (xs ++ y ∷ []) → y < q
all_last q [] y all = all 0 0 (omega arith)
all_last q (x ∷ xs) y all = all_last q xs y (All-tail (λ x. x < q) x (xs ++ y ∷ []) all)

pub all_first : (ps : List ℕ) (i p q : ℕ) → i < length ps → p ≡ get_or ps i 0 → All (λ x. x < q) (take (i + 1) ps) → All (λ x. x < q) (take i ps) × (p < q)
all_first ps i p q lt is all =
    let split : All (λ x. x < q) (take i ps ++ p ∷ []) = subst (λ (l : List ℕ). All (λ x. x < q) l) (more ps i p lt is) all in
    (all_left q (take i ps) (p ∷ []) split, all_last q (take i ps) p split)

-- lowered places are below a lowered bound
lower_one : (b : Bool) (by p n : ℕ) (rest : List ℕ) → (b ≡ true → p - by < n) → All (λ q. q < n) (map (λ q. q - by) rest) → All (λ q. q < n) (map (λ q. q - by) (cond b (p ∷ rest) rest))
lower_one true by p n rest lt all = All-cons (λ q. q < n) (p - by) (map (λ q. q - by) rest) (lt refl) all
lower_one false by p n rest lt all = all

pub lowered_below : (by n m : ℕ) (ps : List ℕ) → m ≤ by + n → All (λ p. p < m) ps → All (λ q. q < n) (lowered by ps)
lowered_below by n m [] le all = λ k d h. absurd (omega (arith, h))
lowered_below by n m (p ∷ ps) le all =
    let first : p < m = all 0 0 (omega arith) in
    lower_one (nat_le by p) by p n (filter (λ q. nat_le by q) ps) (λ t. let ge : by ≤ p = grind (arith, nat_tests) in omega (arith, first, le, ge)) (lowered_below by n m ps le (All-tail (λ x. x < m) p ps all))

-- one place more below a bound
filter_one : (b : Bool) (p m : ℕ) (rest : List ℕ) → p < m → All (λ q. q < m) rest → All (λ q. q < m) (cond b (p ∷ rest) rest)
filter_one true p m rest lt all = All-cons (λ q. q < m) p rest lt all
filter_one false p m rest lt all = all

filter_below : (test : ℕ → Bool) (m : ℕ) (ps : List ℕ) → All (λ p. p < m) ps → All (λ p. p < m) (filter test ps)
filter_below test m [] all = all
filter_below test m (p ∷ ps) all = filter_one (test p) p m (filter test ps) (all 0 0 (omega arith)) (filter_below test m ps (All-tail (λ x. x < m) p ps all))

pub with_place_below : (m place : ℕ) (ps : List ℕ) → place < m → All (λ p. p < m) ps → All (λ p. p < m) (with_place place ps)
with_place_below m place ps lt all =
    All-append (λ p. p < m) (filter (λ p. nat_lt p place) ps) (place ∷ filter (λ p. nat_lt place p) ps) (filter_below (λ p. nat_lt p place) m ps all)
    (All-cons (λ p. p < m) place (filter (λ p. nat_lt place p) ps) lt (filter_below (λ p. nat_lt place p) m ps all))

-- Two splices, one after the other.
use Rattle.std.proofs.Common.{◌≡◌, ℕ, zero, suc, ◌+◌, ◌-◌, ◌≤◌, Bool, true, false, List, [], ◌∷◌, ◌++◌, length, take, drop, refl, sym, ap, ◌∙◌, subst, arith, length-drop, take-append-drop}
use Rattle.std.specs.Prelude.{◌==◌, ◌&&◌, min, if◌then◌else◌}
use Rattle.std.proofs.lemmas.Bool.Decides.{nat_tests}
use Rattle.std.proofs.lemmas.List.{drop-drop}
use Rattle.chunk_store.specs.declared.change.Change.{Change}
use Rattle.chunk_store.specs.Documents.{IsSplice}
use Rattle.record_text.specs.declared.shift.Shift.TheVariants.{Slide, Splice}
use Rattle.window_manager.specs.Windows.{Leaf}
use Rattle.window_manager.specs.Splices.{Leads, SplicesJoin, between}

take_less : (n m : ℕ) (l : List Leaf) → n ≤ m → take n (take m l) ≡ take n l
take_less zero m l le = refl
take_less (suc n) zero l le = absurd (omega (arith, le))
take_less (suc n) (suc m) [] le = refl
take_less (suc n) (suc m) (x ∷ l) le = ap (λ (r : List Leaf). x ∷ r) (take_less n m l (omega (arith, le)))

-- the same prefix has the same shorter prefixes
prefix : (xs ys : List Leaf) (n m : ℕ) → n ≤ m → take m xs ≡ take m ys → take n xs ≡ take n ys
prefix xs ys n m le is = sym (take_less n m xs le) ∙ ap (λ (l : List Leaf). take n l) is ∙ take_less n m ys le

-- the last of two lists that end alike
last_same : (xs ys : List Leaf) (m n k : ℕ) → drop m xs ≡ drop n ys → m ≤ length xs → n ≤ length ys → k ≤ length xs - m → drop (length xs - k) xs ≡ drop (length ys - k) ys
last_same xs ys m n k is within fits few =
    let left : length xs - m ≡ length ys - n = sym (length-drop m xs) ∙ ap (λ (l : List Leaf). length l) is ∙ length-drop n ys in
    let a : m + (length xs - m - k) ≡ length xs - k = omega (arith, within, few) in
    let b : n + (length xs - m - k) ≡ length ys - k = omega (arith, left, fits, within, few) in
    ap (λ (i : ℕ). drop i xs) (sym a) ∙ sym (drop-drop (length xs - m - k) m xs) ∙ ap (λ (l : List Leaf). drop (length xs - m - k) l) is ∙ drop-drop (length xs - m - k) n ys ∙ ap (λ (i : ℕ). drop i ys) b

-- a change that takes none and brings none changes nothing
none_changed : (xs ys : List Leaf) (t : Change) → IsSplice xs ys t → t.gone ≡ 0 → t.fresh ≡ 0 → ys ≡ xs
none_changed xs ys t is gone fresh =
    let a : t.first + t.fresh ≡ t.first = omega (arith, fresh) in
    let b : t.first + t.gone ≡ t.first = omega (arith, gone) in
    sym (take-append-drop t.first ys) ∙ (λ i. is.before i ++ (ap (λ (n : ℕ). drop n ys) (sym a) ∙ is.behind ∙ ap (λ (n : ℕ). drop n xs) b) i) ∙ take-append-drop t.first xs

zeros : (a b : ℕ) → ((a == 0) && (b == 0)) ≡ true → (a ≡ 0) × (b ≡ 0)
zeros a b e = grind (arith, nat_tests)

module _ (olds mids news : List Leaf) (first gone fresh : ℕ) (t : Change) (s : IsSplice olds mids (record { first = first; gone = gone; fresh = fresh })) (is : IsSplice mids news t) where
  together : Leads olds news (between (length olds) (length news) (min first t.first) (min (length olds - (first + gone)) (length mids - (t.first + t.gone))))
  together =
      let k : ℕ = min (length olds - (first + gone)) (length mids - (t.first + t.gone)) in
      let f : ℕ = min first t.first in
      let k1 : k ≤ length olds - (first + gone) = omega arith in
      let k2 : k ≤ length mids - (t.first + t.gone) = omega arith in
      let f1 : f ≤ first = omega arith in
      let f2 : f ≤ t.first = omega arith in
      let n1 = ap (λ (l : List Leaf). length l) s.behind in
      let n2 = ap (λ (l : List Leaf). length l) is.behind in
      let old : f + (length olds - k - f) ≡ length olds - k = omega (arith, k1, f1, s.within) in
      let room : k ≤ length news - (t.first + t.fresh) = omega (arith, k2, n2, length-drop (t.first + t.fresh) news, length-drop (t.first + t.gone) mids) in
      let new : f + (length news - k - f) ≡ length news - k = omega (arith, room, f2, is.fits) in
      let mid : k ≤ length mids - (first + fresh) = omega (arith, k1, n1, length-drop (first + fresh) mids, length-drop (first + gone) olds) in
      record {
        within = omega (arith, old);
        fits = omega (arith, new);
        before = prefix news mids f t.first f2 is.before ∙ prefix mids olds f first f1 s.before;
        behind = ap (λ (i : ℕ). drop i news) new ∙ last_same news mids (t.first + t.fresh) (t.first + t.gone) k is.behind is.fits is.within room ∙ last_same mids olds (first + fresh) (first + gone) k s.behind s.fits s.within mid ∙ ap (λ (i : ℕ). drop i olds) (sym old);
      }

  by_cases : (a b : Bool) → ((t.gone == 0) && (t.fresh == 0)) ≡ a → ((gone == 0) && (fresh == 0)) ≡ b → Leads olds news (if a then Splice first gone fresh else if b then Splice t.first t.gone t.fresh else between (length olds) (length news) (min first t.first) (min (length olds - (first + gone)) (length mids - (t.first + t.gone))))
  by_cases true b e d =
      let z = zeros t.gone t.fresh e in
      subst (λ (l : List Leaf). IsSplice olds l (record { first = first; gone = gone; fresh = fresh })) (sym (none_changed mids news t is z.0 z.1)) s
  by_cases false true e d =
      let z = zeros gone fresh d in
      subst (λ (l : List Leaf). IsSplice l news t) (none_changed olds mids (record { first = first; gone = gone; fresh = fresh }) s z.0 z.1) is
  by_cases false false e d = together

pub splices_join : SplicesJoin
splices_join olds mids news (Splice first gone fresh) t s is = by_cases olds mids news first gone fresh t s is ((t.gone == 0) && (t.fresh == 0)) ((gone == 0) && (fresh == 0)) refl refl
splices_join olds mids news (Slide first gone places fresh) t s is = absurd s

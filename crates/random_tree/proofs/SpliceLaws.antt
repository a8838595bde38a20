-- A stretch of a list that is turned, and one that is replaced by turning.
use Rattle.std.proofs.Common.{◌≡◌, ℕ, ◌+◌, ◌-◌, ◌≤◌, List, [], ◌∷◌, ◌++◌, length, map, take, drop, refl, sym, ap, ◌∙◌, arith, append_assoc, length-append, length-take, length-drop}
use Rattle.std.proofs.lemmas.List.{take_at, drop_at, take-append-drop, take-append-le}
use Rattle.std.proofs.lemmas.List.{length-map}
use Rattle.std.proofs.Math.Seq.{take-add}

module _ {X : Type 0} where
  -- The items from `n` on, turned left by `k`.
  abbrev pub turned : ℕ → ℕ → List X → List X
  turned n k xs = take n xs ++ (drop k (drop n xs) ++ take k (drop n xs))

  -- Two neighbours change places.
  pub turned-parts : (xs bs cs : List X) (n k : ℕ) → length xs ≡ n → length bs ≡ k → turned n k (xs ++ (bs ++ cs)) ≡ xs ++ (cs ++ bs)
  turned-parts xs bs cs n k front first =
      let rest : drop n (xs ++ (bs ++ cs)) ≡ bs ++ cs = drop_at xs (bs ++ cs) n front in
      λ i. take_at xs (bs ++ cs) n front i ++ ((ap (drop k) rest ∙ drop_at bs cs k first) i ++ (ap (take k) rest ∙ take_at bs cs k first) i)

  -- Items that are appended, and then turned twice, replace a stretch, which moves to the end.
  pub replaced : (old fresh : List X) (first gone kept : ℕ) → first + gone ≤ length old → kept ≡ length old - (first + gone) →
      turned first gone (turned (first + gone) kept (old ++ fresh)) ≡ (take first old ++ (fresh ++ drop (first + gone) old)) ++ take gone (drop first old)
  replaced old fresh first gone kept within kept_is =
      let front = take (first + gone) old in
      let back = drop (first + gone) old in
      let lost = take gone (drop first old) in
      let n : length front ≡ first + gone = (let a = length-take (first + gone) old in omega (arith, a, within)) in
      let m : length back ≡ kept = (let a = length-drop (first + gone) old in omega (arith, a, kept_is)) in
      let k : length (take first old) ≡ first = (let a = length-take first old in omega (arith, a, within)) in
      let l : length lost ≡ gone = (let a = length-take gone (drop first old) in let b = length-drop first old in omega (arith, a, b, within)) in
      let all : old ++ fresh ≡ front ++ (back ++ fresh) = ap (λ (xs : List X). xs ++ fresh) (sym (take-append-drop (first + gone) old)) ∙ append_assoc front back fresh in
      let parts : front ≡ take first old ++ lost = take-add first gone old in
      let once : turned (first + gone) kept (old ++ fresh) ≡ take first old ++ (lost ++ (fresh ++ back)) =
      ap (turned (first + gone) kept) all ∙ (turned-parts front back fresh (first + gone) kept n m ∙ (ap (λ (xs : List X). xs ++ (fresh ++ back)) parts ∙ append_assoc (take first old) lost (fresh ++ back))) in
      ap (turned first gone) once ∙ (turned-parts (take first old) lost (fresh ++ back) first gone k l ∙ sym (append_assoc (take first old) (fresh ++ back) lost))

  pub lost-count : (old : List X) (first gone : ℕ) → first + gone ≤ length old → length (take gone (drop first old)) ≡ gone
  lost-count old first gone within = let a = length-take gone (drop first old) in let b = length-drop first old in omega (arith, a, b, within)

  -- The list without the last ones.
  pub cut : (hs kept lost : List X) (gone : ℕ) → hs ≡ kept ++ lost → length lost ≡ gone → take (length hs - gone) hs ≡ kept
  cut hs kept lost gone is count = (λ i. take (length (is i) - gone) (is i)) ∙ take_at kept lost (length (kept ++ lost) - gone) (let n = length-append kept lost in omega (arith, n, count))

  pub cut-within : (hs kept lost : List X) (gone : ℕ) → hs ≡ kept ++ lost → length lost ≡ gone → gone ≤ length hs
  cut-within hs kept lost gone is count = let n = length-append kept lost in let m = ap length is in omega (arith, n, m, count)

  -- One more of the last ones is removed.
  pub popped : (all hs rest : List X) (x : X) → hs ≡ rest ++ x ∷ [] → hs ≡ take (length hs) all → rest ≡ take (length rest) all
  popped all hs rest x is front =
      let n = ap length is in
      let m = length-append rest (x ∷ []) in
      let parts : all ≡ hs ++ drop (length hs) all = sym (take-append-drop (length hs) all) ∙ ap (λ (xs : List X). xs ++ drop (length hs) all) (sym front) in
      let first : take (length rest) all ≡ take (length rest) hs = ap (take (length rest)) parts ∙ take-append-le (length rest) hs (drop (length hs) all) (omega (arith, n, m)) in
      sym (first ∙ (ap (take (length rest)) is ∙ take_at rest (x ∷ []) (length rest) refl))

  -- A draft that changes nothing.
  pub nothing-taken : (first gone : ℕ) (old fresh : List X) → gone ≡ 0 → fresh ≡ [] → take first old ++ (fresh ++ drop (first + gone) old) ≡ old
  nothing-taken first gone old fresh none same =
      let n : first + gone ≡ first = omega (arith, none) in
      (λ i. take first old ++ (same i ++ drop (n i) old)) ∙ take-append-drop first old

  -- What a loan of all items wrote.
  pub written : (n : ℕ) (now old : List X) → n ≡ length old → length now ≡ length old → take n (now ++ drop (length now) old) ≡ now
  written n now old a b = take_at now (drop (length now) old) n (omega (arith, a, b))

pub same-length : {X Y Z : Type 0} (f : X → Z) (g : Y → Z) (xs : List X) (ys : List Y) → map f xs ≡ map g ys → length xs ≡ length ys
same-length f g xs ys same = let a = ap length same in let b = length-map xs f in let c = length-map ys g in omega (arith, a, b, c)

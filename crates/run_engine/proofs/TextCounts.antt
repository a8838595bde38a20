-- The cost of texts that were not seen before, each once, and how often texts occur.
use Rattle.std.proofs.Common.{◌≡◌, ℕ, zero, suc, ◌+◌, ◌<◌, ◌≤◌, Bool, true, false, true≢false, cond, ◌||◌, ◌==◌, List, [], ◌∷◌, length, filter, refl, ap, sym, subst, ◌∙◌, arith, length-append}
use Rattle.std.specs.List.{sum_by}
use Rattle.std.proofs.lemmas.List.Sums.{sum_by-cons}
use Rattle.std.proofs.lemmas.List.Concat.{flat_map-append}
use Rattle.std.proofs.lemmas.Bool.Decides.{Decides-eqb}
use Rattle.definitions.specs.Answer.{pairs_of}
use Rattle.marker_chunker.specs.Cuts.{joined}
use Rattle.sheets.specs.Parts.{sum_below}
use Rattle.window_manager.specs.Windows.{Leaf}
use Rattle.map_tasks.specs.Texts.{same_text}
use Rattle.map_tasks.proofs.Totals.{same-itself, same-is, same-not}
use Rattle.run_engine.specs.NewTexts.{times, is_among, new_texts}

-- What the test of two numbers says.

pub same-number : (a b : ℕ) → (a == b) ≡ true → a ≡ b
same-number a b is = (Decides-eqb a b).0 is

pub number-same : (a b : ℕ) → a ≡ b → (a == b) ≡ true
number-same a b e = (Decides-eqb a b).1 e

pub other-number : (a b : ℕ) → (a == b) ≡ false → a ≡ b → ⊥
other-number a b is e = true≢false (sym (number-same a b e) ∙ is)

pub number-other : (a b : ℕ) → (a ≡ b → ⊥) → (a == b) ≡ false
number-other a b apart = test_case (a == b) refl
  where
    test_case : (t : Bool) → (a == b) ≡ t → (a == b) ≡ false
    test_case true is = absurd (apart (same-number a b is))
    test_case false is = is

-- Seen before, or this text.
abbrev pub with_text : Leaf → (Leaf → Bool) → Leaf → Bool
with_text t seen u = same_text u t || seen u

module _ (w : Leaf → ℕ) where
  -- The weight of the texts that were not seen, each once.
  abbrev pub weight : (Leaf → Bool) → List Leaf → ℕ
  weight seen ts = sum_by w (new_texts seen ts)

  pub weight-seen : (seen : Leaf → Bool) (t : Leaf) (ts : List Leaf) → seen t ≡ true → weight seen (t ∷ ts) ≡ weight seen ts
  weight-seen seen t ts is = ap (λ (b : Bool). sum_by w (cond b (new_texts seen ts) (t ∷ new_texts (with_text t seen) ts))) is

  pub weight-new : (seen : Leaf → Bool) (t : Leaf) (ts : List Leaf) → seen t ≡ false → weight seen (t ∷ ts) ≡ w t + weight (with_text t seen) ts
  weight-new seen t ts is = ap (λ (b : Bool). sum_by w (cond b (new_texts seen ts) (t ∷ new_texts (with_text t seen) ts))) is ∙ sum_by-cons w t (new_texts (with_text t seen) ts)

  -- Tests that agree on these texts.
  pub weight-on : (p q : Leaf → Bool) (ts : List Leaf) → ((u : Leaf) → is_among ts u ≡ true → p u ≡ q u) → weight p ts ≡ weight q ts
  weight-on p q [] agree = refl
  weight-on p q (t ∷ ts) agree = by (p t) refl (weight-on p q ts behind) (weight-on (with_text t p) (with_text t q) ts (λ u h. ap (λ (b : Bool). same_text u t || b) (behind u h)))
    where
      first : (u : Leaf) (b : Bool) → is_among ts u ≡ true → (b || is_among ts u) ≡ true
      first u true h = refl
      first u false h = h

      behind : (u : Leaf) → is_among ts u ≡ true → p u ≡ q u
      behind u h = agree u (first u (same_text u t) h)

      here : p t ≡ q t
      here = agree t (ap (λ (b : Bool). b || is_among ts t) (same-itself t))

      by : (b : Bool) → p t ≡ b → weight p ts ≡ weight q ts → weight (with_text t p) ts ≡ weight (with_text t q) ts → weight p (t ∷ ts) ≡ weight q (t ∷ ts)
      by true is x y = weight-seen p t ts is ∙ x ∙ sym (weight-seen q t ts (sym here ∙ is))
      by false is x y = weight-new p t ts is ∙ ap (λ (n : ℕ). w t + n) y ∙ sym (weight-new q t ts (sym here ∙ is))

  -- Tests that agree everywhere.
  pub weight-alike : (p q : Leaf → Bool) (ts : List Leaf) → ((u : Leaf) → p u ≡ q u) → weight p ts ≡ weight q ts
  weight-alike p q ts agree = weight-on p q ts (λ u h. agree u)

  -- A text that was not seen costs once.
  weight-of : (seen : Leaf → Bool) (t : Leaf) (ys : List Leaf) → seen t ≡ false → is_among ys t ≡ true → weight seen ys ≡ w t + weight (with_text t seen) ys
  weight-of seen t [] absent is = absurd cc
  weight-of seen t (y ∷ ys) absent is = here (same_text t y) refl (weight-of seen t ys absent) (weight-of (with_text y seen) t ys)
    where
      swap-two : (u : Leaf) → with_text t (with_text y seen) u ≡ with_text y (with_text t seen) u
      swap-two u = elim (same_text u t) as (λ b. (b || (same_text u y || seen u)) ≡ (same_text u y || (b || seen u))) [ true ↦ elim (same_text u y) as (λ c. true ≡ (c || true)) [ true ↦ refl | false ↦ refl ] | false ↦ refl ]

      there : (b : Bool) → seen y ≡ b → same_text t y ≡ false → same_text y t ≡ false → is_among ys t ≡ true → (is_among ys t ≡ true → weight seen ys ≡ w t + weight (with_text t seen) ys) → (with_text y seen t ≡ false → is_among ys t ≡ true → weight (with_text y seen) ys ≡ w t + weight (with_text t (with_text y seen)) ys) → weight seen (y ∷ ys) ≡ w t + weight (with_text t seen) (y ∷ ys)
      there true old apart-ty apart-yt more x z =
          weight-seen seen y ys old ∙ x more ∙ ap (λ (n : ℕ). w t + n) (sym (weight-seen (with_text t seen) y ys (ap (λ (b : Bool). b || seen y) apart-yt ∙ old)))
      there false old apart-ty apart-yt more x z =
          let p = z (ap (λ (b : Bool). b || seen t) apart-ty ∙ absent) more in
          let q = weight-alike (with_text t (with_text y seen)) (with_text y (with_text t seen)) ys swap-two in
          let r = weight-new seen y ys old in
          let s = weight-new (with_text t seen) y ys (ap (λ (b : Bool). b || seen y) apart-yt ∙ old) in
          omega (arith, p, q, r, s)

      here : (b : Bool) → same_text t y ≡ b → (is_among ys t ≡ true → weight seen ys ≡ w t + weight (with_text t seen) ys) → (with_text y seen t ≡ false → is_among ys t ≡ true → weight (with_text y seen) ys ≡ w t + weight (with_text t (with_text y seen)) ys) → weight seen (y ∷ ys) ≡ w t + weight (with_text t seen) (y ∷ ys)
      here true eq x z =
          let one : t ≡ y = same-is t y eq in
          let r = weight-new seen y ys (subst (λ (u : Leaf). seen u ≡ false) one absent) in
          let s = weight-seen (with_text t seen) y ys (ap (λ (b : Bool). b || seen y) (subst (λ (u : Leaf). same_text y u ≡ true) (sym one) (same-itself y))) in
          r ∙ subst (λ (u : Leaf). w y + weight (with_text y seen) ys ≡ w u + weight (with_text u seen) ys) (sym one) refl ∙ ap (λ (n : ℕ). w t + n) (sym s)
      here false eq x z = there (seen y) refl eq (same-not y t (λ (one : y ≡ t). apart one)) (sym (ap (λ (b : Bool). b || is_among ys t) eq) ∙ is) x z
        where
          apart : y ≡ t → ⊥
          apart one = let bad : true ≡ false = sym (same-itself t) ∙ subst (λ (u : Leaf). same_text t u ≡ false) one eq in cc

  -- Texts that are all among others cost at most as much as these.
  pub weight-within : (seen : Leaf → Bool) (fresh all : List Leaf) → ((t : Leaf) → is_among fresh t ≡ true → is_among all t ≡ true) → weight seen fresh ≤ weight seen all
  weight-within seen [] all sub = omega arith
  weight-within seen (t ∷ ts) all sub =
      let subs : (u : Leaf) → is_among ts u ≡ true → is_among all u ≡ true = λ u h. sub u (behind u (same_text u t) h) in
      by (seen t) refl (weight-within seen ts all subs) (weight-within (with_text t seen) ts all subs)
    where
      behind : (u : Leaf) (b : Bool) → is_among ts u ≡ true → (b || is_among ts u) ≡ true
      behind u true h = refl
      behind u false h = h

      by : (b : Bool) → seen t ≡ b → weight seen ts ≤ weight seen all → weight (with_text t seen) ts ≤ weight (with_text t seen) all → weight seen (t ∷ ts) ≤ weight seen all
      by true p x y = subst (λ (n : ℕ). n ≤ weight seen all) (sym (weight-seen seen t ts p)) x
      by false p x y =
          let q = weight-of seen t all p (sub t (ap (λ (b : Bool). b || is_among ts t) (same-itself t))) in
          let r = weight-new seen t ts p in
          omega (arith, q, r, y)

-- Sums over the numbers below one.

pub below-same : (f g : ℕ → ℕ) (n : ℕ) → ((k : ℕ) → k < n → f k ≡ g k) → sum_below f n ≡ sum_below g n
below-same f g zero same = refl
below-same f g (suc n) same =
    let a = below-same f g n (λ k lt. same k (omega (arith, lt))) in
    let b = same n (omega arith) in
    omega (arith, a, b)

pub below-within : (f g : ℕ → ℕ) (n : ℕ) → ((k : ℕ) → k < n → f k ≤ g k) → sum_below f n ≤ sum_below g n
below-within f g zero less = omega arith
below-within f g (suc n) less =
    let a = below-within f g n (λ k lt. less k (omega (arith, lt))) in
    let b = less n (omega arith) in
    omega (arith, a, b)

pub below-none : (f : ℕ → ℕ) (n : ℕ) → ((k : ℕ) → f k ≡ 0) → sum_below f n ≡ 0
below-none f zero none = refl
below-none f (suc n) none =
    let a = below-none f n none in
    let b = none n in
    omega (arith, a, b)

-- One of the numbers counts more.
pub below-one : (f g : ℕ → ℕ) (j v n : ℕ) → j < n → f j ≡ g j + v → ((k : ℕ) → (k ≡ j → ⊥) → f k ≡ g k) → sum_below f n ≡ sum_below g n + v
below-one f g j v zero lt same other = absurd (omega (arith, lt))
below-one f g j v (suc n) lt same other = by (j == n) refl (λ (l : j < n). below-one f g j v n l same other)
  where
    by : (b : Bool) → (j == n) ≡ b → (j < n → sum_below f n ≡ sum_below g n + v) → sum_below f (suc n) ≡ sum_below g (suc n) + v
    by true is rest =
        let eq = same-number j n is in
        let a = below-same f g n (λ k kl. other k (λ (e : k ≡ j). omega (arith, kl, e, eq))) in
        let b : f n ≡ g n + v = subst (λ (i : ℕ). f i ≡ g i + v) eq same in
        omega (arith, a, b)
    by false is rest =
        let ne = other-number j n is in
        let a = rest (before ne) in
        let b = other n (λ (e : n ≡ j). ne (sym e)) in
        omega (arith, a, b)
      where
        before : (j ≡ n → ⊥) → j < n
        before ne = omega (arith, lt, ne)

-- Texts by their lanes.
module _ (lane : Leaf → ℕ) where
  -- The texts of a lane.
  abbrev pub lane_texts : ℕ → List Leaf → List Leaf
  lane_texts k ts = filter (λ t. lane t == k) ts

  pub lane-own : (k : ℕ) (ts : List Leaf) (u : Leaf) → is_among (lane_texts k ts) u ≡ true → lane u ≡ k
  lane-own k [] u is = absurd cc
  lane-own k (t ∷ ts) u is = by (lane t == k) refl is (lane-own k ts u)
    where
      first : (b : Bool) → same_text u t ≡ b → lane t ≡ k → (b || is_among (lane_texts k ts) u) ≡ true → (is_among (lane_texts k ts) u ≡ true → lane u ≡ k) → lane u ≡ k
      first true eq at h rest = ap lane (same-is u t eq) ∙ at
      first false eq at h rest = rest h

      by : (b : Bool) → (lane t == k) ≡ b → is_among (cond b (t ∷ lane_texts k ts) (lane_texts k ts)) u ≡ true → (is_among (lane_texts k ts) u ≡ true → lane u ≡ k) → lane u ≡ k
      by true at h rest = first (same_text u t) refl (same-number (lane t) k at) h rest
      by false at h rest = rest h

  pub lane-times : (k : ℕ) (u : Leaf) (ts : List Leaf) → times u (lane_texts k ts) ≡ cond (lane u == k) (times u ts) 0
  lane-times k u [] = none (lane u == k)
    where
      none : (b : Bool) → ◌≡◌ {A = ℕ} 0 (cond b 0 0)
      none true = refl
      none false = refl
  lane-times k u (t ∷ ts) =
      let c = sum_by-cons (λ v. cond {A = ℕ} (same_text u v) 1 0) t ts in
      by (same_text u t) refl (lane t == k) refl (lane-times k u ts) c
    where
      count : Leaf → ℕ
      count v = cond {A = ℕ} (same_text u v) 1 0

      in-lane : (b : Bool) → (lane u == k) ≡ b → (n m r : ℕ) → n ≡ m + r → r ≡ cond b (times u ts) 0 → m + times u ts ≡ times u (t ∷ ts) → b ≡ true → n ≡ cond b (times u (t ∷ ts)) 0
      in-lane true is n m r e f g h = omega (arith, e, f, g)
      in-lane false is n m r e f g h = absurd cc

      not-there : (b : Bool) (n : ℕ) → n ≡ cond b (times u ts) 0 → times u ts ≡ times u (t ∷ ts) → n ≡ cond b (times u (t ∷ ts)) 0
      not-there true n e f = e ∙ f
      not-there false n e f = e

      by : (s : Bool) → same_text u t ≡ s → (b : Bool) → (lane t == k) ≡ b → times u (lane_texts k ts) ≡ cond (lane u == k) (times u ts) 0 → times u (t ∷ ts) ≡ cond {A = ℕ} (same_text u t) 1 0 + times u ts → times u (cond b (t ∷ lane_texts k ts) (lane_texts k ts)) ≡ cond (lane u == k) (times u (t ∷ ts)) 0
      by true is true at rest c =
          let one : u ≡ t = same-is u t is in
          let own : (lane u == k) ≡ true = ap (λ (v : Leaf). lane v == k) one ∙ at in
          let d : cond {A = ℕ} (same_text u t) 1 0 ≡ 1 = ap (λ (b : Bool). cond {A = ℕ} b 1 0) is in
          let e = sum_by-cons (λ v. cond {A = ℕ} (same_text u v) 1 0) t (lane_texts k ts) in
          in-lane (lane u == k) refl (times u (t ∷ lane_texts k ts)) 1 (times u (lane_texts k ts)) (omega (arith, d, e)) rest (omega (arith, c, d)) own
      by true is false at rest c =
          let one : u ≡ t = same-is u t is in
          let other : (lane u == k) ≡ false = ap (λ (v : Leaf). lane v == k) one ∙ at in
          rest ∙ ap (λ (b : Bool). cond {A = ℕ} b (times u ts) 0) other ∙ sym (ap (λ (b : Bool). cond {A = ℕ} b (times u (t ∷ ts)) 0) other)
      by false is true at rest c =
          let d : cond {A = ℕ} (same_text u t) 1 0 ≡ 0 = ap (λ (b : Bool). cond {A = ℕ} b 1 0) is in
          let e = sum_by-cons (λ v. cond {A = ℕ} (same_text u v) 1 0) t (lane_texts k ts) in
          not-there (lane u == k) (times u (t ∷ lane_texts k ts)) (let f : times u (t ∷ lane_texts k ts) ≡ times u (lane_texts k ts) = omega (arith, d, e) in f ∙ rest) (omega (arith, c, d))
      by false is false at rest c =
          let d : cond {A = ℕ} (same_text u t) 1 0 ≡ 0 = ap (λ (b : Bool). cond {A = ℕ} b 1 0) is in
          not-there (lane u == k) (times u (lane_texts k ts)) rest (omega (arith, c, d))

  -- The texts of all lanes together cost what all texts cost.
  pub lanes-weight : (w : Leaf → ℕ) (n : ℕ) → ((t : Leaf) → lane t < n) → (seen : Leaf → Bool) (ts : List Leaf) → sum_below (λ k. weight w seen (lane_texts k ts)) n ≡ weight w seen ts
  lanes-weight w n within seen [] = below-none (λ k. weight w seen (lane_texts k [])) n (λ k. refl)
  lanes-weight w n within seen (t ∷ ts) = by (seen t) refl (lanes-weight w n within seen ts) (lanes-weight w n within (with_text t seen) ts)
    where
      -- For its own lane the text costs the same; for another lane it is not there.
      there : (k : ℕ) → lane t ≡ k → lane_texts k (t ∷ ts) ≡ t ∷ lane_texts k ts
      there k at = ap (λ (b : Bool). cond b (t ∷ lane_texts k ts) (lane_texts k ts)) (number-same (lane t) k at)

      away : (k : ℕ) → (lane t ≡ k → ⊥) → lane_texts k (t ∷ ts) ≡ lane_texts k ts
      away k apart = ap (λ (b : Bool). cond b (t ∷ lane_texts k ts) (lane_texts k ts)) (number-other (lane t) k apart)

      seen-at : seen t ≡ true → (k : ℕ) (b : Bool) → (lane t == k) ≡ b → weight w seen (lane_texts k (t ∷ ts)) ≡ weight w seen (lane_texts k ts)
      seen-at is k true at = ap (weight w seen) (there k (same-number (lane t) k at)) ∙ weight-seen w seen t (lane_texts k ts) is
      seen-at is k false at = ap (weight w seen) (away k (other-number (lane t) k at))

      other : (k : ℕ) → (k ≡ lane t → ⊥) → weight w seen (lane_texts k (t ∷ ts)) ≡ weight w (with_text t seen) (lane_texts k ts)
      other k apart =
          ap (weight w seen) (away k (λ (e : lane t ≡ k). apart (sym e)))
          ∙ weight-on w seen (with_text t seen) (lane_texts k ts) (λ u h. sym (ap (λ (b : Bool). b || seen u) (same-not u t (λ (e : u ≡ t). apart (sym (lane-own k ts u h) ∙ ap lane e)))))

      by : (b : Bool) → seen t ≡ b → sum_below (λ k. weight w seen (lane_texts k ts)) n ≡ weight w seen ts → sum_below (λ k. weight w (with_text t seen) (lane_texts k ts)) n ≡ weight w (with_text t seen) ts → sum_below (λ k. weight w seen (lane_texts k (t ∷ ts))) n ≡ weight w seen (t ∷ ts)
      by true is x y =
          below-same (λ k. weight w seen (lane_texts k (t ∷ ts))) (λ k. weight w seen (lane_texts k ts)) n (λ k lt. seen-at is k (lane t == k) refl)
          ∙ x ∙ sym (weight-seen w seen t ts is)
      by false is x y =
          let own : weight w seen (lane_texts (lane t) (t ∷ ts)) ≡ w t + weight w (with_text t seen) (lane_texts (lane t) ts) = ap (weight w seen) (there (lane t) refl) ∙ weight-new w seen t (lane_texts (lane t) ts) is in
          let a = below-one (λ k. weight w seen (lane_texts k (t ∷ ts))) (λ k. weight w (with_text t seen) (lane_texts k ts)) (lane t) (w t) n (within t) (omega (arith, own)) other in
          let b = weight-new w seen t ts is in
          omega (arith, a, b, y)

-- Records and pairs of texts end to end.
pub length-joined : (ts : List Leaf) → length (joined ts) ≡ sum_by length ts
length-joined [] = refl
length-joined (t ∷ ts) =
    let a = length-append t (joined ts) in
    let b = length-joined ts in
    let c = sum_by-cons {X = Leaf} (λ (u : Leaf). length u) t ts in
    omega (arith, a, b, c)

pub length-pairs : {V : Type 0} (emits : List ℕ → List (List ℕ × V)) (ts : List Leaf) → length (pairs_of emits (joined ts)) ≡ sum_by (λ t. length (pairs_of emits t)) ts
length-pairs emits [] = refl
length-pairs emits (t ∷ ts) =
    let a = ap length (flat_map-append emits t (joined ts)) in
    let b = length-append (pairs_of emits t) (pairs_of emits (joined ts)) in
    let c = length-pairs emits ts in
    let d = sum_by-cons {X = Leaf} (λ u. length (pairs_of emits u)) t ts in
    omega (arith, a, b, c, d)

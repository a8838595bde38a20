-- Lists whose items are changed in place, one after the other.
use Rattle.std.proofs.Common.{◌≡◌, ℕ, zero, suc, ◌+◌, ◌<◌, ◌≤◌, ◌⊎◌, inl, inr, ⊎_elim, List, [], ◌∷◌, length, map, length-set, get_or-set_same, get_or-set_other, refl, sym, ap, subst, ◌∙◌, arith}
use Rattle.std.specs.Prelude.{slice_index_or, slice_set}
use Rattle.std.proofs.lemmas.List.{get_or_default, get_or-map, length-map}
use Rattle.run_engine.specs.InPlace.{EachAt, EachPair}

split : (k i : ℕ) → k < i + 1 → (k < i) ⊎ (i ≡ k)
split zero zero h = inr refl
split zero (suc i) h = inl (omega arith)
split (suc k) zero h = absurd (omega (arith, h))
split (suc k) (suc i) h = ⊎_elim (λ (l : k < i). inl (omega (arith, l))) (λ (e : i ≡ k). inr (ap suc e)) (split k i (omega (arith, h)))

module _ {A : Type 0} (P : ℕ → A → A → Type 0) where
  -- The first `i` were changed, the others not yet.
  pub record Partly (i : ℕ) (old now : List A) : Type 0 where
    pub count : length now ≡ length old
    pub done : (k : ℕ) (d e : A) → k < i → k < length old → P k (slice_index_or old k d) (slice_index_or now k e)
    pub ahead : (k : ℕ) (d : A) → i ≤ k → slice_index_or now k d ≡ slice_index_or old k d

  pub partly-none : (old : List A) → Partly 0 old old
  partly-none old = record { count = refl; done = λ k d e lt. absurd (omega (arith, lt)); ahead = λ k d le. refl }

  pub partly-more : (i : ℕ) (old now : List A) (x y : A) → Partly i old now → i < length old → x ≡ slice_index_or now i x → P i x y → Partly (i + 1) old (slice_set now i y)
  partly-more i old now x y p lt read px =
      let n = p.count in
      record {
        count = length-set now i y ∙ n;
        done = λ k d e kl within. ⊎_elim (λ (less : k < i). subst (P k (slice_index_or old k d)) (sym (get_or-set_other now i k y e (omega (arith, less)))) (p.done k d e less within)) (λ (same : i ≡ k). at-i k d e same) (split k i kl);
        ahead = λ k d le. get_or-set_other now i k y d (omega (arith, le)) ∙ p.ahead k d (omega (arith, le));
      }
    where
      at-i : (k : ℕ) (d e : A) → i ≡ k → P k (slice_index_or old k d) (slice_index_or (slice_set now i y) k e)
      at-i k d e same =
          let n = p.count in
          let was : x ≡ slice_index_or old i d = read ∙ p.ahead i x (omega arith) ∙ get_or_default old i x d lt in
          let is : y ≡ slice_index_or (slice_set now i y) i e = sym (get_or-set_same now i y e (omega (arith, lt, n))) in
          subst (λ (m : ℕ). P m (slice_index_or old m d) (slice_index_or (slice_set now i y) m e)) same
          (subst (λ (a : A). P i a (slice_index_or (slice_set now i y) i e)) was (subst (P i x) is px))

  pub partly-all : (i : ℕ) (old now : List A) → Partly i old now → length old ≤ i → EachPair P old now
  partly-all i old now p le = record { count = p.count; each = λ k d e lt. p.done k d e (omega (arith, lt, le)) lt }

module _ {A : Type 0} where
  pub pairs-same : (P : ℕ → A → A → Type 0) (xs : List A) → ((k : ℕ) (a : A) → P k a a) → EachPair P xs xs
  pairs-same P xs same = record { count = refl; each = λ k d e lt. subst (P k (slice_index_or xs k d)) (get_or_default xs k d e lt) (same k (slice_index_or xs k d)) }

  pub pairs-then : (P Q R : ℕ → A → A → Type 0) (xs ys zs : List A) → ((k : ℕ) (a b c : A) → P k a b → Q k b c → R k a c) → EachPair P xs ys → EachPair Q ys zs → EachPair R xs zs
  pairs-then P Q R xs ys zs go p q =
      let n = p.count in
      record { count = q.count ∙ n; each = λ k d e lt. go k (slice_index_or xs k d) (slice_index_or ys k d) (slice_index_or zs k e) (p.each k d d lt) (q.each k d e (omega (arith, lt, n))) }

  pub pairs-more : (P Q : ℕ → A → A → Type 0) (xs ys : List A) → ((k : ℕ) (a b : A) → P k a b → Q k a b) → EachPair P xs ys → EachPair Q xs ys
  pairs-more P Q xs ys go p = record { count = p.count; each = λ k d e lt. go k (slice_index_or xs k d) (slice_index_or ys k e) (p.each k d e lt) }

module _ {A B : Type 0} (f : A → B) where
  -- The results for all items, each at its place.
  pub pairs-mapped : (P : ℕ → A → A → Type 0) (Q : ℕ → B → B → Type 0) (xs ys : List A) → ((k : ℕ) (x y : A) → P k x y → Q k (f x) (f y)) → EachPair P xs ys → EachPair Q (map f xs) (map f ys)
  pairs-mapped P Q xs ys go p =
      let n = p.count in
      let a = length-map xs f in
      let b = length-map ys f in
      record { count = omega (arith, n, a, b); each = λ k d e lt. at k d e (omega (arith, lt, a)) (omega (arith, lt, a, n)) }
    where
      at : (k : ℕ) (d e : B) → k < length xs → k < length ys → Q k (slice_index_or (map f xs) k d) (slice_index_or (map f ys) k e)
      at k d e lx ly =
          let x = item xs k lx in
          let y = item ys k ly in
          subst (λ (b : B). Q k b (slice_index_or (map f ys) k e)) (sym (get_or-map f xs k x d lx))
          (subst (λ (b : B). Q k (f (slice_index_or xs k x)) b) (sym (get_or-map f ys k y e ly)) (go k (slice_index_or xs k x) (slice_index_or ys k y) (p.each k x y lx)))
        where
          item : (zs : List A) (k : ℕ) → k < length zs → A
          item [] k lt = absurd (omega (arith, lt))
          item (z ∷ zs) k lt = z

  pub each-mapped : (P : ℕ → A → Type 0) (Q : ℕ → B → Type 0) (xs : List A) → ((k : ℕ) (x : A) → P k x → Q k (f x)) → EachAt P xs → EachAt Q (map f xs)
  each-mapped P Q xs go each k d lt =
      let a = length-map xs f in
      let lx : k < length xs = omega (arith, lt, a) in
      let x = item xs k lx in
      subst (Q k) (sym (get_or-map f xs k x d lx)) (go k (slice_index_or xs k x) (each k x lx))
    where
      item : (zs : List A) (k : ℕ) → k < length zs → A
      item [] k lt = absurd (omega (arith, lt))
      item (z ∷ zs) k lt = z

-- After an early end, what holds of changed and of unchanged items holds of all.
pub partly-ended : {A : Type 0} (P Q : ℕ → A → A → Type 0) (i : ℕ) (old now : List A) (x y : A) → Partly P i old now → i < length old → x ≡ slice_index_or now i x → ((k : ℕ) (a b : A) → P k a b → Q k a b) → ((k : ℕ) (a : A) → Q k a a) → Q i x y → EachPair Q old (slice_set now i y)
partly-ended {A} P Q i old now x y p lt read weaker same qx =
    let q : Partly Q (i + 1) old (slice_set now i y) = partly-more Q i old now x y (record { count = p.count; done = λ k d e kl within. weaker k (slice_index_or old k d) (slice_index_or now k e) (p.done k d e kl within); ahead = p.ahead }) lt read qx in
    record { count = q.count; each = λ k d e within. at k d e within q }
  where
    at : (k : ℕ) (d e : A) → k < length old → Partly Q (i + 1) old (slice_set now i y) → Q k (slice_index_or old k d) (slice_index_or (slice_set now i y) k e)
    at k d e within q = ⊎_elim (λ (l : k < i + 1). q.done k d e l within) (λ (r : i + 1 ≤ k). subst (Q k (slice_index_or old k d)) (sym (q.ahead k e r ∙ get_or_default old k e d within)) (same k (slice_index_or old k d))) (side k (i + 1))
      where
        side : (k n : ℕ) → (k < n) ⊎ (n ≤ k)
        side k zero = inr (omega arith)
        side zero (suc n) = inl (omega arith)
        side (suc k) (suc n) = ⊎_elim (λ (l : k < n). inl (omega (arith, l))) (λ (r : n ≤ k). inr (omega (arith, r))) (side k n)

-- The item at a place, whatever the default is.
pub at-place : {A : Type 0} (xs : List A) (k : ℕ) → k < length xs → (x : A) × ((d : A) → slice_index_or xs k d ≡ x)
at-place [] k lt = absurd (omega (arith, lt))
at-place (x ∷ xs) zero lt = (x, λ d. refl)
at-place (x ∷ xs) (suc k) lt = at-place xs k (omega (arith, lt))

-- The result for the item at a place.
pub mapped-place : {A B : Type 0} (f : A → B) (xs : List A) (k : ℕ) (x : A) → k < length xs → ((d : A) → slice_index_or xs k d ≡ x) → (e : B) → slice_index_or (map f xs) k e ≡ f x
mapped-place f xs k x lt is e = get_or-map f xs k x e lt ∙ ap f (is x)

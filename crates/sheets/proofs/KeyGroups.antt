-- Entries whose keys are borrowed, and what pairs reduce to when one more is put.
use Rattle.std.proofs.Common.{◌≡◌, ℕ, zero, suc, ◌+◌, ◌<◌, Bool, true, false, cond, nat_eq, List, [], ◌∷◌, ◌++◌, length, map, take, Option, Some, None, refl, sym, ap, subst, ◌∙◌, arith, slice_get, get_or, Bor}
use Rattle.std.proofs.lemmas.List.{take_more}
use Rattle.std.specs.Cmp.{unsigned_ties}
use Rattle.std.specs.Cmp.Lexicographic.{pointwise, lists_ties}
use Rattle.std.specs.Map.{lookup, keys_of}
use Rattle.std.specs.Ordering.{nat_cmp, eq_by_cmp, is_eq, is_lt}
use Rattle.std.specs.declared.cmp.Ordering.{Ordering}
use Rattle.std.specs.declared.cmp.Ordering.TheVariants.{Less, Equal, Greater}
use Rattle.std.specs.FinMap.Entries.{is_sorted}
use Rattle.std.specs.List.{IsDistinct}
use Rattle.std.specs.List.Sorted.{IsSorted}
use Rattle.std.proofs.lemmas.Map.Keys.{IsDistinct-head, IsDistinct-tail}
use Rattle.std.proofs.lemmas.Bool.{false≢true}
use lib.Dec.{T}
use Rattle.definitions.specs.Tables.{key_cmp, IsRising, IsKey, HasKeys, HasGoodValues, IsGoodJoin, value_at, reduced, table_of, joined_found}
use Rattle.definitions.proofs.TableLaws.{tied_keys, eq_itself, turned, is_less, is_true, first, both, below_chain, value_at-table, good-table, good-value_at, reduced_push}
use Rattle.sheets.specs.Groups.{shown}

-- keys are equal by bytes if they tie
same_key : (q k : List ℕ) → pointwise nat_eq q k ≡ eq_by_cmp key_cmp q k
same_key q k = lists_ties nat_cmp unsigned_ties q k

-- ties go both ways
tied_back : (q k : List ℕ) → eq_by_cmp key_cmp q k ≡ eq_by_cmp key_cmp k q
tied_back q k = by (eq_by_cmp key_cmp q k) (eq_by_cmp key_cmp k q) refl refl
  where
    by : (a b : Bool) → eq_by_cmp key_cmp q k ≡ a → eq_by_cmp key_cmp k q ≡ b → a ≡ b
    by true b h g = sym (sym g ∙ ap (λ x. eq_by_cmp key_cmp k x) (tied_keys q k h) ∙ eq_itself k)
    by false true h g = sym h ∙ ap (λ x. eq_by_cmp key_cmp q x) (tied_keys k q g) ∙ eq_itself q
    by false false h g = refl

module _ {V : Type 0} where
  -- what a map finds is the value of the entries shown
  pub looked : (es : List (Bor (List ℕ) × V)) (q : List ℕ) → lookup (λ (k : Bor (List ℕ)). pointwise nat_eq q k.now) es ≡ value_at (shown es) q
  looked [] q = refl
  looked (e ∷ es) q = (λ i. cond (same_key q e.0.now i) (Some e.1) (looked es q i))

  -- one more value put at a key
  pub put_at : (join : V → V → V) (es lent fs : List (Bor (List ℕ) × V)) (key : Bor (List ℕ)) (w v : V) (held : Option V)
      → lent ≡ es
      → ((q : Bor (List ℕ)) → lookup (λ (k : Bor (List ℕ)). pointwise nat_eq q.now k.now) fs ≡ cond (pointwise nat_eq key.now q.now) (Some w) (lookup (λ (k : Bor (List ℕ)). pointwise nat_eq q.now k.now) lent))
      → held ≡ lookup (λ (k : Bor (List ℕ)). pointwise nat_eq key.now k.now) es
      → Some w ≡ joined_found join held (Some v)
      → (q : List ℕ) → value_at (shown fs) q ≡ cond (eq_by_cmp key_cmp q key.now) (joined_found join (value_at (shown es) q) (Some v)) (value_at (shown es) q)
  put_at join es lent fs key w v held same updates was is q =
      sym (looked fs q) ∙ updates (record { ref_ptr = key.ref_ptr; now = q })
      ∙ (λ i. cond ((same_key key.now q ∙ tied_back key.now q) i) (Some w) ((looked lent q ∙ ap (λ l. value_at (shown l) q) same) i))
      ∙ by (eq_by_cmp key_cmp q key.now) refl
    where
      by : (b : Bool) → eq_by_cmp key_cmp q key.now ≡ b → cond b (Some w) (value_at (shown es) q) ≡ cond b (joined_found join (value_at (shown es) q) (Some v)) (value_at (shown es) q)
      by true tied = is ∙ ap (λ o. joined_found join o (Some v)) (was ∙ looked es key.now ∙ ap (value_at (shown es)) (sym (tied_keys q key.now tied)))
      by false tied = refl

  get_is : (ps : List (List ℕ × V)) (i : ℕ) (p : List ℕ × V) → slice_get ps i ≡ Some p → get_or ps i p ≡ p
  get_is [] i p is = cc
  get_is (x ∷ ps) zero p is = cc
  get_is (x ∷ ps) (suc i) p is = get_is ps i p is

  -- what the pairs reduce to with one more
  pub reduced_more : (join : V → V → V) (ps : List (List ℕ × V)) (i : ℕ) (p : List ℕ × V) → i < length ps → slice_get ps i ≡ Some p → (q : List ℕ) → reduced join (take (i + 1) ps) q ≡ cond (eq_by_cmp key_cmp q p.0) (joined_found join (reduced join (take i ps) q) (Some p.1)) (reduced join (take i ps) q)
  reduced_more join ps i p lt is q = ap (λ l. reduced join l q) (take_more ps i p lt ∙ ap (λ x. take i ps ++ x ∷ []) (get_is ps i p is)) ∙ reduced_push join (take i ps) p q

  -- the value of a pair is good
  pub good_pair : (good : V → Type 0) (ps : List (List ℕ × V)) (i : ℕ) (p : List ℕ × V) → HasGoodValues good ps → slice_get ps i ≡ Some p → good p.1
  good_pair good [] i p g is = cc
  good_pair good (x ∷ ps) zero p g is = subst good (same x p is) g.0
    where
      same : (x p : List ℕ × V) → Some x ≡ Some p → x.1 ≡ p.1
      same x p h = cc
  good_pair good (x ∷ ps) (suc i) p g is = good_pair good ps i p g.1 is

  good_take : (good : V → Type 0) (n : ℕ) (ps : List (List ℕ × V)) → HasGoodValues good ps → HasGoodValues good (take n ps)
  good_take good zero ps g = tt
  good_take good (suc n) [] g = tt
  good_take good (suc n) (p ∷ ps) g = (g.0, good_take good n ps g.1)

  -- what good pairs reduce to be good
  pub good_reduced : {good : V → Type 0} {join : V → V → V} → IsGoodJoin good join → (ps : List (List ℕ × V)) (n : ℕ) → HasGoodValues good ps → (q : List ℕ) (v : V) → reduced join (take n ps) q ≡ Some v → good v
  good_reduced {good = good} {join = join} laws ps n g q v is = good-value_at good (table_of join (take n ps)) q v (good-table laws (take n ps) (good_take good n ps g)) (value_at-table join (take n ps) q ∙ is)

  -- the keys that are found are keys
  pub keys_put : (es fs : List (List ℕ × V)) (key : List ℕ) (f : List ℕ → Option V) → IsKey key → ((q : List ℕ) (v : V) → value_at es q ≡ Some v → IsKey q) → ((q : List ℕ) → value_at fs q ≡ cond (eq_by_cmp key_cmp q key) (f q) (value_at es q)) → (q : List ℕ) (v : V) → value_at fs q ≡ Some v → IsKey q
  keys_put es fs key f k h is q v found = by (eq_by_cmp key_cmp q key) refl
    where
      by : (b : Bool) → eq_by_cmp key_cmp q key ≡ b → IsKey q
      by true tied = subst IsKey (sym (tied_keys q key tied)) k
      by false tied = h q v (sym (is q ∙ rw tied refl) ∙ found)

  -- entries whose found keys are keys have keys
  pub has_keys : (es : List (List ℕ × V)) → ((q : List ℕ) (v : V) → value_at es q ≡ Some v → IsKey q) → HasKeys es
  has_keys [] h = tt
  has_keys (e ∷ es) h = (h e.0 e.1 (rw (eq_itself e.0) refl), has_keys es (λ q v is. by q v is (eq_by_cmp key_cmp q e.0) refl))
    where
      by : (q : List ℕ) (v : V) → value_at es q ≡ Some v → (b : Bool) → eq_by_cmp key_cmp q e.0 ≡ b → IsKey q
      by q v is true tied = h q e.1 (rw tied refl)
      by q v is false tied = h q v (rw tied is)

  -- the value of each key after one more pair
  pub found_more : (join : V → V → V) (es fs ps : List (List ℕ × V)) (i : ℕ) (p : List ℕ × V) → i < length ps → slice_get ps i ≡ Some p → ((q : List ℕ) → value_at es q ≡ reduced join (take i ps) q)
      → ((q : List ℕ) → value_at fs q ≡ cond (eq_by_cmp key_cmp q p.0) (joined_found join (value_at es q) (Some p.1)) (value_at es q))
      → (q : List ℕ) → value_at fs q ≡ reduced join (take (i + 1) ps) q
  found_more join es fs ps i p lt at found put q = put q ∙ ap (λ o. cond (eq_by_cmp key_cmp q p.0) (joined_found join o (Some p.1)) o) (found q) ∙ sym (reduced_more join ps i p lt at q)

-- a key that is not above the next one and differs from it is below it
rises_at : (x y : List ℕ) → is_lt (key_cmp y x) ≡ false → pointwise nat_eq x y ≡ false → key_cmp x y ≡ Less
rises_at x y above other = by (key_cmp x y) refl
  where
    by : (o : Ordering) → key_cmp x y ≡ o → key_cmp x y ≡ Less
    by Less is = is
    by Equal is = absurd (false≢true (sym other ∙ same_key x y ∙ ap is_eq is))
    by Greater is = absurd (false≢true (sym above ∙ ap is_lt (turned x y Greater is)))

module _ {V : Type 0} where
  rises : (es : List (Bor (List ℕ) × V)) → ((k : ℕ) (d : Bor (List ℕ)) → k + 1 < length (keys_of es) → is_lt (key_cmp (get_or (keys_of es) (k + 1) d).now (get_or (keys_of es) k d).now) ≡ false) → IsDistinct (λ (x y : Bor (List ℕ)). pointwise nat_eq x.now y.now) (keys_of es) → T (is_sorted key_cmp (shown es))
  rises [] s d = tt
  rises (e ∷ []) s d = tt
  rises (e ∷ f ∷ es) s d =
      let eq : Bor (List ℕ) → Bor (List ℕ) → Bool = λ x y. pointwise nat_eq x.now y.now in
      let rest = rises (f ∷ es) (λ k w lt. let n : suc (k + 1) ≡ suc k + 1 = omega arith in ap (λ i. is_lt (key_cmp (get_or (keys_of (e ∷ f ∷ es)) i w).now (get_or (keys_of (f ∷ es)) k w).now)) n ∙ s (suc k) w (omega (arith, lt))) (IsDistinct-tail eq e.0 (f.0 ∷ keys_of es) d) in
      let less = rises_at e.0.now f.0.now (s 0 e.0 (omega arith)) (IsDistinct-head eq e.0 (f.0 ∷ keys_of es) d).0 in
      both _ _ (both _ _ (subst (λ o. T (is_lt o)) (sym less) tt) (below_chain e.0.now f.0.now (shown es) less (first _ _ rest))) rest

  -- sorted entries of distinct keys rise
  pub rising_shown : (es : List (Bor (List ℕ) × V)) → IsSorted (λ (x y : Bor (List ℕ)). key_cmp x.now y.now) (keys_of es) → IsDistinct (λ (x y : Bor (List ℕ)). pointwise nat_eq x.now y.now) (keys_of es) → IsRising (shown es)
  rising_shown es s d = is_true _ (rises es (λ k w lt. s k w (omega arith) lt) d)

  -- the same entries in another order have the same values
  pub reordered_shown : (es fs : List (Bor (List ℕ) × V)) (at : ℕ × ℕ) → ((q : Bor (List ℕ)) → lookup (λ (k : Bor (List ℕ)). pointwise nat_eq q.now k.now) fs ≡ lookup (λ (k : Bor (List ℕ)). pointwise nat_eq q.now k.now) es) → (q : List ℕ) → value_at (shown fs) q ≡ value_at (shown es) q
  reordered_shown es fs at same q = sym (looked fs q) ∙ same (record { ref_ptr = at; now = q }) ∙ looked es q

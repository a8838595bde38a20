-- The laws of `topk`.
use Rattle.std.specs.Prelude.{◌≡◌, ◌≤◌, ℕ, zero, suc, min, Bool, true, false, cond, List, [], ◌∷◌, length, take, Option, Some, None}
use Rattle.std.proofs.Common.{refl, sym, ap, subst, ◌∙◌, arith, length-take}
use Rattle.std.specs.declared.cmp.Ordering.{Ordering}
use Rattle.std.specs.declared.cmp.Ordering.TheVariants.{Less, Equal, Greater}
use Rattle.std.specs.Ordering.{nat_cmp, is_gt, is_eq, ordering_reverse, ordering_then}
use Rattle.std.specs.Cmp.{IsTotalOrder}
use Rattle.std.proofs.lemmas.Cmp.{upto, nat_cmp_total, nat_list_cmp_total, on_total, then_total, back_total}
use Rattle.definitions.specs.Tables.{HasGoodValues, IsGoodJoin, key_cmp}
use Rattle.definitions.proofs.TableLaws.{tied_keys}
use Rattle.job_laws.specs.Forms.{split_at_tab}
use Rattle.job_topk.specs.Merging.{in_order_into, in_order, IsFirstOf, IsOrdered}
use Rattle.job_topk.specs.TopK.{member_pair, group_pair, topk_emits, member_cmp, topk_joined, topk_good}

module _ {A : Type 0} (R : A → A → Ordering) where
  -- The first k of a merge are among the first k of the left list.
  take_left : (k j : ℕ) (a b : List A) → k ≤ j → take k (in_order R (take j a) b) ≡ take k (in_order R a b)
  take_left zero j a b le = refl
  take_left (suc k) zero a b le = absurd (omega (arith, le))
  take_left (suc k) (suc j) [] b le = refl
  take_left (suc k) (suc j) (x ∷ xs) [] le = ap (λ l. x ∷ l) (take_left k j xs [] (omega (arith, le)))
  take_left (suc k) (suc j) (x ∷ xs) (y ∷ ys) le =
      elim (is_gt (R x y)) as (λ c. take (suc k) (cond c (y ∷ in_order_into R x (in_order R (take j xs)) ys) (x ∷ in_order R (take j xs) (y ∷ ys))) ≡ take (suc k) (cond c (y ∷ in_order_into R x (in_order R xs) ys) (x ∷ in_order R xs (y ∷ ys)))) [
        | true ↦ ap (λ l. y ∷ l) (take_left k (suc j) (x ∷ xs) ys (omega (arith, le)))
        | false ↦ ap (λ l. x ∷ l) (take_left k j xs (y ∷ ys) (omega (arith, le)))
      ]

  -- And of the right list.
  take_right : (k j : ℕ) (a b : List A) → k ≤ j → take k (in_order R a (take j b)) ≡ take k (in_order R a b)
  take_right zero j a b le = refl
  take_right (suc k) zero a b le = absurd (omega (arith, le))
  take_right (suc k) (suc j) a [] le = refl
  take_right (suc k) (suc j) [] (y ∷ ys) le = ap (λ l. y ∷ l) (take_right k j [] ys (omega (arith, le)))
  take_right (suc k) (suc j) (x ∷ xs) (y ∷ ys) le =
      elim (is_gt (R x y)) as (λ c. take (suc k) (cond c (y ∷ in_order_into R x (in_order R xs) (take j ys)) (x ∷ in_order R xs (y ∷ take j ys))) ≡ take (suc k) (cond c (y ∷ in_order_into R x (in_order R xs) ys) (x ∷ in_order R xs (y ∷ ys)))) [
        | true ↦ ap (λ l. y ∷ l) (take_right k j (x ∷ xs) ys (omega (arith, le)))
        | false ↦ ap (λ l. x ∷ l) (take_right k (suc j) xs (y ∷ ys) (omega (arith, le)))
      ]

  -- What is first of both lists is first of their merge.
  first_into : (z x : A) (rest : List A → List A) → is_gt (R z x) ≡ false → ((u : List A) → IsFirstOf R z u → IsFirstOf R z (rest u)) → (u : List A) → IsFirstOf R z u → IsFirstOf R z (in_order_into R x rest u)
  first_into z x rest lo ih [] f = (lo, ih [] f)
  first_into z x rest lo ih (y ∷ ys) f =
      elim (is_gt (R x y)) as (λ c. IsFirstOf R z (cond c (y ∷ in_order_into R x rest ys) (x ∷ rest (y ∷ ys)))) [ true ↦ (f.0, first_into z x rest lo ih ys f.1) | false ↦ (lo, ih (y ∷ ys) f) ]

  first_merge : (z : A) (a : List A) → IsFirstOf R z a → (u : List A) → IsFirstOf R z u → IsFirstOf R z (in_order R a u)
  first_merge z [] f u g = g
  first_merge z (x ∷ xs) f u g = first_into z x (in_order R xs) f.0 (first_merge z xs f.1) u g

  -- A prefix of an ordered list is ordered.
  first_take : (z : A) (k : ℕ) (a : List A) → IsFirstOf R z a → IsFirstOf R z (take k a)
  first_take z zero a f = tt
  first_take z (suc k) [] f = tt
  first_take z (suc k) (x ∷ xs) f = (f.0, first_take z k xs f.1)

  ordered_take : (k : ℕ) (a : List A) → IsOrdered R a → IsOrdered R (take k a)
  ordered_take zero a o = tt
  ordered_take (suc k) [] o = tt
  ordered_take (suc k) (x ∷ xs) o = (first_take x k xs o.0, ordered_take k xs o.1)

  -- Both sides of a test.
  pub behind : (x : A) (xs : List A) (y : A) (ys : List A) → is_gt (R x y) ≡ true → in_order R (x ∷ xs) (y ∷ ys) ≡ y ∷ in_order R (x ∷ xs) ys
  behind x xs y ys h = rw h refl

  pub ahead : (x : A) (xs : List A) (y : A) (ys : List A) → is_gt (R x y) ≡ false → in_order R (x ∷ xs) (y ∷ ys) ≡ x ∷ in_order R xs (y ∷ ys)
  ahead x xs y ys h = rw h refl

  pub none_right : (a : List A) → in_order R a [] ≡ a
  none_right [] = refl
  none_right (x ∷ xs) = ap (λ l. x ∷ l) (none_right xs)

module _ {A : Type 0} {R : A → A → Ordering} (order : IsTotalOrder R) (ties : (x y : A) → R x y ≡ Equal → x ≡ y) where
  greater : (o : Ordering) → is_gt o ≡ true → o ≡ Greater
  greater Less h = cc
  greater Equal h = cc
  greater Greater h = refl

  -- If x comes after y, y does not come after x.
  turned : (x y : A) → is_gt (R x y) ≡ true → is_gt (R y x) ≡ false
  turned x y h = rw (order.antisymm y x, greater (R x y) h) refl

  -- Coming after is transitive.
  chained : (x y z : A) → is_gt (R x y) ≡ true → is_gt (R y z) ≡ true → is_gt (R x z) ≡ true
  chained x y z h g =
      let yx : R y x ≡ Less = order.antisymm y x ∙ ap ordering_reverse (greater (R x y) h) in
      let zy : R z y ≡ Less = order.antisymm z y ∙ ap ordering_reverse (greater (R y z) g) in
      rw (order.antisymm x z, order.trans z y x zy yx) refl

  -- If x comes after z and not after y, y comes after z.
  passed : (x y z : A) → is_gt (R x y) ≡ false → is_gt (R x z) ≡ true → is_gt (R y z) ≡ true
  passed x y z h g = by (is_gt (R y z)) refl
    where
      by : (c : Bool) → is_gt (R y z) ≡ c → is_gt (R y z) ≡ true
      by true e = e
      by false e = absurd (clash (is_gt (R x z)) g (upto order x y z h e))
        where
          clash : (c : Bool) → c ≡ true → c ≡ false → ⊥
          clash true a b = cc
          clash false a b = cc

  tied : (x y : A) → is_gt (R x y) ≡ false → is_gt (R y x) ≡ false → x ≡ y
  tied x y h g = ties x y (by (R x y) h (ap is_gt (sym (order.antisymm y x)) ∙ g))
    where
      by : (o : Ordering) → is_gt o ≡ false → is_gt (ordering_reverse o) ≡ false → o ≡ Equal
      by Less a b = cc
      by Equal a b = refl
      by Greater a b = cc

  -- Merging is associative, whatever the lists.
  in_order_assoc : (a b c : List A) → in_order R (in_order R a b) c ≡ in_order R a (in_order R b c)
  in_order_assoc [] b c = refl
  in_order_assoc (x ∷ xs) [] c = ap (λ l. in_order R l c) (none_right R (x ∷ xs))
  in_order_assoc (x ∷ xs) (y ∷ ys) [] = none_right R (in_order R (x ∷ xs) (y ∷ ys)) ∙ ap (λ l. in_order R (x ∷ xs) l) (sym (none_right R (y ∷ ys)))
  in_order_assoc (x ∷ xs) (y ∷ ys) (z ∷ zs) = by (is_gt (R x y)) refl (is_gt (R y z)) refl (is_gt (R x z)) refl (in_order_assoc (x ∷ xs) (y ∷ ys) zs) (in_order_assoc (x ∷ xs) ys (z ∷ zs)) (in_order_assoc xs (y ∷ ys) (z ∷ zs))
    where
      by : (c : Bool) → is_gt (R x y) ≡ c → (d : Bool) → is_gt (R y z) ≡ d → (e : Bool) → is_gt (R x z) ≡ e
          → in_order R (in_order R (x ∷ xs) (y ∷ ys)) zs ≡ in_order R (x ∷ xs) (in_order R (y ∷ ys) zs)
          → in_order R (in_order R (x ∷ xs) ys) (z ∷ zs) ≡ in_order R (x ∷ xs) (in_order R ys (z ∷ zs))
          → in_order R (in_order R xs (y ∷ ys)) (z ∷ zs) ≡ in_order R xs (in_order R (y ∷ ys) (z ∷ zs))
          → in_order R (in_order R (x ∷ xs) (y ∷ ys)) (z ∷ zs) ≡ in_order R (x ∷ xs) (in_order R (y ∷ ys) (z ∷ zs))
      by true xy true yz e xz ih1 ih2 ih3 =
          let xz' : is_gt (R x z) ≡ true = chained x y z xy yz in
          ap (λ l. in_order R l (z ∷ zs)) (behind R x xs y ys xy)
          ∙ behind R y (in_order R (x ∷ xs) ys) z zs yz
          ∙ ap (λ l. z ∷ in_order R l zs) (sym (behind R x xs y ys xy))
          ∙ ap (λ l. z ∷ l) ih1
          ∙ sym (behind R x xs z (in_order R (y ∷ ys) zs) xz')
          ∙ ap (λ l. in_order R (x ∷ xs) l) (sym (behind R y ys z zs yz))
      by true xy false yz e xz ih1 ih2 ih3 =
          ap (λ l. in_order R l (z ∷ zs)) (behind R x xs y ys xy)
          ∙ ahead R y (in_order R (x ∷ xs) ys) z zs yz
          ∙ ap (λ l. y ∷ l) ih2
          ∙ sym (behind R x xs y (in_order R ys (z ∷ zs)) xy)
          ∙ ap (λ l. in_order R (x ∷ xs) l) (sym (ahead R y ys z zs yz))
      by false xy d yz true xz ih1 ih2 ih3 =
          let yz' : is_gt (R y z) ≡ true = passed x y z xy xz in
          ap (λ l. in_order R l (z ∷ zs)) (ahead R x xs y ys xy)
          ∙ behind R x (in_order R xs (y ∷ ys)) z zs xz
          ∙ ap (λ l. z ∷ in_order R l zs) (sym (ahead R x xs y ys xy))
          ∙ ap (λ l. z ∷ l) ih1
          ∙ sym (behind R x xs z (in_order R (y ∷ ys) zs) xz)
          ∙ ap (λ l. in_order R (x ∷ xs) l) (sym (behind R y ys z zs yz'))
      by false xy true yz false xz ih1 ih2 ih3 =
          ap (λ l. in_order R l (z ∷ zs)) (ahead R x xs y ys xy)
          ∙ ahead R x (in_order R xs (y ∷ ys)) z zs xz
          ∙ ap (λ l. x ∷ l) ih3
          ∙ ap (λ l. x ∷ in_order R xs l) (behind R y ys z zs yz)
          ∙ sym (ahead R x xs z (in_order R (y ∷ ys) zs) xz)
          ∙ ap (λ l. in_order R (x ∷ xs) l) (sym (behind R y ys z zs yz))
      by false xy false yz false xz ih1 ih2 ih3 =
          ap (λ l. in_order R l (z ∷ zs)) (ahead R x xs y ys xy)
          ∙ ahead R x (in_order R xs (y ∷ ys)) z zs xz
          ∙ ap (λ l. x ∷ l) ih3
          ∙ ap (λ l. x ∷ in_order R xs l) (ahead R y ys z zs yz)
          ∙ sym (ahead R x xs y (in_order R ys (z ∷ zs)) xy)
          ∙ ap (λ l. in_order R (x ∷ xs) l) (sym (ahead R y ys z zs yz))

  -- A member that is first of a list goes before it.
  first_left : (x : A) (xs b : List A) → IsFirstOf R x b → in_order R (x ∷ xs) b ≡ x ∷ in_order R xs b
  first_left x xs [] f = refl
  first_left x xs (y ∷ ys) f = ahead R x xs y ys f.0

  first_right : (x : A) (a b : List A) → IsFirstOf R x a → IsOrdered R a → IsFirstOf R x b → in_order R a (x ∷ b) ≡ x ∷ in_order R a b
  first_right x [] b f o g = refl
  first_right x (h ∷ hs) b f o g = by (is_gt (R h x)) refl (first_right x hs b f.1 o.1 g)
    where
      by : (c : Bool) → is_gt (R h x) ≡ c → in_order R hs (x ∷ b) ≡ x ∷ in_order R hs b → in_order R (h ∷ hs) (x ∷ b) ≡ x ∷ in_order R (h ∷ hs) b
      by true is ih = behind R h hs x b is
      by false is ih =
          let same : x ≡ h = tied x h f.0 is in
          ahead R h hs x b is
          ∙ ap (λ l. h ∷ l) ih
          ∙ ap (λ m. m ∷ (x ∷ in_order R hs b)) (sym same)
          ∙ ap (λ m. x ∷ (m ∷ in_order R hs b)) same
          ∙ ap (λ l. x ∷ l) (sym (first_left h hs b (subst (λ m. IsFirstOf R m b) same g)))

  -- Merging ordered lists is commutative.
  in_order_comm : (a b : List A) → IsOrdered R a → IsOrdered R b → in_order R a b ≡ in_order R b a
  in_order_comm [] b o p = sym (none_right R b)
  in_order_comm (x ∷ xs) [] o p = none_right R (x ∷ xs)
  in_order_comm (x ∷ xs) (y ∷ ys) o p = by (is_gt (R x y)) refl (is_gt (R y x)) refl (in_order_comm (x ∷ xs) ys o p.1) (in_order_comm xs (y ∷ ys) o.1 p)
    where
      by : (c : Bool) → is_gt (R x y) ≡ c → (d : Bool) → is_gt (R y x) ≡ d → in_order R (x ∷ xs) ys ≡ in_order R ys (x ∷ xs) → in_order R xs (y ∷ ys) ≡ in_order R (y ∷ ys) xs → in_order R (x ∷ xs) (y ∷ ys) ≡ in_order R (y ∷ ys) (x ∷ xs)
      by true xy d yx ih1 ih2 = behind R x xs y ys xy ∙ ap (λ l. y ∷ l) ih1 ∙ sym (ahead R y ys x xs (turned x y xy))
      by false xy true yx ih1 ih2 = ahead R x xs y ys xy ∙ ap (λ l. x ∷ l) ih2 ∙ sym (behind R y ys x xs yx)
      by false xy false yx ih1 ih2 =
          let same : x ≡ y = tied x y xy yx in
          let low : IsFirstOf R x ys = subst (λ m. IsFirstOf R m ys) (sym same) p.0 in
          ahead R x xs y ys xy
          ∙ ap (λ m. x ∷ in_order R xs (m ∷ ys)) (sym same)
          ∙ ap (λ l. x ∷ l) (first_right x xs ys o.0 o.1 low)
          ∙ ap (λ l. x ∷ l) (sym (first_left x xs ys low))
          ∙ ap (λ l. x ∷ l) ih1
          ∙ ap (λ m. m ∷ in_order R ys (x ∷ xs)) same
          ∙ sym (ahead R y ys x xs yx)

  -- If x does not come after y, and y after none of a list, x comes after none of it.
  first_chain : (x y : A) (b : List A) → is_gt (R x y) ≡ false → IsFirstOf R y b → IsFirstOf R x b
  first_chain x y [] h f = tt
  first_chain x y (z ∷ zs) h f = (upto order x y z h f.0, first_chain x y zs h f.1)

  -- The merge of ordered lists is ordered.
  in_order_ordered : (a b : List A) → IsOrdered R a → IsOrdered R b → IsOrdered R (in_order R a b)
  in_order_ordered [] b o p = p
  in_order_ordered (x ∷ xs) [] o p = subst (IsOrdered R) (sym (none_right R (x ∷ xs))) o
  in_order_ordered (x ∷ xs) (y ∷ ys) o p = by (is_gt (R x y)) refl (in_order_ordered (x ∷ xs) ys o p.1) (in_order_ordered xs (y ∷ ys) o.1 p)
    where
      by : (c : Bool) → is_gt (R x y) ≡ c → IsOrdered R (in_order R (x ∷ xs) ys) → IsOrdered R (in_order R xs (y ∷ ys)) → IsOrdered R (in_order R (x ∷ xs) (y ∷ ys))
      by true is ih1 ih2 =
          let low : is_gt (R y x) ≡ false = turned x y is in
          subst (IsOrdered R) (sym (behind R x xs y ys is)) (first_merge R y (x ∷ xs) (low, first_chain y x xs low o.0) ys p.0, ih1)
      by false is ih1 ih2 = subst (IsOrdered R) (sym (ahead R x xs y ys is)) (first_merge R x xs o.0 (y ∷ ys) (is, first_chain x y ys is p.0), ih2)

-- The order of members is total.
member_order : IsTotalOrder member_cmp
member_order = then_total (on_total (λ m. m.0) (back_total nat_cmp_total)) (on_total (λ m. m.1) nat_list_cmp_total)

-- Members that tie are equal.
member_ties : (a b : ℕ × List ℕ) → member_cmp a b ≡ Equal → a ≡ b
member_ties a b h =
    let score : nat_cmp b.0 a.0 ≡ Equal = one (nat_cmp b.0 a.0) (key_cmp a.1 b.1) h in
    let item : key_cmp a.1 b.1 ≡ Equal = two (nat_cmp b.0 a.0) (key_cmp a.1 b.1) h in
    let scores : a.0 ≡ b.0 = grind arith in
    let items : a.1 ≡ b.1 = tied_keys a.1 b.1 (ap is_eq item) in
    ap (λ n. (n, a.1)) scores ∙ ap (λ bytes. (b.0, bytes)) items
  where
    one : (o p : Ordering) → ordering_then o p ≡ Equal → o ≡ Equal
    one Less p h = h
    one Equal p h = refl
    one Greater p h = h

    two : (o p : Ordering) → ordering_then o p ≡ Equal → p ≡ Equal
    two Less p h = cc
    two Equal p h = h
    two Greater p h = cc

good_member : (k : ℕ) (group : List ℕ) (found : Option (List ℕ × List ℕ)) → HasGoodValues (topk_good k) (member_pair group found)
good_member k group None = tt
good_member k group (Some p) = ((omega arith, (tt, tt)), tt)

good_group : (k : ℕ) (found : Option (List ℕ × List ℕ)) → HasGoodValues (topk_good k) (group_pair found)
good_group k None = tt
good_group k (Some p) = good_member k p.0 (split_at_tab p.1)

-- Emitted lists are good.
pub topk_emits_good : (k : ℕ) (r : List ℕ) → HasGoodValues (topk_good k) (topk_emits r)
topk_emits_good k r = good_group k (split_at_tab r)

-- Joining keeps good lists, and is associative on them.
pub topk_join_laws : (k : ℕ) → IsGoodJoin (topk_good k) (topk_joined k)
topk_join_laws k = record { keeps = keeps_good; assoc = assoc_good }
  where
    keeps_good : (a b : List (ℕ × List ℕ)) → topk_good k a → topk_good k b → topk_good k (topk_joined k a b)
    keeps_good a b g h =
        let long : length (take k (in_order member_cmp a b)) ≡ min k (length (in_order member_cmp a b)) = length-take k (in_order member_cmp a b) in
        (omega (arith, long), ordered_take member_cmp k (in_order member_cmp a b) (in_order_ordered member_order member_ties a b g.1 h.1))

    assoc_good : (a b c : List (ℕ × List ℕ)) → topk_good k a → topk_good k b → topk_good k c → topk_joined k (topk_joined k a b) c ≡ topk_joined k a (topk_joined k b c)
    assoc_good a b c g h i =
        take_left member_cmp k k (in_order member_cmp a b) c (omega arith)
        ∙ ap (take k) (in_order_assoc member_order member_ties a b c)
        ∙ sym (take_right member_cmp k k a (in_order member_cmp b c) (omega arith))

-- Joining is commutative on good lists.
pub topk_joined_comm : (k : ℕ) (a b : List (ℕ × List ℕ)) → topk_good k a → topk_good k b → topk_joined k a b ≡ topk_joined k b a
topk_joined_comm k a b g h = ap (take k) (in_order_comm member_order member_ties a b g.1 h.1)

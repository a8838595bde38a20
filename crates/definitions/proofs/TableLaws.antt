-- A table is known by its value at each key, so its laws are laws of optional values.
use Rattle.std.proofs.Common.{◌≡◌, ℕ, Bool, true, false, cond, ◌||◌, ◌&&◌, List, [], ◌∷◌, ◌++◌, fold, Option, Some, None, refl, sym, ap, subst, ◌∙◌, is_some, map, append-nil}
use Rattle.std.specs.List.{list_any}
use Rattle.std.specs.declared.cmp.Ordering.{Ordering}
use Rattle.std.specs.declared.cmp.Ordering.TheVariants.{Less, Equal, Greater}
use Rattle.std.specs.Ordering.{eq_by_cmp, is_eq, is_lt, ordering_reverse}
use Rattle.std.specs.FinMap as finite
use Rattle.std.specs.FinMap.Entries.{is_sorted, below_all, same_entries}
use Rattle.std.proofs.lemmas.Cmp.{nat_list_cmp_total, tied_itself}
use lib.Dec.{T}
use Rattle.definitions.specs.Tables.{key_cmp, IsRising, value_at, values_with, joined_all, reduced, keys_of, entry_of, tabulate, table_of, joined_found, merged, AllGood, HasGoodValues, IsGoodJoin}

-- only equal keys tie
pub tied_keys : (q k : List ℕ) → eq_by_cmp key_cmp q k ≡ true → q ≡ k
tied_keys q k e = finite.slice_cmp-IsAntisymmetric finite.nat_cmp-IsAntisymmetric q k (is_equal (key_cmp q k) e)
  where
    is_equal : (o : Ordering) → is_eq o ≡ true → o ≡ Equal
    is_equal Less h = cc
    is_equal Equal h = refl
    is_equal Greater h = cc

-- a key ties with itself
pub eq_itself : (k : List ℕ) → eq_by_cmp key_cmp k k ≡ true
eq_itself k = ap is_eq (tied_itself nat_list_cmp_total k)

-- the order of two keys, reversed
pub turned : (x y : List ℕ) (o : Ordering) → key_cmp x y ≡ o → key_cmp y x ≡ ordering_reverse o
turned x y o is = nat_list_cmp_total.antisymm y x ∙ ap ordering_reverse is

pub is_less : (o : Ordering) → T (is_lt o) → o ≡ Less
is_less Less h = refl
is_less Equal h = absurd h
is_less Greater h = absurd h

pub is_true : (b : Bool) → T b → b ≡ true
is_true true h = refl
is_true false h = absurd h

pub first : (a b : Bool) → T (a && b) → T a
first true b p = tt
first false b p = p

pub second : (a b : Bool) → T (a && b) → T b
second true b p = p
second false b p = absurd p

pub both : (a b : Bool) → T a → T b → T (a && b)
both true b p q = q
both false b p q = absurd p

pub passes : (b : Bool) → b ≡ true → T b
passes b h = subst T (sym h) tt

module _ {V : Type 0} where
  -- what is below a key is below all that this key is below
  pub below_chain : (x y : List ℕ) (es : List (List ℕ × V)) → key_cmp x y ≡ Less → T (below_all key_cmp y es) → T (below_all key_cmp x es)
  below_chain x y [] lt below = tt
  below_chain x y (e ∷ es) lt below = both _ _ (subst (λ o. T (is_lt o)) (sym (nat_list_cmp_total.trans x y e.0 lt (is_less _ (first _ _ below)))) tt) (below_chain x y es lt (second _ _ below))

  entry_step : (f : List ℕ → Option V) (k q : List ℕ) (es : List (List ℕ × V)) (any b : Bool) (o : Option V) → eq_by_cmp key_cmp q k ≡ b → f k ≡ o → value_at es q ≡ cond any (f q) None → value_at (entry_of k o ++ es) q ≡ cond (b || any) (f q) None
  entry_step f k q es any true None tied is ih =
      let none : f q ≡ None = ap f (tied_keys q k tied) ∙ is in
      ih ∙ rw none (none_either any)
    where
      none_either : (any : Bool) → cond {A = Option V} any None None ≡ None
      none_either true = refl
      none_either false = refl
  entry_step f k q es any true (Some v) tied is ih = rw tied (sym is ∙ sym (ap f (tied_keys q k tied)))
  entry_step f k q es any false None tied is ih = ih
  entry_step f k q es any false (Some v) tied is ih = rw tied ih

  -- a table has at each listed key what f gives
  pub value_at-tabulate : (f : List ℕ → Option V) (ks : List (List ℕ)) (q : List ℕ) → value_at (tabulate f ks) q ≡ cond (list_any (eq_by_cmp key_cmp q) ks) (f q) None
  value_at-tabulate f [] q = refl
  value_at-tabulate f (k ∷ ks) q = entry_step f k q (tabulate f ks) _ _ (f k) refl refl (value_at-tabulate f ks q)

  -- the keys that are in the pairs
  pub listed-keys : (es : List (List ℕ × V)) (q : List ℕ) → list_any (eq_by_cmp key_cmp q) (keys_of es) ≡ is_some (value_at es q)
  unfolding keys_of
  listed-keys es q = sym (finite.contains_key-keys (finite.from_entries es) q) ∙ ap is_some (finite.get-from_entries nat_list_cmp_total es q)

  -- the first value, or else the second
  abbrev pub either : Option V → Option V → Option V
  either None b = b
  either (Some a) b = Some a

  -- the value at a key in two lists end to end
  pub value_at-append : (t u : List (List ℕ × V)) (q : List ℕ) → value_at (t ++ u) q ≡ either (value_at t q) (value_at u q)
  value_at-append [] u q = refl
  value_at-append (e ∷ t) u q = elim (eq_by_cmp key_cmp q e.0) as (λ b. cond b (Some e.1) (value_at (t ++ u) q) ≡ either (cond b (Some e.1) (value_at t q)) (value_at u q)) [ true ↦ refl | false ↦ value_at-append t u q ]

  -- the values of a key in two lists end to end
  pub values_with-append : (xs ys : List (List ℕ × V)) (q : List ℕ) → values_with (xs ++ ys) q ≡ values_with xs q ++ values_with ys q
  values_with-append [] ys q = refl
  values_with-append (e ∷ xs) ys q = elim (eq_by_cmp key_cmp q e.0) as (λ b. cond b (e.1 ∷ values_with (xs ++ ys) q) (values_with (xs ++ ys) q) ≡ cond b (e.1 ∷ values_with xs q) (values_with xs q) ++ values_with ys q) [ true ↦ ap (λ vs. e.1 ∷ vs) (values_with-append xs ys q) | false ↦ values_with-append xs ys q ]

  found_or_none : (o : Option V) → is_some o ≡ false → o ≡ None
  found_or_none None h = refl
  found_or_none (Some v) h = cc

module _ {V : Type 0} (f : List ℕ → Option V) where
  only_where : (found : Bool) (o : Option V) → (found ≡ false → o ≡ None) → cond found o None ≡ o
  only_where true o h = refl
  only_where false o h = sym (h refl)

  -- a table of f over the keys of es has what f gives, if f gives nothing at other keys
  pub value_at-over_keys : {W : Type 0} (es : List (List ℕ × W)) → ((q : List ℕ) → value_at es q ≡ None → f q ≡ None) → (q : List ℕ) → value_at (tabulate f (keys_of es)) q ≡ f q
  value_at-over_keys es others q = value_at-tabulate f (keys_of es) q ∙ rw listed-keys (only_where _ (f q) (λ h. others q (found_or_none _ h)))

  below_entry : (k x : List ℕ) (o : Option V) (es : List (List ℕ × V)) → T (is_lt (key_cmp x k)) → T (below_all key_cmp x es) → T (below_all key_cmp x (entry_of k o ++ es))
  below_entry k x None es h below = below
  below_entry k x (Some v) es h below = both _ _ h below

  below_tabulate : {W : Type 0} (x : List ℕ) (es : List (List ℕ × W)) → T (below_all key_cmp x es) → T (below_all key_cmp x (tabulate f (map (λ e. e.0) es)))
  below_tabulate x [] h = tt
  below_tabulate x (e ∷ es) h = below_entry e.0 x (f e.0) _ (first _ _ h) (below_tabulate x es (second _ _ h))

  rising_entry : (k : List ℕ) (o : Option V) (es : List (List ℕ × V)) → T (below_all key_cmp k es) → T (is_sorted key_cmp es) → T (is_sorted key_cmp (entry_of k o ++ es))
  rising_entry k None es below h = h
  rising_entry k (Some v) es below h = both _ _ below h

  rising_tabulate : {W : Type 0} (es : List (List ℕ × W)) → T (is_sorted key_cmp es) → T (is_sorted key_cmp (tabulate f (map (λ e. e.0) es)))
  rising_tabulate [] h = tt
  rising_tabulate (e ∷ es) h = rising_entry e.0 (f e.0) _ (below_tabulate e.0 es (first _ _ h)) (rising_tabulate es (second _ _ h))

  -- the table of f over the keys of es rises
  pub IsRising-over_keys : {W : Type 0} (es : List (List ℕ × W)) → IsRising (tabulate f (keys_of es))
  unfolding keys_of
  IsRising-over_keys es = is_true _ (rising_tabulate _ (finite.entries_sorted (finite.from_entries {R = key_cmp} es)))

-- two rising tables with the same values are equal
pub same_tables : {V : Type 0} (t u : List (List ℕ × V)) → IsRising t → IsRising u → ((q : List ℕ) → value_at t q ≡ value_at u q) → t ≡ u
same_tables t u a b = same_entries key_cmp nat_list_cmp_total (finite.slice_cmp-IsAntisymmetric finite.nat_cmp-IsAntisymmetric) t u (passes _ a) (passes _ b)

module _ {V : Type 0} (join : V → V → V) where
  -- a key that the pairs lack has no value
  reduced_absent : (es : List (List ℕ × V)) (q : List ℕ) → value_at es q ≡ None → reduced join es q ≡ None
  reduced_absent es q h = ap (joined_all join) (no_values es h)
    where
      no_values : (es : List (List ℕ × V)) → value_at es q ≡ None → values_with es q ≡ []
      no_values [] h = refl
      no_values (e ∷ es) h = elim (eq_by_cmp key_cmp q e.0) as (λ b. cond b (Some e.1) (value_at es q) ≡ None → cond b (e.1 ∷ values_with es q) (values_with es q) ≡ []) [ true ↦ λ h. cc | false ↦ no_values es ] h

  -- the value of a table at a key
  pub value_at-table : (es : List (List ℕ × V)) (q : List ℕ) → value_at (table_of join es) q ≡ reduced join es q
  unfolding table_of
  value_at-table es q = value_at-over_keys (reduced join es) es (reduced_absent es) q

  -- a table rises
  pub IsRising-table : (es : List (List ℕ × V)) → IsRising (table_of join es)
  unfolding table_of
  IsRising-table es = IsRising-over_keys (reduced join es) es

  -- the value of a merged table at a key
  pub value_at-merged : (t u : List (List ℕ × V)) (q : List ℕ) → value_at (merged join t u) q ≡ joined_found join (value_at t q) (value_at u q)
  unfolding merged
  value_at-merged t u q = value_at-over_keys (λ k. joined_found join (value_at t k) (value_at u k)) (t ++ u) (λ k h. neither (value_at t k) (value_at u k) (sym (value_at-append t u k) ∙ h)) q
    where
      neither : (a b : Option V) → either a b ≡ None → joined_found join a b ≡ None
      neither None b h = h
      neither (Some a) b h = cc

  -- a merged table rises
  pub IsRising-merged : (t u : List (List ℕ × V)) → IsRising (merged join t u)
  unfolding merged
  IsRising-merged t u = IsRising-over_keys (λ k. joined_found join (value_at t k) (value_at u k)) (t ++ u)

  fold_more : (a v : V) (ws : List V) → fold join a (ws ++ v ∷ []) ≡ join (fold join a ws) v
  fold_more a v [] = refl
  fold_more a v (w ∷ ws) = fold_more (join a w) v ws

  joined_more : (vs : List V) (v : V) → joined_all join (vs ++ v ∷ []) ≡ joined_found join (joined_all join vs) (Some v)
  joined_more [] v = refl
  joined_more (w ∷ ws) v = ap Some (fold_more w v ws)

  -- what pairs reduce to, with one pair more
  pub reduced_push : (ps : List (List ℕ × V)) (p : List ℕ × V) (q : List ℕ) → reduced join (ps ++ p ∷ []) q ≡ cond (eq_by_cmp key_cmp q p.0) (joined_found join (reduced join ps q) (Some p.1)) (reduced join ps q)
  reduced_push ps p q =
      ap (joined_all join) (values_with-append ps (p ∷ []) q)
      ∙ elim (eq_by_cmp key_cmp q p.0) as (λ b. joined_all join (values_with ps q ++ cond b (p.1 ∷ []) []) ≡ cond b (joined_found join (reduced join ps q) (Some p.1)) (reduced join ps q)) [
        | true ↦ joined_more (values_with ps q) p.1
        | false ↦ ap (joined_all join) (append-nil (values_with ps q))
      ]

  -- rising entries with what the pairs reduce to be their table
  pub is_table : (t ps : List (List ℕ × V)) → IsRising t → ((q : List ℕ) → value_at t q ≡ reduced join ps q) → t ≡ table_of join ps
  is_table t ps rises is = same_tables t (table_of join ps) rises (IsRising-table ps) (λ q. is q ∙ sym (value_at-table ps q))

module _ {V : Type 0} (good : V → Type 0) where
  -- the value at a key is good
  pub good-value_at : (es : List (List ℕ × V)) (q : List ℕ) (v : V) → HasGoodValues good es → value_at es q ≡ Some v → good v
  good-value_at [] q v g is = cc
  good-value_at (e ∷ es) q v g is = elim (eq_by_cmp key_cmp q e.0) as (λ b. cond b (Some e.1) (value_at es q) ≡ Some v → good v) [ true ↦ λ is. subst good (same e.1 v is) g.0 | false ↦ good-value_at es q v g.1 ] is
    where
      same : (a b : V) → Some a ≡ Some b → a ≡ b
      same a b h = cc

module _ {V : Type 0} {good : V → Type 0} {join : V → V → V} (laws : IsGoodJoin good join) where
  -- joining a to what is joined
  join-fold : (a w : V) (ws : List V) → good a → good w → AllGood good ws → join a (fold join w ws) ≡ fold join (join a w) ws
  join-fold a w [] ga gw gs = refl
  join-fold a w (x ∷ ws) ga gw gs = join-fold a (join w x) ws ga (laws.keeps w x gw gs.0) gs.1 ∙ ap (λ v. fold join v ws) (sym (laws.assoc a w x ga gw gs.0))

  good-fold : (a : V) (ws : List V) → good a → AllGood good ws → good (fold join a ws)
  good-fold a [] ga gs = ga
  good-fold a (x ∷ ws) ga gs = good-fold (join a x) ws (laws.keeps a x ga gs.0) gs.1

  fold-append : (a : V) (vs ws : List V) → fold join a (vs ++ ws) ≡ fold join (fold join a vs) ws
  fold-append a [] ws = refl
  fold-append a (v ∷ vs) ws = fold-append (join a v) vs ws

  joined_all-append : (vs ws : List V) → AllGood good vs → AllGood good ws → joined_all join (vs ++ ws) ≡ joined_found join (joined_all join vs) (joined_all join ws)
  joined_all-append [] ws gv gw = refl
  joined_all-append (v ∷ vs) [] gv gw = ap Some (fold-append v vs [])
  joined_all-append (v ∷ vs) (w ∷ ws) gv gw = ap Some (fold-append v vs (w ∷ ws) ∙ sym (join-fold (fold join v vs) w ws (good-fold v vs gv.0 gv.1) gw.0 gw.1))

  good-values_with : (es : List (List ℕ × V)) (q : List ℕ) → HasGoodValues good es → AllGood good (values_with es q)
  good-values_with [] q g = tt
  good-values_with (e ∷ es) q g = elim (eq_by_cmp key_cmp q e.0) as (λ b. AllGood good (cond b (e.1 ∷ values_with es q) (values_with es q))) [ true ↦ (g.0, good-values_with es q g.1) | false ↦ good-values_with es q g.1 ]

  -- the table of all pairs is the merge of the tables of both parts
  pub table-append : (xs ys : List (List ℕ × V)) → HasGoodValues good xs → HasGoodValues good ys → table_of join (xs ++ ys) ≡ merged join (table_of join xs) (table_of join ys)
  table-append xs ys gx gy = same_tables _ _ (IsRising-table join (xs ++ ys)) (IsRising-merged join (table_of join xs) (table_of join ys)) (λ q.
      value_at-table join (xs ++ ys) q ∙ ap (joined_all join) (values_with-append xs ys q)
      ∙ joined_all-append _ _ (good-values_with xs q gx) (good-values_with ys q gy)
      ∙ sym (value_at-merged join (table_of join xs) (table_of join ys) q ∙ rw (value_at-table, value_at-table) refl))

  GoodFound : Option V → Type 0
  GoodFound o = (v : V) → o ≡ Some v → good v

  found_assoc : (a b c : Option V) → GoodFound a → GoodFound b → GoodFound c → joined_found join (joined_found join a b) c ≡ joined_found join a (joined_found join b c)
  unfolding GoodFound
  found_assoc None b c ga gb gc = refl
  found_assoc (Some a) None c ga gb gc = refl
  found_assoc (Some a) (Some b) None ga gb gc = refl
  found_assoc (Some a) (Some b) (Some c) ga gb gc = ap Some (laws.assoc a b c (ga a refl) (gb b refl) (gc c refl))

  found-value_at : (es : List (List ℕ × V)) (q : List ℕ) → HasGoodValues good es → GoodFound (value_at es q)
  unfolding GoodFound
  found-value_at es q g v is = good-value_at good es q v g is

  -- merging is associative on tables of good values
  pub merged_assoc : (t u w : List (List ℕ × V)) → HasGoodValues good t → HasGoodValues good u → HasGoodValues good w → merged join (merged join t u) w ≡ merged join t (merged join u w)
  merged_assoc t u w gt gu gw = same_tables _ _ (IsRising-merged join _ w) (IsRising-merged join t _) (λ q.
      value_at-merged join (merged join t u) w q ∙ ap (λ o. joined_found join o (value_at w q)) (value_at-merged join t u q)
      ∙ found_assoc _ _ _ (found-value_at t q gt) (found-value_at u q gu) (found-value_at w q gw)
      ∙ sym (value_at-merged join t (merged join u w) q ∙ ap (joined_found join (value_at t q)) (value_at-merged join u w q)))

  good-tabulate : (f : List ℕ → Option V) → ((k : List ℕ) (v : V) → f k ≡ Some v → good v) → (ks : List (List ℕ)) → HasGoodValues good (tabulate f ks)
  good-tabulate f all [] = tt
  good-tabulate f all (k ∷ ks) = entry (f k) refl (good-tabulate f all ks)
    where
      entry : (o : Option V) → f k ≡ o → HasGoodValues good (tabulate f ks) → HasGoodValues good (entry_of k o ++ tabulate f ks)
      entry None is rest = rest
      entry (Some v) is rest = (all k v is, rest)

  good-joined_all : (vs : List V) → AllGood good vs → (v : V) → joined_all join vs ≡ Some v → good v
  good-joined_all [] gs v is = cc
  good-joined_all (w ∷ ws) gs v is = subst good (same (fold join w ws) v is) (good-fold w ws gs.0 gs.1)
    where
      same : (a b : V) → Some a ≡ Some b → a ≡ b
      same a b h = cc

  -- the values of a table are good
  pub good-table : (es : List (List ℕ × V)) → HasGoodValues good es → HasGoodValues good (table_of join es)
  unfolding table_of
  good-table es g = good-tabulate (reduced join es) (λ k v is. good-joined_all (values_with es k) (good-values_with es k g) v is) (keys_of es)

  good-found : (a b : Option V) → GoodFound a → GoodFound b → GoodFound (joined_found join a b)
  unfolding GoodFound
  good-found None b ga gb v is = gb v is
  good-found (Some a) None ga gb v is = ga v is
  good-found (Some a) (Some b) ga gb v is = subst good (same (join a b) v is) (laws.keeps a b (ga a refl) (gb b refl))
    where
      same : (a b : V) → Some a ≡ Some b → a ≡ b
      same a b h = cc

  -- the values of a merged table are good
  pub good-merged : (t u : List (List ℕ × V)) → HasGoodValues good t → HasGoodValues good u → HasGoodValues good (merged join t u)
  unfolding merged GoodFound
  good-merged t u gt gu = good-tabulate (λ k. joined_found join (value_at t k) (value_at u k)) (λ k v is. good-found (value_at t k) (value_at u k) (found-value_at t k gt) (found-value_at u k gu) v is) (keys_of (t ++ u))

  -- merging is commutative on tables of good values, if joining is on good values
  pub merged_comm : ((a b : V) → good a → good b → join a b ≡ join b a) → (t u : List (List ℕ × V)) → HasGoodValues good t → HasGoodValues good u → merged join t u ≡ merged join u t
  unfolding GoodFound
  merged_comm comm t u gt gu = same_tables _ _ (IsRising-merged join t u) (IsRising-merged join u t) (λ q.
      value_at-merged join t u q ∙ swap (value_at t q) (value_at u q) (found-value_at t q gt) (found-value_at u q gu) ∙ sym (value_at-merged join u t q))
    where
      swap : (a b : Option V) → GoodFound a → GoodFound b → joined_found join a b ≡ joined_found join b a
      swap None None ga gb = refl
      swap None (Some b) ga gb = refl
      swap (Some a) None ga gb = refl
      swap (Some a) (Some b) ga gb = ap Some (comm a b (ga a refl) (gb b refl))

module _ {V : Type 0} (join : V → V → V) where
  -- the table of no pairs has no entries
  pub table-nothing : table_of join [] ≡ []
  unfolding table_of keys_of
  table-nothing = same_tables (table_of join []) [] (IsRising-table join []) refl (value_at-table join [])

  -- a rising table merged with nothing stays
  pub merged-nothing : (t : List (List ℕ × V)) → IsRising t → merged join t [] ≡ t
  merged-nothing t a = same_tables _ t (IsRising-merged join t []) a (λ q. value_at-merged join t [] q ∙ right (value_at t q))
    where
      right : (o : Option V) → joined_found join o None ≡ o
      right None = refl
      right (Some v) = refl

  -- nothing merged with a rising table is that table
  pub nothing-merged : (t : List (List ℕ × V)) → IsRising t → merged join [] t ≡ t
  nothing-merged t a = same_tables _ t (IsRising-merged join [] t) a (λ q. value_at-merged join [] t q)

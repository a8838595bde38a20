-- The keys of tables are distributed over the parts: all parts together have all keys.
use Rattle.std.proofs.Common.{◌≡◌, ℕ, zero, suc, ◌+◌, ◌<◌, ◌≤◌, ◌==◌, Bool, true, false, cond, ◌||◌, List, [], ◌∷◌, ◌++◌, length, map, Option, Some, None, refl, sym, ap, ◌∙◌, is_some, arith}
use Rattle.std.specs.Prelude.{filter}
use Rattle.std.specs.List.{list_any}
use Rattle.std.specs.Ordering.{eq_by_cmp}
use Rattle.std.proofs.lemmas.Bool.Decides.{nat_tests}
use Rattle.std.proofs.lemmas.List.Elements.{filter-append}
use Rattle.definitions.specs.Tables.{key_cmp, value_at, values_with, joined_all, keys_of, entry_of, tabulate, table_of}
use Rattle.definitions.proofs.TableLaws.{eq_itself, either, value_at-append, value_at-table, listed-keys, value_at-over_keys, IsRising-over_keys, same_tables}
use Rattle.partition.specs.Parts.{part_number}
use Rattle.sheets.specs.Parts.{in_part, sum_below}
use Rattle.sheets.specs.United.{end_to_end}
use Rattle.sheets.proofs.PartUnion.{value_at-in_part}

-- that there is a value, and not which
abbrev there : {V : Type 0} → Option V → Option Bool
there None = None
there (Some v) = Some true

there_same : {V W : Type 0} (o : Option V) (p : Option W) → is_some o ≡ is_some p → there o ≡ there p
there_same None None h = refl
there_same None (Some w) h = cc
there_same (Some v) None h = cc
there_same (Some v) (Some w) h = refl

there_some : {V : Type 0} (o : Option V) → is_some o ≡ true → there o ≡ Some true
there_some None h = cc
there_some (Some v) h = refl

-- a table over keys, of which some pass, has as many entries as pass
length-tabulate : (p : List ℕ → Bool) (f : List ℕ → Option Bool) (ks : List (List ℕ)) → ((k : List ℕ) → list_any (eq_by_cmp key_cmp k) ks ≡ true → f k ≡ cond (p k) (Some true) None) → length (tabulate f ks) ≡ length (filter p ks)
length-tabulate p f [] h = refl
length-tabulate p f (k ∷ ks) h =
    let here : f k ≡ cond (p k) (Some true) None = h k (ap (λ b. b || list_any (eq_by_cmp key_cmp k) ks) (eq_itself k)) in
    let rest = length-tabulate p f ks (λ q any. h q (later q any)) in
    ap (λ (o : Option Bool). length (entry_of k o ++ tabulate f ks)) here
    ∙ elim (p k) as (λ b. length (entry_of {V = Bool} k (cond b (Some true) None) ++ tabulate f ks) ≡ length (cond b (k ∷ filter p ks) (filter p ks))) [ true ↦ ap suc rest | false ↦ rest ]
  where
    later : (q : List ℕ) → list_any (eq_by_cmp key_cmp q) ks ≡ true → list_any (eq_by_cmp key_cmp q) (k ∷ ks) ≡ true
    later q any = elim (eq_by_cmp key_cmp q k) as (λ b. (b || list_any (eq_by_cmp key_cmp q) ks) ≡ true) [ true ↦ refl | false ↦ any ]

nothing : (b : Bool) → cond {A = Option Bool} b None None ≡ None
nothing true = refl
nothing false = refl

filter_all : {X : Type 0} (xs : List X) → filter (λ x. true) xs ≡ xs
filter_all [] = refl
filter_all (x ∷ xs) = ap (λ l. x ∷ l) (filter_all xs)

module _ {V : Type 0} where
  none_there : (es : List (List ℕ × V)) (q : List ℕ) → value_at es q ≡ None → there (value_at es q) ≡ None
  none_there es q is = ap there is

  listed : (es : List (List ℕ × V)) (k : List ℕ) → list_any (eq_by_cmp key_cmp k) (keys_of es) ≡ true → there (value_at es k) ≡ Some true
  listed es k any = there_some (value_at es k) (sym (listed-keys es k) ∙ any)

  -- the keys of entries, counted by a table over them
  length-there : (es : List (List ℕ × V)) → length (tabulate (λ q. there (value_at es q)) (keys_of es)) ≡ length (keys_of es)
  length-there es = length-tabulate (λ k. true) (λ q. there (value_at es q)) (keys_of es) (listed es) ∙ ap length (filter_all (keys_of es))

module _ {V W : Type 0} where
  -- entries with values at the same keys have as many keys
  pub length-same_keys : (es : List (List ℕ × V)) (fs : List (List ℕ × W)) → ((q : List ℕ) → is_some (value_at es q) ≡ is_some (value_at fs q)) → length (keys_of es) ≡ length (keys_of fs)
  length-same_keys es fs same =
      let f = λ (q : List ℕ). there (value_at es q) in
      let g = λ (q : List ℕ). there (value_at fs q) in
      let tables : tabulate f (keys_of es) ≡ tabulate g (keys_of fs) = same_tables (tabulate f (keys_of es)) (tabulate g (keys_of fs)) (IsRising-over_keys f es) (IsRising-over_keys g fs)
      (λ q. value_at-over_keys f es (none_there es) q ∙ there_same (value_at es q) (value_at fs q) (same q) ∙ sym (value_at-over_keys g fs (none_there fs) q)) in
      sym (length-there es) ∙ ap length tables ∙ length-there fs

module _ {V : Type 0} (parts : ℕ) where
  there_passing : (b : Bool) (v : Option V) → there (cond b v None) ≡ cond b (there v) None
  there_passing true v = refl
  there_passing false v = refl

  -- the keys of a part are those keys that belong to it
  pub length-part_keys : (part : ℕ) (es : List (List ℕ × V)) → length (keys_of (in_part parts part es)) ≡ length (filter (λ k. part_number k parts == part) (keys_of es))
  length-part_keys part es =
      let passes = λ (k : List ℕ). part_number k parts == part in
      let own = in_part parts part es in
      let f = λ (q : List ℕ). there (value_at own q) in
      let g = λ (q : List ℕ). cond (passes q) (there (value_at es q)) None in
      let tables : tabulate f (keys_of own) ≡ tabulate g (keys_of es) = same_tables (tabulate f (keys_of own)) (tabulate g (keys_of es)) (IsRising-over_keys f own) (IsRising-over_keys g es)
      (λ q. value_at-over_keys f own (none_there own) q
      ∙ ap there (value_at-in_part parts part es q) ∙ there_passing (passes q) (value_at es q)
      ∙ sym (value_at-over_keys g es (λ k none. ap (λ o. cond (passes k) o None) (none_there es k none) ∙ nothing (passes k)) q)) in
      sym (length-there own) ∙ ap length tables ∙ length-tabulate passes g (keys_of es) (λ k any. ap (λ o. cond (passes k) o None) (listed es k any))

sum_below-same : (f g : ℕ → ℕ) (n : ℕ) → ((i : ℕ) → f i ≡ g i) → sum_below f n ≡ sum_below g n
sum_below-same f g zero same = refl
sum_below-same f g (suc n) same = λ i. sum_below-same f g n same i + same n i

sum_below-add : (f g : ℕ → ℕ) (n : ℕ) → sum_below (λ i. f i + g i) n ≡ sum_below f n + sum_below g n
sum_below-add f g zero = refl
sum_below-add f g (suc n) = let rest = sum_below-add f g n in omega (arith, rest)

sum_below-none : (n : ℕ) → sum_below (λ i. 0) n ≡ 0
sum_below-none zero = refl
sum_below-none (suc n) = let rest = sum_below-none n in omega (arith, rest)

not_below : (a n : ℕ) → n ≤ a → sum_below (λ i. cond (a == i) 1 0) n ≡ 0
not_below a zero above = refl
not_below a (suc n) above =
    let rest = not_below a n (omega (arith, above)) in
    let other : a == n ≡ false = grind (arith, nat_tests) in
    ap (λ b. sum_below (λ i. cond (a == i) 1 0) n + cond b 1 0) other ∙ omega (arith, rest)

-- a number is one of those below a greater one
one_below : (a n : ℕ) → a < n → sum_below (λ i. cond (a == i) 1 0) n ≡ 1
one_below a zero below = absurd (omega (arith, below))
one_below a (suc n) below =
    elim (a == n) as (λ b. a == n ≡ b → sum_below (λ i. cond (a == i) 1 0) n + cond b 1 0 ≡ 1) [
      | true ↦ λ is. let here : a ≡ n = grind (arith, nat_tests) in let rest = not_below a n (omega (arith, here)) in omega (arith, rest)
      | false ↦ λ is. let less : a < n = grind (arith, nat_tests) in let rest = one_below a n less in omega (arith, rest)
    ] refl

-- each key belongs to one part
keys_shared : (parts : ℕ) → 1 ≤ parts → (ks : List (List ℕ)) → sum_below (λ part. length (filter (λ k. part_number k parts == part) ks)) parts ≡ length ks
keys_shared parts some [] = sum_below-none parts
keys_shared parts some (k ∷ ks) =
    let rest = keys_shared parts some ks in
    let one = one_below (part_number k parts) parts below in
    sum_below-same (λ part. length (filter (λ k. part_number k parts == part) (k ∷ ks))) (λ part. cond (part_number k parts == part) 1 0 + length (filter (λ k. part_number k parts == part) ks)) parts (λ part. split (part_number k parts == part) (filter (λ k. part_number k parts == part) ks))
    ∙ sum_below-add (λ part. cond (part_number k parts == part) 1 0) (λ part. length (filter (λ k. part_number k parts == part) ks)) parts
    ∙ omega (arith, rest, one)
  where
    below : part_number k parts < parts
    below = grind (arith, nat_tests)

    split : (b : Bool) (l : List (List ℕ)) → length (cond b (k ∷ l) l) ≡ cond b 1 0 + length l
    split true l = omega arith
    split false l = omega arith

module _ {V : Type 0} (join : V → V → V) where
  -- a table has a value at the keys of its pairs
  some_table : (ps : List (List ℕ × V)) (q : List ℕ) → is_some (value_at (table_of join ps) q) ≡ is_some (value_at ps q)
  some_table ps q = ap is_some (value_at-table join ps q) ∙ some ps
    where
      some : (es : List (List ℕ × V)) → is_some (joined_all join (values_with es q)) ≡ is_some (value_at es q)
      some [] = refl
      some (e ∷ es) = elim (eq_by_cmp key_cmp q e.0) as (λ b. is_some (joined_all join (cond b (e.1 ∷ values_with es q) (values_with es q))) ≡ is_some (cond b (Some e.1) (value_at es q))) [ true ↦ refl | false ↦ some es ]

  some_either : (a b : Option V) → is_some (either a b) ≡ (is_some a || is_some b)
  some_either None b = refl
  some_either (Some a) b = refl

  some_passing : (b : Bool) (x y : Option V) → is_some x ≡ is_some y → is_some (cond b x None) ≡ is_some (cond b y None)
  some_passing true x y same = same
  some_passing false x y same = refl

  -- the parts of tables have values at the keys of that part of all pairs
  some_parts : (parts part : ℕ) (lists : List (List (List ℕ × V))) (q : List ℕ) → is_some (value_at (end_to_end (map (λ ps. in_part parts part (table_of join ps)) lists)) q) ≡ is_some (value_at (in_part parts part (end_to_end lists)) q)
  some_parts parts part [] q = refl
  some_parts parts part (ps ∷ lists) q =
      let passes = part_number q parts == part in
      let own = in_part parts part (table_of join ps) in
      let others = end_to_end (map (λ ps. in_part parts part (table_of join ps)) lists) in
      let here : is_some (value_at own q) ≡ is_some (value_at (in_part parts part ps) q) =
      ap is_some (value_at-in_part parts part (table_of join ps) q) ∙ some_passing passes (value_at (table_of join ps) q) (value_at ps q) (some_table ps q) ∙ ap is_some (sym (value_at-in_part parts part ps q)) in
      ap is_some (value_at-append own others q) ∙ some_either (value_at own q) (value_at others q)
      ∙ (λ i. here i || some_parts parts part lists q i)
      ∙ sym (some_either (value_at (in_part parts part ps) q) (value_at (in_part parts part (end_to_end lists)) q))
      ∙ ap is_some (sym (value_at-append (in_part parts part ps) (in_part parts part (end_to_end lists)) q))
      ∙ ap (λ l. is_some (value_at l q)) (sym (filter-append (λ (e : List ℕ × V). part_number e.0 parts == part) ps (end_to_end lists)))

  -- all parts of tables together have as many keys as all pairs
  pub parts_share : (parts : ℕ) (lists : List (List (List ℕ × V))) → 1 ≤ parts → sum_below (λ part. length (keys_of (end_to_end (map (λ ps. in_part parts part (table_of join ps)) lists)))) parts ≡ length (keys_of (end_to_end lists))
  parts_share parts lists some =
      sum_below-same (λ part. length (keys_of (end_to_end (map (λ ps. in_part parts part (table_of join ps)) lists)))) (λ part. length (filter (λ k. part_number k parts == part) (keys_of (end_to_end lists)))) parts
      (λ part. length-same_keys (end_to_end (map (λ ps. in_part parts part (table_of join ps)) lists)) (in_part parts part (end_to_end lists)) (some_parts parts part lists) ∙ length-part_keys parts part (end_to_end lists))
      ∙ keys_shared parts some (keys_of (end_to_end lists))

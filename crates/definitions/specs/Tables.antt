-- Tables of partial results: what pairs of a key and a value reduce to, key by key. `join` joins two values of one key.
use Rattle.std.specs.Prelude.{◌≡◌, ℕ, cond, ◌+◌, List, [], ◌∷◌, ◌++◌, fold, Option, Some, None, IsTrue, length, ◌≤◌}
use Rattle.std.specs.declared.cmp.Ordering.{Ordering}
use Rattle.std.specs.Ordering.{nat_cmp, eq_by_cmp}
use Rattle.std.specs.Cmp.Lexicographic.{slice_cmp}
use Rattle.std.specs.FinMap as finite
use Rattle.std.specs.FinMap.Entries.{find, is_sorted, by_order}
use Rattle.definitions.specs.Limits.{most_record}

-- The byte order of keys.
abbrev pub key_cmp : List ℕ → List ℕ → Ordering
key_cmp = slice_cmp nat_cmp

-- The keys strictly rise.
abbrev pub IsRising : {V : Type 0} → List (List ℕ × V) → Type 0
IsRising es = IsTrue (is_sorted key_cmp es)

-- The value at a key.
abbrev pub value_at : {V : Type 0} → List (List ℕ × V) → List ℕ → Option V
value_at es key = find key_cmp key es

-- The values of a key, in the order of the pairs.
abbrev pub values_with : {V : Type 0} → List (List ℕ × V) → List ℕ → List V
values_with [] key = []
values_with (e ∷ es) key = cond (eq_by_cmp key_cmp key e.0) (e.1 ∷ values_with es key) (values_with es key)

-- The values joined from left to right.
abbrev pub joined_all : {V : Type 0} → (V → V → V) → List V → Option V
joined_all join [] = None
joined_all join (v ∷ vs) = Some (fold join v vs)

-- What the values of a key reduce to: they are joined in the order of the pairs.
abbrev pub reduced : {V : Type 0} → (V → V → V) → List (List ℕ × V) → List ℕ → Option V
reduced join pairs key = joined_all join (values_with pairs key)

-- The distinct keys in byte order.
unfoldable pub keys_of : {V : Type 0} → List (List ℕ × V) → List (List ℕ)
keys_of pairs = finite.keys (finite.from_entries {R = key_cmp} pairs)

-- An entry, if there is a value.
abbrev pub entry_of : {V : Type 0} → List ℕ → Option V → List (List ℕ × V)
entry_of key None = []
entry_of key (Some v) = (key, v) ∷ []

-- The keys that have a value, each with its value.
abbrev pub tabulate : {V : Type 0} → (List ℕ → Option V) → List (List ℕ) → List (List ℕ × V)
tabulate f [] = []
tabulate f (k ∷ ks) = entry_of k (f k) ++ tabulate f ks

-- The distinct keys of the pairs in byte order, each with what its values reduce to.
unfoldable pub table_of : {V : Type 0} → (V → V → V) → List (List ℕ × V) → List (List ℕ × V)
table_of join pairs = tabulate (reduced join pairs) (keys_of pairs)

-- The value of the one that has one, or the joined value of both.
abbrev pub joined_found : {V : Type 0} → (V → V → V) → Option V → Option V → Option V
joined_found join None b = b
joined_found join (Some a) None = Some a
joined_found join (Some a) (Some b) = Some (join a b)

-- The keys of either table in byte order, with the joined value if both have the key.
unfoldable pub merged : {V : Type 0} → (V → V → V) → List (List ℕ × V) → List (List ℕ × V) → List (List ℕ × V)
merged join t u = tabulate (λ k. joined_found join (value_at t k) (value_at u k)) (keys_of (t ++ u))

-- Each value is good.
abbrev pub AllGood : {V : Type 0} → (V → Type 0) → List V → Type 0
AllGood good [] = Unit {0}
AllGood good (v ∷ vs) = good v × AllGood good vs

-- The values of the entries are good.
abbrev pub HasGoodValues : {V : Type 0} → (V → Type 0) → List (List ℕ × V) → Type 0
HasGoodValues good [] = Unit {0}
HasGoodValues good (e ∷ es) = good e.1 × HasGoodValues good es

-- A key has at least one byte, and at most as many as a record.
abbrev pub IsKey : List ℕ → Type 0
IsKey key = (1 ≤ length key) × (length key ≤ most_record)

-- The keys of the entries are keys of this form.
abbrev pub HasKeys : {V : Type 0} → List (List ℕ × V) → Type 0
HasKeys [] = Unit {0}
HasKeys (e ∷ es) = IsKey e.0 × HasKeys es

-- Joining keeps good values, and is associative on them.
pub record IsGoodJoin {V : Type 0} (good : V → Type 0) (join : V → V → V) : Type 0 where
  pub keeps : (a b : V) → good a → good b → good (join a b)
  pub assoc : (a b c : V) → good a → good b → good c → join (join a b) c ≡ join a (join b c)

-- The entry e and the rest after it, merged with the entries of u: each at its place, with one joined entry for a
-- common key.
abbrev pub merge_into : {V : Type 0} → (V → V → V) → List ℕ × V → (List (List ℕ × V) → List (List ℕ × V)) → List (List ℕ × V) → List (List ℕ × V)
merge_into join e rest [] = e ∷ rest []
merge_into join e rest (f ∷ u) = by_order (key_cmp e.0 f.0) (e ∷ rest (f ∷ u)) ((e.0, join e.1 f.1) ∷ rest u) (f ∷ merge_into join e rest u)

-- Two rising lists of entries as one, from the head.
abbrev pub merge_in_order : {V : Type 0} → (V → V → V) → List (List ℕ × V) → List (List ℕ × V) → List (List ℕ × V)
merge_in_order join [] u = u
merge_in_order join (e ∷ t) u = merge_into join e (merge_in_order join t) u

-- How many keys both have.
abbrev pub common_keys : {V W : Type 0} → List (List ℕ × V) → List (List ℕ × W) → ℕ
common_keys [] u = 0
common_keys (e ∷ t) u = elim (value_at u e.0) [ None ↦ common_keys t u | Some w ↦ common_keys t u + 1 ]

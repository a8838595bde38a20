-- How many keys two merged tables can have in common.
use Rattle.std.proofs.Common.{◌≡◌, ℕ, suc, ◌+◌, ◌*◌, ◌<◌, ◌≤◌, List, [], ◌∷◌, ◌++◌, length, Option, Some, None, refl, sym, ap, subst, ◌∙◌, arith}
use Rattle.definitions.specs.Tables.{IsRising, value_at, tabulate, entry_of, keys_of, merged, joined_found, common_keys}
use Rattle.definitions.proofs.TableLaws.{either, value_at-append, value_at-over_keys, IsRising-over_keys, same_tables, value_at-merged}
use Rattle.sheets.specs.United.{end_to_end}
use Rattle.tree_laws.specs.Trees.{IsWithin, distinct_keys}

module _ {V : Type 0} where
  common-within_left : {W : Type 0} (t : List (List ℕ × V)) (u : List (List ℕ × W)) → common_keys t u ≤ length t
  common-within_left [] u = omega arith
  common-within_left (e ∷ t) u = elim (value_at u e.0) as (λ o. elim o [ None ↦ common_keys t u | Some w ↦ common_keys t u + 1 ] ≤ suc (length t)) [
    | None ↦ let h = common-within_left t u in omega arith
    | Some w ↦ let h = common-within_left t u in omega arith
  ]

  length-tabulate : (f : List ℕ → Option V) (ks : List (List ℕ)) → length (tabulate f ks) ≤ length ks
  length-tabulate f [] = omega arith
  length-tabulate f (k ∷ ks) = elim (f k) as (λ o. length (entry_of k o ++ tabulate f ks) ≤ suc (length ks)) [
    | None ↦ let h = length-tabulate f ks in omega arith
    | Some v ↦ let h = length-tabulate f ks in omega arith
  ]

  -- A table has at most as many entries as there are keys in tables that have all of its keys.
  pub length-within : (t : List (List ℕ × V)) (ts : List (List (List ℕ × V))) → IsRising t → IsWithin t ts → length t ≤ distinct_keys ts
  length-within t ts rising within =
      let all = end_to_end ts in
      let same : tabulate (value_at t) (keys_of all) ≡ t = same_tables (tabulate (value_at t) (keys_of all)) t (IsRising-over_keys (value_at t) all) rising (value_at-over_keys (value_at t) all within) in
      subst (λ (n : ℕ). n ≤ length (keys_of all)) (ap length same) (length-tabulate (value_at t) (keys_of all))

  pub common-within : (t u : List (List ℕ × V)) (ts : List (List (List ℕ × V))) → IsRising t → IsWithin t ts → common_keys t u ≤ distinct_keys ts
  common-within t u ts rising within = let a = common-within_left t u in let b = length-within t ts rising within in omega arith

  -- A merge has only keys of the two tables.
  pub within-merged : (join : V → V → V) (t u : List (List ℕ × V)) (ts : List (List (List ℕ × V))) → IsWithin t ts → IsWithin u ts → IsWithin (merged join t u) ts
  within-merged join t u ts a b key none = value_at-merged join t u key ∙ (ap (λ (x : Option V). joined_found join x (value_at u key)) (a key none) ∙ b key none)

  either-left : (a b : Option V) → either a b ≡ None → a ≡ None
  either-left None b h = refl
  either-left (Some v) b h = absurd (let no : Some v ≡ None = h in cc)

  either-right : (a b : Option V) → either a b ≡ None → b ≡ None
  either-right None b h = h
  either-right (Some v) b h = absurd (let no : Some v ≡ None = h in cc)

  -- A table of the list, and one of those after it.
  pub within-first : (t : List (List ℕ × V)) (ts : List (List (List ℕ × V))) → IsWithin t (t ∷ ts)
  within-first t ts key none = either-left (value_at t key) (value_at (end_to_end ts) key) (sym (value_at-append t (end_to_end ts) key) ∙ none)

  pub within-next : (s t : List (List ℕ × V)) (ts : List (List (List ℕ × V))) → IsWithin s ts → IsWithin s (t ∷ ts)
  within-next s t ts within key none = within key (either-right (value_at t key) (value_at (end_to_end ts) key) (sym (value_at-append t (end_to_end ts) key) ∙ none))

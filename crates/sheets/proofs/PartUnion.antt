-- Parts of tables: their values, their merges, and their union.
use Rattle.std.proofs.Common.{◌≡◌, ℕ, suc, ◌<◌, ◌≤◌, ◌+◌, ◌==◌, Bool, true, false, cond, List, [], ◌∷◌, ◌++◌, length, Option, Some, None, refl, sym, ap, ◌∙◌, is_some, arith}
use Rattle.std.specs.Prelude.{slice_index_or}
use Rattle.std.specs.FinMap as finite
use Rattle.std.specs.FinMap.Entries.{find-where_key}
use Rattle.std.proofs.lemmas.Bool.Decides.{nat_tests}
use Rattle.definitions.specs.Tables.{key_cmp, IsRising, HasGoodValues, IsGoodJoin, value_at, joined_found, merged, table_of}
use Rattle.definitions.proofs.TableLaws.{same_tables, either, value_at-append, value_at-merged, IsRising-merged, table-append}
use Rattle.partition.specs.Parts.{part_number}
use Rattle.std.proofs.lemmas.List.{get_or-map, length-map}
use Rattle.sheets.specs.Sheets.{SheetOf}
use Rattle.sheets.specs.Parts.{in_part, HasParts, AreSheets}
use Rattle.sheets.specs.United.{end_to_end, united, Apart, tables_of}
use Rattle.sheets.proofs.PartLaws.{rising-in_part}
use Rattle.sheets.proofs.UnitedLaws.{value_at-united, IsRising-united}

module _ {V : Type 0} (parts : ℕ) where
  -- the value of a part's entries at a key
  pub value_at-in_part : (part : ℕ) (t : List (List ℕ × V)) (q : List ℕ) → value_at (in_part parts part t) q ≡ cond (part_number q parts == part) (value_at t q) None
  value_at-in_part part t q = find-where_key key_cmp (λ k. part_number k parts == part) q (λ x e. ap (λ k. part_number k parts == part) (sym (finite.slice_cmp-IsAntisymmetric finite.nat_cmp-IsAntisymmetric q x e))) t

  in_both : (join : V → V → V) (b : Bool) (x y : Option V) → cond b (joined_found join x y) None ≡ joined_found join (cond b x None) (cond b y None)
  in_both join true x y = refl
  in_both join false x y = refl

  -- a part of a merge is the merge of the parts
  pub merged-in_part : (join : V → V → V) (part : ℕ) (t u : List (List ℕ × V)) → in_part parts part (merged join t u) ≡ merged join (in_part parts part t) (in_part parts part u)
  merged-in_part join part t u =
      same_tables _ _ (rising-in_part parts part (merged join t u) (IsRising-merged join t u)) (IsRising-merged join (in_part parts part t) (in_part parts part u))
      (λ q. value_at-in_part part (merged join t u) q ∙ ap (λ o. cond (part_number q parts == part) o None) (value_at-merged join t u q) ∙ in_both join (part_number q parts == part) (value_at t q) (value_at u q)
      ∙ (λ i. joined_found join (sym (value_at-in_part part t q) i) (sym (value_at-in_part part u q) i)) ∙ sym (value_at-merged join (in_part parts part t) (in_part parts part u) q))

  -- a part of the table of two lists is the merge of the parts of their tables
  pub table-in_part : {good : V → Type 0} {join : V → V → V} → IsGoodJoin good join → (part : ℕ) (xs ys : List (List ℕ × V)) → HasGoodValues good xs → HasGoodValues good ys → in_part parts part (table_of join (xs ++ ys)) ≡ merged join (in_part parts part (table_of join xs)) (in_part parts part (table_of join ys))
  table-in_part {join = join} laws part xs ys hx hy = ap (in_part parts part) (table-append laws xs ys hx hy) ∙ merged-in_part join part (table_of join xs) (table_of join ys)

  in_own : (b : Bool) (v : Option V) → is_some (cond b v None) ≡ true → b ≡ true
  in_own true v h = refl
  in_own false v h = cc

  own_part : (part : ℕ) (t : List (List ℕ × V)) (q : List ℕ) → is_some (value_at (in_part parts part t) q) ≡ true → part_number q parts ≡ part
  own_part part t q h =
      let own : part_number q parts == part ≡ true = in_own (part_number q parts == part) (value_at t q) (ap is_some (sym (value_at-in_part part t q)) ∙ h) in
      grind (arith, nat_tests)

  -- the parts of a table share no key
  pub parts-apart : (t : List (List ℕ × V)) (lists : List (List (List ℕ × V))) → HasParts parts t lists → Apart lists
  parts-apart t lists has i j key hi hj si sj =
      let n = has.count in
      let pi = own_part i t key (ap (λ l. is_some (value_at l key)) (sym (has.each i [] (omega (arith, hi, n)))) ∙ si) in
      let pj = own_part j t key (ap (λ l. is_some (value_at l key)) (sym (has.each j [] (omega (arith, hj, n)))) ∙ sj) in
      sym pi ∙ pj

  none_has : (q : List ℕ) (ts : List (List (List ℕ × V))) → ((j : ℕ) → j < length ts → value_at (slice_index_or ts j []) q ≡ None) → value_at (end_to_end ts) q ≡ None
  none_has q [] each = refl
  none_has q (t ∷ ts) each = value_at-append t (end_to_end ts) q ∙ (λ i. either (each 0 (omega arith) i) (none_has q ts (λ j h. each (suc j) (omega (arith, h))) i))

  by_value : (a b v : Option V) → a ≡ v → (v ≡ None → b ≡ None) → either a b ≡ v
  by_value a b None first rest = (λ i. either (first i) (rest refl i))
  by_value a b (Some x) first rest = ap (λ o. either o b) first

  skip_none : (a b v : Option V) → a ≡ None → b ≡ v → either a b ≡ v
  skip_none a b v first rest = (λ i. either (first i) (rest i))

  no_value : (b : Bool) → cond {A = Option V} b None None ≡ None
  no_value true = refl
  no_value false = refl

  -- the first value of tables of which one alone has it
  one_has : (q : List ℕ) (v : Option V) (n : ℕ) (from : ℕ) (ts : List (List (List ℕ × V))) → ((j : ℕ) → j < length ts → value_at (slice_index_or ts j []) q ≡ cond (n == from + j) v None) → from ≤ n → n < from + length ts → value_at (end_to_end ts) q ≡ v
  one_has q v n from [] each low high = absurd (omega (arith, low, high))
  one_has q v n from (t ∷ ts) each low high =
      let start : from + 0 ≡ from = omega arith in
      let first = each 0 (omega arith) ∙ ap (λ k. cond (n == k) v None) start in
      let next : (j : ℕ) → from + suc j ≡ (from + 1) + j = λ j. omega arith in
      let later = λ (j : ℕ) (h : j < length ts). each (suc j) (omega (arith, h)) ∙ ap (λ k. cond (n == k) v None) (next j) in
      value_at-append t (end_to_end ts) q ∙ elim (n == from) as (λ b. n == from ≡ b → either (value_at t q) (value_at (end_to_end ts) q) ≡ v) [
        | true ↦ λ here. by_value (value_at t q) (value_at (end_to_end ts) q) v (first ∙ ap (λ b. cond b v None) here) (λ none. none_has q ts (λ j h. later j h ∙ ap (λ o. cond (n == (from + 1) + j) o None) none ∙ no_value (n == (from + 1) + j)))
        | false ↦ λ other.
            let above : from + 1 ≤ n = grind (arith, nat_tests) in
            skip_none (value_at t q) (value_at (end_to_end ts) q) v (first ∙ ap (λ b. cond b v None) other) (one_has q v n (from + 1) ts later above (omega (arith, high)))
      ] refl

  -- the union of all parts is the table
  pub parts-united : (t : List (List ℕ × V)) (lists : List (List (List ℕ × V))) → 1 ≤ parts → IsRising t → HasParts parts t lists → united lists ≡ t
  parts-united t lists some rising has =
      same_tables (united lists) t (IsRising-united lists) rising
      (λ q. value_at-united lists q ∙ one_has q (value_at t q) (part_number q parts) 0 lists (λ j h. let n = has.count in ap (λ l. value_at l q) (has.each j [] (omega (arith, h, n))) ∙ value_at-in_part j t q ∙ ap (λ k. cond (part_number q parts == k) (value_at t q) None) {y = 0 + j} (omega arith)) (omega arith) (let n = has.count in below q n))
    where
      below : (q : List ℕ) → length lists ≡ parts → part_number q parts < 0 + length lists
      below q n = grind (arith, nat_tests)

  -- of the sheets of all parts: no key is in two, and their union is the table
  pub sheets-parts : (setting : ℕ) (t : List (List ℕ × V)) (sheets : List (SheetOf V)) → AreSheets setting parts t sheets → HasParts parts t (tables_of sheets)
  sheets-parts setting t sheets are = record {
    count = length-map sheets (λ s. s.entries) ∙ are.count;
    each = λ part d h.
        let n = are.count in
        get_or-map (λ (s : SheetOf V). s.entries) sheets part (record { setting = setting; entries = d }) d (omega (arith, h, n)) ∙ ap (λ (s : SheetOf V). s.entries) (are.each part (record { setting = setting; entries = d }) h);
  }

-- The entries of each part.
use Rattle.std.proofs.Common.{◌≡◌, ◌≢◌, ℕ, ◌<◌, Bool, true, false, cond, ◌==◌, ◌%◌, List, [], ◌∷◌, ◌++◌, map, replicate, All, length-set, get_or-set_same, get_or-set_other, refl, sym, ap, subst, ◌∙◌, append-nil, arith}
use Rattle.std.specs.Prelude.{slice_index_or, slice_set}
use Rattle.std.specs.FinMap.Entries.{is_sorted-where_key}
use Rattle.std.proofs.lemmas.List.{get_or-map, length-map, length-replicate, get_or-replicate}
use Rattle.std.proofs.lemmas.List.Elements.{filter-append}
use Rattle.std.proofs.lemmas.Bool.Decides.{nat_tests}
use Rattle.definitions.specs.Tables.{key_cmp, IsRising, HasGoodValues}
use Rattle.definitions.proofs.TableLaws.{is_true, passes}
use Rattle.partition.specs.Parts.{hash_of, part_number}
use Rattle.sheets.specs.Parts.{in_part, HasParts, AreSheets}

module _ {V : Type 0} (parts : ℕ) where
  -- the entries of a part still rise
  pub rising-in_part : (part : ℕ) (t : List (List ℕ × V)) → IsRising t → IsRising (in_part parts part t)
  rising-in_part part t h = is_true _ (is_sorted-where_key key_cmp (λ k. part_number k parts == part) t (passes _ h))

  -- and their values are good
  pub good-in_part : (good : V → Type 0) (part : ℕ) (t : List (List ℕ × V)) → HasGoodValues good t → HasGoodValues good (in_part parts part t)
  good-in_part good part [] h = tt
  good-in_part good part (e ∷ t) h =
      let rest = good-in_part good part t h.1 in
      elim (part_number e.0 parts == part) as (λ b. HasGoodValues good (cond b (e ∷ in_part parts part t) (in_part parts part t))) [ true ↦ (h.0, rest) | false ↦ rest ]

  -- of one entry, its own part has it
  one_entry : (part : ℕ) (e : List ℕ × V) (b : Bool) → part_number e.0 parts == part ≡ b → in_part parts part (e ∷ []) ≡ cond b (e ∷ []) []
  one_entry part e b is = ap (λ (x : Bool). cond x (e ∷ []) []) is

  -- an entry more goes to its part
  pub put_in_part : (part : ℕ) (t : List (List ℕ × V)) (e : List ℕ × V) (lists : List (List (List ℕ × V))) (old new : List (List ℕ × V)) → HasParts parts t lists → part ≡ part_number e.0 parts → part < parts → old ≡ slice_index_or lists part old → new ≡ old ++ e ∷ [] → HasParts parts (t ++ e ∷ []) (slice_set lists part new)
  put_in_part part t e lists old new has at within is gained = record {
    count = length-set lists part new ∙ has.count;
    each = λ q d h.
        let split = filter-append (λ (x : List ℕ × V). part_number x.0 parts == q) t (e ∷ []) in
        elim (part == q) as (λ b. part == q ≡ b → slice_index_or (slice_set lists part new) q d ≡ in_part parts q (t ++ e ∷ [])) [
          | true ↦ λ same.
              let eq : q ≡ part = grind (arith, nat_tests) in
              let here : slice_index_or (slice_set lists part new) q d ≡ new = ap (λ k. slice_index_or (slice_set lists part new) k d) eq ∙ get_or-set_same lists part new d (let n = has.count in omega (arith, within, n)) in
              let own : part_number e.0 parts == q ≡ true = ap (λ k. k == q) (sym at) ∙ same in
              here ∙ gained ∙ ap (λ l. l ++ e ∷ []) (is ∙ has.each part old within ∙ ap (λ k. in_part parts k t) (sym eq)) ∙ sym (split ∙ ap (λ l. in_part parts q t ++ l) (one_entry q e true own))
          | false ↦ λ other.
              let apart : q ≢ part = grind (arith, nat_tests) in
              let foreign : part_number e.0 parts == q ≡ false = ap (λ k. k == q) (sym at) ∙ other in
              get_or-set_other lists part q new d apart ∙ has.each q d h ∙ sym (split ∙ ap (λ l. in_part parts q t ++ l) (one_entry q e false foreign) ∙ append-nil (in_part parts q t))
        ] refl;
  }

  -- without entries, each part has none
  pub no_parts : HasParts {V = V} parts [] (replicate parts [])
  no_parts = record { count = length-replicate parts []; each = λ part d h. get_or-replicate parts part [] d h }

  -- a sheet for each list
  pub sheets_are : (setting : ℕ) (t : List (List ℕ × V)) (lists : List (List (List ℕ × V))) → HasParts parts t lists → AreSheets setting parts t (map (λ l. record { setting = setting; entries = l }) lists)
  sheets_are setting t lists has = record {
    count = length-map lists (λ l. record { setting = setting; entries = l }) ∙ has.count;
    each = λ part d h.
        let n = has.count in
        get_or-map (λ l. record { setting = setting; entries = l }) lists part [] d (omega (arith, h, n)) ∙ ap (λ (l : List (List ℕ × V)). record { setting = setting; entries = l }) (has.each part [] h);
  }

  -- what holds of the entries of every part holds of all lists
  pub each_part : (P : List (List ℕ × V) → Type 0) (t : List (List ℕ × V)) (lists : List (List (List ℕ × V))) → HasParts parts t lists → ((part : ℕ) → P (in_part parts part t)) → All P lists
  each_part P t lists has holds part d h = let n = has.count in subst P (sym (has.each part d (omega (arith, h, n)))) (holds part)

-- one part has all entries
pub one_part : {V : Type 0} (t : List (List ℕ × V)) → in_part 1 0 t ≡ t
one_part [] = refl
one_part (e ∷ t) = ap (λ (b : Bool). cond b (e ∷ in_part 1 0 t) (in_part 1 0 t)) {y = true} (only_zero (hash_of e.0)) ∙ ap (λ l. e ∷ l) (one_part t)
  where
    only_zero : (n : ℕ) → n % 1 == 0 ≡ true
    only_zero n = grind (arith, nat_tests)

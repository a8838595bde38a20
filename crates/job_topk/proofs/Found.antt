-- The member of a record, from the places of its two TABs.
use Rattle.std.proofs.Common.{◌≡◌, ℕ, ◌+◌, ◌-◌, nat_lt, Bool, true, false, ◌&&◌, List, [], ◌∷◌, length, take, drop, refl, sym, ap, subst, ◌∙◌, arith}
use Rattle.std.specs.Prelude.{Some, None, IsTrue}
use Rattle.std.proofs.lemmas.Bool.{and_parts}
use Rattle.std.proofs.lemmas.List.{take_rest}
use Rattle.definitions.specs.Numbers.{is_number, digits_value}
use Rattle.job_laws.specs.Fields.{fields_at}
use Rattle.job_laws.specs.Forms.{split_at_tab, fields_pass, has_bytes, is_short, is_topk_record}
use Rattle.job_topk.specs.TopK.{member_pair, group_pair, topk_emits}

-- if a test of both fields passes, the place of the first TAB is one
some_fields : (i : ℕ) (l : List ℕ) (test : List ℕ → List ℕ → Bool) → split_at_tab l ≡ fields_at i l → IsTrue (fields_pass test (split_at_tab l)) → split_at_tab l ≡ Some (take i l, drop (i + 1) l)
some_fields i l test found passes = found ∙ by (nat_lt i (length l)) refl
  where
    by : (c : Bool) → nat_lt i (length l) ≡ c → fields_at i l ≡ Some (take i l, drop (i + 1) l)
    by true is = rw is refl
    by false is =
        let none : fields_at i l ≡ None = rw is refl in
        let fails : IsTrue (fields_pass test None) = subst (λ o. IsTrue (fields_pass test o)) (found ∙ none) passes in
        absurd (grind arith)

-- the fields round both TABs are the pair that an accepted record emits
module _ (r : List ℕ) (at end : ℕ) (accepted : IsTrue (is_topk_record r)) (found : split_at_tab r ≡ fields_at at r) (behind : List ℕ) (is : behind ≡ take (length r - (at + 1)) (drop (at + 1) r)) (next : split_at_tab behind ≡ fields_at end behind) where
  rest_is : behind ≡ drop (at + 1) r
  rest_is = is ∙ take_rest r (at + 1)

  first : split_at_tab r ≡ Some (take at r, drop (at + 1) r)
  first = some_fields at r (λ group rest. has_bytes group && fields_pass (λ score item. is_number score) (split_at_tab rest)) found (and_parts (is_short r) (fields_pass (λ group rest. has_bytes group && fields_pass (λ score item. is_number score) (split_at_tab rest)) (split_at_tab r)) accepted).1

  scored : IsTrue (fields_pass (λ score item. is_number score) (split_at_tab behind))
  scored =
      let both : IsTrue (has_bytes (take at r) && fields_pass (λ score item. is_number score) (split_at_tab (drop (at + 1) r))) =
      subst (λ o. IsTrue (fields_pass (λ group rest. has_bytes group && fields_pass (λ score item. is_number score) (split_at_tab rest)) o)) first (and_parts (is_short r) (fields_pass (λ group rest. has_bytes group && fields_pass (λ score item. is_number score) (split_at_tab rest)) (split_at_tab r)) accepted).1 in
      subst (λ l. IsTrue (fields_pass (λ score item. is_number score) (split_at_tab l))) (sym rest_is) (and_parts (has_bytes (take at r)) (fields_pass (λ score item. is_number score) (split_at_tab (drop (at + 1) r))) both).1

  pub emits_found : topk_emits r ≡ (take at r, (digits_value (take end behind), drop (end + 1) behind) ∷ []) ∷ []
  emits_found =
      ap group_pair first
      ∙ ap (λ l. member_pair (take at r) (split_at_tab l)) (sym rest_is)
      ∙ ap (member_pair (take at r)) (some_fields end behind (λ score item. is_number score) next scored)

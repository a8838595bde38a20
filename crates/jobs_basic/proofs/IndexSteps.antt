-- The pairs of a record of a document.
use Rattle.std.proofs.Common.{◌≡◌, ℕ, ◌+◌, ◌-◌, ◌≤◌, ◌++◌, [], ◌∷◌, get_or, arith, append-nil, true, cond, nat_lt, List, map, take, drop, length, Some, None, Bool, sym, ap, ◌∙◌}
use Rattle.definitions.specs.Numbers.{digits_value}
use Rattle.definitions.specs.Records.{words_of}
use Rattle.job_laws.specs.Forms.{split_at_tab}
use Rattle.job_laws.specs.Fields.{fields_at}
use Rattle.jobs_basic.specs.Index.{in_document, index_emits, text_pairs, behind_commas, with_commas}
use Rattle.std.specs.Prelude.{decimal}
use Rattle.std.proofs.lemmas.List.{take_rest}

-- if the first TAB comes before the end, the words after it are emitted
pub emits_behind : (r text : List ℕ) (at doc : ℕ) → split_at_tab r ≡ fields_at at r → nat_lt at (length r) ≡ true → doc ≡ digits_value (take at r) → text ≡ drop (at + 1) r → map (in_document doc) (words_of text) ≡ index_emits r
emits_behind r text at doc fields within number rest = (λ i. map (in_document (number i)) (words_of (rest i))) ∙ sym (ap text_pairs (fields ∙ ap (λ (b : Bool). cond b (Some (take at r, drop (at + 1) r)) None) within))

-- the numbers are the first, then those after commas
pub commas_first : (ds : List ℕ) (d : ℕ) → 1 ≤ length ds → with_commas ds ≡ decimal (get_or ds 0 d) ++ (behind_commas (take (length ds - 1) (drop 1 ds)) ++ [])
commas_first [] d some = absurd (omega (arith, some))
commas_first (e ∷ es) d some = ap (λ l. decimal e ++ l) (ap behind_commas (sym (take_rest (e ∷ es) 1)) ∙ sym (append-nil (behind_commas (take (length (e ∷ es) - 1) (drop 1 (e ∷ es))))))

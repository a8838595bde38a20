-- The distinct keys of pairs, one pair after the other.
use Rattle.std.proofs.Common.{◌≡◌, ℕ, zero, suc, ◌+◌, List, [], ◌∷◌, ◌++◌, length, map, take, drop, cond, refl, sym, ap, ◌∙◌, subst, arith}
use Rattle.std.specs.declared.cmp.Ordering.TheVariants.{Less, Equal, Greater}
use Rattle.std.specs.FinMap as finite
use Rattle.std.specs.FinMap.Entries.{put, by_order}
use Rattle.std.proofs.lemmas.Cmp.{nat_list_cmp_total}
use Rattle.std.proofs.lemmas.List.{take_more}
use Rattle.std.proofs.lemmas.Option.{slice_get_within, slice_get_past, get_or_from_slice_get}
use Rattle.std.proofs.Math.Seq.{drop-cons}
use Rattle.std.specs.Prelude.{slice_get, Some, None}
use Rattle.std.specs.Ordering.{eq_by_cmp}
use Rattle.definitions.specs.Tables.{HasGoodValues, joined_found, key_cmp, keys_of, reduced, tabulate, table_of}
use Rattle.definitions.proofs.TableLaws.{reduced_push}
use Rattle.plain_program.specs.Plain.{key_among}

no_entries : {A : Type 0} (es : List A) → length es ≡ 0 → es ≡ []
no_entries [] e = refl
no_entries (x ∷ es) e = absurd (omega arith)

module _ {V : Type 0} where
  put_keys : (k : List ℕ) (v : V) (es : List (List ℕ × V)) → map (λ (e : List ℕ × V). e.0) (put key_cmp k v es) ≡ key_among k (map (λ (e : List ℕ × V). e.0) es)
  put_keys k v [] = refl
  put_keys k v (e ∷ es) =
      elim (key_cmp k e.0) as (λ r. map (λ (x : List ℕ × V). x.0) (by_order r ((k, v) ∷ e ∷ es) ((e.0, v) ∷ es) (e ∷ put key_cmp k v es)) ≡ by_order r (k ∷ e.0 ∷ map (λ (x : List ℕ × V). x.0) es) (e.0 ∷ map (λ (x : List ℕ × V). x.0) es) (e.0 ∷ key_among k (map (λ (x : List ℕ × V). x.0) es))) [
        | Less ↦ refl
        | Equal ↦ refl
        | Greater ↦ λ i. e.0 ∷ put_keys k v es i
      ]

  pub keys_of-cons : (e : List ℕ × V) (es : List (List ℕ × V)) → keys_of (e ∷ es) ≡ key_among e.0 (keys_of es)
  unfolding keys_of
  keys_of-cons e es = ap (λ (l : List (List ℕ × V)). map (λ (x : List ℕ × V). x.0) l) (finite.entries-insert nat_list_cmp_total (finite.from_entries es) e.0 e.1) ∙ put_keys e.0 e.1 (finite.entries (finite.from_entries es))

  -- a table is what its definition says
  pub table-tabulated : (join : V → V → V) (es : List (List ℕ × V)) → table_of join es ≡ tabulate (reduced join es) (keys_of es)
  unfolding table_of
  table-tabulated join es = refl

-- the pairs from a place on are the pair there and those after it
drop_at : {A : Type 0} (ps : List A) (i : ℕ) (p : A) → slice_get ps i ≡ Some p → drop i ps ≡ p ∷ drop (i + 1) ps
drop_at ps i p is = drop-cons ps i p (slice_get_within ps i p is) ∙ (λ k. get_or_from_slice_get ps i p p is k ∷ drop (next k) ps)
  where
    next : suc i ≡ i + 1
    next = omega arith

-- the pairs up to a place and the one there
take_at : {A : Type 0} (ps : List A) (i : ℕ) (p : A) → slice_get ps i ≡ Some p → take (i + 1) ps ≡ take i ps ++ p ∷ []
take_at ps i p is = take_more ps i p (slice_get_within ps i p is) ∙ ap (λ x. take i ps ++ x ∷ []) (get_or_from_slice_get ps i p p is)

-- the keys from a place on
pub keys_of-drop : {V : Type 0} (ps : List (List ℕ × V)) (i : ℕ) (p : List ℕ × V) → slice_get ps i ≡ Some p → keys_of (drop i ps) ≡ key_among p.0 (keys_of (drop (i + 1) ps))
keys_of-drop ps i p is = ap keys_of (drop_at ps i p is) ∙ keys_of-cons p (drop (i + 1) ps)

-- what the pairs up to a place, and the pair there, reduce to
pub reduced-take : {V : Type 0} (join : V → V → V) (ps : List (List ℕ × V)) (i : ℕ) (p : List ℕ × V) (q : List ℕ) → slice_get ps i ≡ Some p
    → reduced join (take (i + 1) ps) q ≡ cond (eq_by_cmp key_cmp q p.0) (joined_found join (reduced join (take i ps) q) (Some p.1)) (reduced join (take i ps) q)
reduced-take join ps i p q is = ap (λ l. reduced join l q) (take_at ps i p is) ∙ reduced_push join (take i ps) p q

-- the value at a place is good
pub good_at : {V : Type 0} (good : V → Type 0) (ps : List (List ℕ × V)) (i : ℕ) (p : List ℕ × V) → HasGoodValues good ps → slice_get ps i ≡ Some p → good p.1
good_at good [] i p all is = absurd (none_some (sym (slice_get_past [] i (omega arith)) ∙ is))
  where
    none_some : {A : Type 0} {x : A} → None ≡ Some x → ⊥
    none_some e = cc
good_at good (e ∷ es) zero p all is = subst (λ x. good x.1) (some_is is) all.0
  where
    some_is : {A : Type 0} {x y : A} → Some x ≡ Some y → x ≡ y
    some_is e = cc
good_at good (e ∷ es) (suc i) p all is = good_at good es i p all.1 is

pub keys_of-nothing : (V : Type 0) → keys_of {V = V} [] ≡ []
unfolding keys_of
keys_of-nothing V = ap (λ (l : List (List ℕ × V)). map (λ (x : List ℕ × V). x.0) l) (no_entries (finite.entries (finite.empty {X = V} {R = key_cmp})) (sym (finite.len-entries (finite.empty {X = V} {R = key_cmp})) ∙ finite.len-empty key_cmp V))

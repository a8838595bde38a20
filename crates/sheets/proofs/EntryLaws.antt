-- When two entries are equal.
use Rattle.std.proofs.Common.{◌≡◌, ℕ, Bool, false, List, refl, sym, ap, ◌∙◌}
use Rattle.std.specs.Prelude.{IsTrue, ◌↔◌}
use Rattle.std.proofs.lemmas.Bool.{false≢true}
use Rattle.std.proofs.lemmas.Cmp.{nat_list_cmp_total}
use Rattle.std.specs.Ordering.{is_eq, ordering_reverse}
use Rattle.std.specs.declared.cmp.Ordering.{Ordering}
use Rattle.std.specs.declared.cmp.Ordering.TheVariants.{Less, Equal, Greater}
use Rattle.definitions.specs.Tables.{key_cmp}
use Rattle.definitions.proofs.TableLaws.{tied_keys}

ties_itself : (k : List ℕ) → key_cmp k k ≡ Equal
ties_itself k = own_reverse (key_cmp k k) (nat_list_cmp_total.antisymm k k)
  where
    own_reverse : (o : Ordering) → o ≡ ordering_reverse o → o ≡ Equal
    own_reverse Less h = cc
    own_reverse Equal h = refl
    own_reverse Greater h = cc

module _ {V : Type 0} where
  -- entries of one key are equal if their values are
  pub same_pair : (e f : List ℕ × V) (b : Bool) → Equal ≡ key_cmp e.0 f.0 → IsTrue b ↔ (e.1 ≡ f.1) → IsTrue b ↔ (e ≡ f)
  same_pair e f b order same =
      let keys : e.0 ≡ f.0 = tied_keys e.0 f.0 (ap is_eq (sym order)) in
      (λ t. λ i. (keys i, same.0 t i), λ p. same.1 (ap (λ (x : List ℕ × V). x.1) p))

  -- entries of two keys are not equal
  pub apart_pair : (e f : List ℕ × V) (o : Ordering) → o ≡ key_cmp e.0 f.0 → (o ≡ Equal → ⊥) → IsTrue false ↔ (e ≡ f)
  apart_pair e f o order other = (λ h. absurd (false≢true h), λ p. absurd (other (order ∙ ap (λ (x : List ℕ × V). key_cmp x.0 f.0) p ∙ ties_itself f.0)))

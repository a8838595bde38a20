-- What one merge costs, as a payment.
use Rattle.std.proofs.Common.{◌≡◌, ◌⊎◌, inl, inr, ℕ, ◌*◌, ◌≤◌, List, [], ◌∷◌, refl, ap, subst, arith}
use Rattle.definitions.specs.Tables.{common_keys}
use Rattle.job_laws.specs.declared.meter.Counts.{Counts}
use Rattle.job_laws.specs.Counted.{RoseBy}
use Rattle.job_laws.proofs.CountLaws.{rose_more}
use Rattle.pin_table.specs.Views.{CallerView}
use Rattle.pin_table.specs.Covers.{Covered, name_of}
use Rattle.pin_table.specs.OwnEvents.{Met, IsKnown, there}
use Rattle.pin_table.proofs.Knowing.{covered-known, known-got}
use Rattle.tree_laws.specs.Pairs.{PairOf}
use Rattle.tree_laws.specs.Holds.{hold_pins, IsHeld}
use Rattle.tree_laws.specs.declared.hold.Hold.{Hold}
use Rattle.tree_laws.specs.declared.hold.Hold.TheVariants.{Pinned, Loose}
use Rattle.tree_laws.specs.Trees.{distinct_keys}
use Rattle.tree_laws.proofs.KeyCounts.{common-within}
use Rattle.random_tree.specs.Levels.{IsTableOf, IsKept}
use Rattle.random_tree.specs.Payments.{Merged, MergedSome}
use Rattle.random_tree.proofs.PayLaws.{pays-one, paid-one}

module _ {J V M : Type 0} (digest_of : PairOf V → List ℕ) (pair : PairOf V) (v w : CallerView) where
  -- The pair of a held merge is known, if nothing was met.
  pub held-known : (h : Hold J V M) → IsHeld digest_of pair v w h → (Met v w → ⊥) → IsKnown (digest_of pair) w
  held-known (Pinned p) held clean =
      let covered : Covered w (name_of digest_of p ∷ []) = record { given = held.given; held = λ s id. (let n = held.got.held s id in omega (arith, n)) } in
      subst (λ (i : PairOf V). IsKnown (digest_of i) w) held.pinned.0 (covered-known w (name_of digest_of p) [] covered)
  held-known (Loose s) held clean = absurd (clean (there (digest_of pair) v, held.loose refl))

  pub held-kept : (h : Hold J V M) → IsHeld digest_of pair v w h → IsKept pair h
  held-kept (Pinned p) held = held.pinned.0
  held-kept (Loose s) held = tt

module _ {V : Type 0} (digest_of : PairOf V → List ℕ) (pair : PairOf V) (v w : CallerView) (keys k : ℕ) (le : k ≤ keys) (y z : Counts) (counted : RoseBy 0 1 k y z) (known : IsKnown (digest_of pair) v → (z ≡ y) ⊎ Met v w) where
  free : (Met v w → ⊥) → IsKnown (digest_of pair) v → z.merges ≤ y.merges
  free clean is = elim (known is) [
    | inl same ↦ (let n = ap (λ (c : Counts). c.merges) same in omega (arith, n))
    | inr met ↦ absurd (clean met)
  ]

  pub some-one : MergedSome keys v w y z (digest_of pair ∷ [])
  some-one = record {
    counted = rose_more 0 1 k 0 1 (1 * keys) y z (omega arith) (omega arith) (omega (arith, le)) counted;
    paid = λ clean. paid-one (λ d. IsKnown d v) y.merges z.merges (digest_of pair) (let n = counted.merges.1 in omega (arith, n)) (free clean);
  }

  module _ {J M : Type 0} (h : Hold J V M) (held : IsHeld digest_of pair v w h) where
    pub merged-one : Merged keys v w y z (digest_of pair ∷ [])
    merged-one = record {
      counted = rose_more 0 1 k 0 1 (1 * keys) y z (omega arith) (omega arith) (omega (arith, le)) counted;
      pays = λ clean. pays-one (λ d. IsKnown d v) (λ d. IsKnown d w) y.merges z.merges (digest_of pair) (let n = counted.merges.1 in omega (arith, n)) (free clean) (λ d is. known-got d v w (hold_pins digest_of h) held.got is) (held-known digest_of pair v w h held clean);
    }

-- A merge of two tables of the leaves joins at most as many keys as these have.
pub few-keys : {V : Type 0} (t u : List (List ℕ × V)) (all : List (List (List ℕ × V))) → IsTableOf all t → common_keys t u ≤ distinct_keys all
few-keys t u all is = common-within t u all is.0 is.1

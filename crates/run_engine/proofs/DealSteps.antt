-- One input dealt to its lane, and to no other.
use Rattle.std.proofs.Common.{◌≡◌, ℕ, zero, suc, ◌<◌, ◌⊎◌, inl, inr, ⊎_elim, Bool, cond, List, [], ◌∷◌, length, length-set, get_or-set_same, get_or-set_other, refl, ap, sym, subst, ◌∙◌, arith}
use Rattle.std.specs.Prelude.{slice_index_or, slice_set}
use Rattle.std.proofs.lemmas.List.{get_or_default}
use Rattle.map_tasks.specs.Inputs.{InputView, input_digest, lane_at}
use Rattle.run_engine.specs.InPlace.{EachPair}
use Rattle.run_engine.specs.Inputs.{goes_to}
use Rattle.run_engine.proofs.TextCounts.{number-same, number-other}

same-or-not : (i k : ℕ) → (i ≡ k) ⊎ (i ≡ k → ⊥)
same-or-not zero zero = inl refl
same-or-not zero (suc k) = inr (λ (e : zero ≡ suc k). omega (arith, e))
same-or-not (suc i) zero = inr (λ (e : suc i ≡ zero). omega (arith, e))
same-or-not (suc i) (suc k) = ⊎_elim (λ (e : i ≡ k). inl (ap suc e)) (λ (e : i ≡ k → ⊥). inr (λ (f : suc i ≡ suc k). e (omega (arith, f)))) (same-or-not i k)

-- One item became another; the others stay.
pub one-dealt : {A : Type 0} (P : ℕ → A → A → Type 0) (i : ℕ) (old : List A) (x y : A) → x ≡ slice_index_or old i x → i < length old → P i x y → ((k : ℕ) (a : A) → (i ≡ k → ⊥) → P k a a) → EachPair P old (slice_set old i y)
one-dealt {A} P i old x y read lt px stays = record { count = length-set old i y; each = λ k d e kl. ⊎_elim (λ (eq : i ≡ k). there k d e eq) (λ (apart : i ≡ k → ⊥). other k d e apart kl) (same-or-not i k) }
  where
    there : (k : ℕ) (d e : A) → i ≡ k → P k (slice_index_or old k d) (slice_index_or (slice_set old i y) k e)
    there k d e eq =
        let was : x ≡ slice_index_or old i d = read ∙ get_or_default old i x d lt in
        let is : y ≡ slice_index_or (slice_set old i y) i e = sym (get_or-set_same old i y e lt) in
        subst (λ (m : ℕ). P m (slice_index_or old m d) (slice_index_or (slice_set old i y) m e)) eq
        (subst (λ (a : A). P i a (slice_index_or (slice_set old i y) i e)) was (subst (P i x) is px))

    other : (k : ℕ) (d e : A) → (i ≡ k → ⊥) → k < length old → P k (slice_index_or old k d) (slice_index_or (slice_set old i y) k e)
    other k d e apart kl =
        subst (P k (slice_index_or old k d)) (get_or_default old k d e kl ∙ sym (get_or-set_other old i k y e (λ (f : k ≡ i). apart (sym f)))) (stays k (slice_index_or old k d) apart)

pub goes-own : (x : InputView) (i : ℕ) → lane_at (input_digest x.text) 16 ≡ i → goes_to i (x ∷ []) ≡ x ∷ []
goes-own x i is = ap (λ (b : Bool). cond b (x ∷ []) []) (number-same (lane_at (input_digest x.text) 16) i is)

pub goes-elsewhere : (x : InputView) (i k : ℕ) → lane_at (input_digest x.text) 16 ≡ i → (i ≡ k → ⊥) → goes_to k (x ∷ []) ≡ []
goes-elsewhere x i k is apart = ap (λ (b : Bool). cond b (x ∷ []) []) (number-other (lane_at (input_digest x.text) 16) k (λ (e : lane_at (input_digest x.text) 16 ≡ k). apart (sym is ∙ e)))

-- Rising ids and distinct digests keep entries apart.
use Rattle.std.proofs.Common.{◌≡◌, ℕ, zero, suc, ◌<◌, true, false, List, [], ◌∷◌, Some, slice_get, refl, sym, ap, subst, ◌∙◌, arith}
use Rattle.std.specs.Str.{bytes_eq}
use Rattle.std.proofs.lemmas.Cmp.{nat_list_eq_equiv}
use Rattle.memo_core.specs.declared.entries.CoreEntry.{CoreEntry}
use Rattle.memo_core.specs.Machine.{has_digest}
use Rattle.memo_core.proofs.Lists.{IdsAbove, RisingIds, DistinctDigests, or_left, or_right}

same_entry : (a b : CoreEntry) → Some a ≡ Some b → a ≡ b
same_entry a b h = cc

above-at : (n : ℕ) (es : List CoreEntry) (i : ℕ) (a : CoreEntry) → IdsAbove n es → slice_get es i ≡ Some a → n < a.id
above-at n [] i a h at = cc
above-at n (e ∷ es) zero a h at = subst (λ (x : CoreEntry). n < x.id) (same_entry e a at) h.0
above-at n (e ∷ es) (suc i) a h at = above-at n es i a h.1 at

pub ids-apart : (es : List CoreEntry) → RisingIds es → (i j : ℕ) (a b : CoreEntry) → slice_get es i ≡ Some a → slice_get es j ≡ Some b → a.id ≡ b.id → i ≡ j
ids-apart [] r i j a b at bt same = cc
ids-apart (e ∷ es) r zero zero a b at bt same = refl
ids-apart (e ∷ es) r zero (suc j) a b at bt same = absurd (let lt = above-at e.id es j b r.0 bt in let is : e.id ≡ a.id = ap (λ (x : CoreEntry). x.id) (same_entry e a at) in omega (arith, lt))
ids-apart (e ∷ es) r (suc i) zero a b at bt same = absurd (let lt = above-at e.id es i a r.0 at in let is : e.id ≡ b.id = ap (λ (x : CoreEntry). x.id) (same_entry e b bt) in omega (arith, lt))
ids-apart (e ∷ es) r (suc i) (suc j) a b at bt same = ap suc (ids-apart es r.1 i j a b at bt same)

other-at : (d : List ℕ) (es : List CoreEntry) (i : ℕ) (a : CoreEntry) → has_digest d es ≡ false → slice_get es i ≡ Some a → bytes_eq a.digest d ≡ false
other-at d [] i a h at = cc
other-at d (e ∷ es) zero a h at = subst (λ (x : CoreEntry). bytes_eq x.digest d ≡ false) (same_entry e a at) (or_left (bytes_eq e.digest d) _ h)
other-at d (e ∷ es) (suc i) a h at = other-at d es i a (or_right (bytes_eq e.digest d) _ h) at

clear : (d e : List ℕ) → bytes_eq d e ≡ false → d ≡ e → ⊥
clear d e h same = let yes : bytes_eq d e ≡ true = subst (λ (x : List ℕ). bytes_eq d x ≡ true) same (nat_list_eq_equiv.refl d) in let both : true ≡ false = sym yes ∙ h in cc

pub digests-apart : (es : List CoreEntry) → DistinctDigests es → (i j : ℕ) (a b : CoreEntry) → slice_get es i ≡ Some a → slice_get es j ≡ Some b → a.digest ≡ b.digest → i ≡ j
digests-apart [] r i j a b at bt same = cc
digests-apart (e ∷ es) r zero zero a b at bt same = refl
digests-apart (e ∷ es) r zero (suc j) a b at bt same = absurd (clear b.digest e.digest (other-at e.digest es j b r.0 bt) (sym same ∙ sym (ap (λ (x : CoreEntry). x.digest) (same_entry e a at))))
digests-apart (e ∷ es) r (suc i) zero a b at bt same = absurd (clear a.digest e.digest (other-at e.digest es i a r.0 at) (same ∙ sym (ap (λ (x : CoreEntry). x.digest) (same_entry e b bt))))
digests-apart (e ∷ es) r (suc i) (suc j) a b at bt same = ap suc (digests-apart es r.1 i j a b at bt same)

-- The first TAB of a record.
use Rattle.std.proofs.Common.{◌≡◌, ◌≢◌, ℕ, zero, suc, ◌+◌, ◌<◌, false, ◌==◌, List, [], ◌∷◌, length, get_or, take, drop, refl, arith}
use Rattle.std.specs.Prelude.{Some, None}
use Rattle.job_laws.specs.Forms.{split_at_tab}

-- no byte before the place is TAB
abbrev pub IsFreeUpTo : ℕ → List ℕ → Type 0
IsFreeUpTo i r = (j : ℕ) → j < i → get_or r j 0 ≢ 9

no_tab : (b : ℕ) → (b ≢ 9) → (b == 9) ≡ false
no_tab b n = grind arith

-- a TAB after bytes that are none divides the record
pub split_found : (r : List ℕ) (i : ℕ) → i < length r → IsFreeUpTo i r → get_or r i 0 ≡ 9 → split_at_tab r ≡ Some (take i r, drop (i + 1) r)
split_found [] i lt free is = absurd (omega (arith, lt))
split_found (b ∷ bs) zero lt free is = rw is refl
split_found (b ∷ bs) (suc i) lt free is =
    let lt' : i < length bs = omega (arith, lt) in
    let ih : split_at_tab bs ≡ Some (take i bs, drop (i + 1) bs) = split_found bs i lt' (λ j l. free (suc j) (omega (arith, l))) is in
    let other : (b == 9) ≡ false = no_tab b (free zero (omega arith)) in
    let next : suc i + 1 ≡ suc (i + 1) = omega arith in
    rw (other, ih, next) refl

-- if no byte is TAB, nothing divides it
pub split_none : (r : List ℕ) → IsFreeUpTo (length r) r → split_at_tab r ≡ None
split_none [] free = refl
split_none (b ∷ bs) free =
    let ih : split_at_tab bs ≡ None = split_none bs (λ j l. free (suc j) (omega (arith, l))) in
    let other : (b == 9) ≡ false = no_tab b (free zero (omega arith)) in
    rw (other, ih) refl

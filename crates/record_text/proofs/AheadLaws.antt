-- Bytes ahead: searched, skipped and taken.
use Rattle.std.proofs.Common.{◌≡◌, ◌≢◌, ℕ, zero, suc, ◌+◌, ◌-◌, ◌<◌, ◌≤◌, List, [], ◌∷◌, length, take, drop, get_or, refl, sym, ap, ◌∙◌, arith, length-drop}
use Rattle.std.proofs.Common.{true, inl, inr}
use Rattle.std.specs.Prelude.{◌==◌}
use Rattle.std.proofs.lemmas.Bool.{cases_lt}
use Rattle.std.proofs.lemmas.Bool.Decides.{nat_tests}
use Rattle.std.proofs.lemmas.List.{drop-drop, take_all}
use Rattle.record_text.specs.Ahead.{NoneBefore, IsHeld}

pub get_drop : (n k : ℕ) (l : List ℕ) → get_or (drop n l) k 0 ≡ get_or l (n + k) 0
get_drop zero k l = ap (λ (m : ℕ). get_or l m 0) (omega arith)
get_drop (suc n) k [] = refl
get_drop (suc n) k (b ∷ l) = get_drop n k l ∙ (let e : suc (n + k) ≡ suc n + k = omega arith in ap (λ (m : ℕ). get_or (b ∷ l) m 0) e)

-- a test of bytes, and its fact
pub same_true : (a b : ℕ) → a ≡ b → (a == b) ≡ true
same_true a b e = grind (arith, nat_tests)

pub true_same : (a b : ℕ) → (a == b) ≡ true → a ≡ b
true_same a b e = grind (arith, nat_tests)

-- a slice up to its end
pub rest_is : (from : ℕ) (bytes : List ℕ) → take (length bytes - from) (drop from bytes) ≡ drop from bytes
rest_is from bytes = take_all (length bytes - from) (drop from bytes) (omega (arith, length-drop from bytes))

-- no LF in front of a place, and none from there on
pub none_beyond : (bytes : List ℕ) (from end : ℕ) → NoneBefore from bytes → ((k : ℕ) → k < end → get_or (drop from bytes) k 0 ≢ 10) → NoneBefore (from + end) bytes
none_beyond bytes from end prefix none k lt bad = elim (cases_lt k from) [
  | inl before ↦ prefix k before bad
  | inr ge ↦ let e : from + (k - from) ≡ k = omega (arith, ge) in none (k - from) (omega (arith, lt, ge)) (get_drop from (k - from) bytes ∙ ap (λ (m : ℕ). get_or bytes m 0) e ∙ bad)
]

-- bytes are skipped
pub skipped : (held : List ℕ) (at seen n : ℕ) → IsHeld held at seen → n ≤ length (drop at held) → IsHeld held (at + n) (seen - n)
skipped held at seen n is le =
    let cut : drop n (drop at held) ≡ drop (at + n) held = drop-drop n at held in
    record {
      within = omega (arith, is.within, le, length-drop at held);
      searched = omega (arith, is.searched, length-drop at held, length-drop (at + n) held);
      none = λ k lt bad. is.none (n + k) (omega (arith, lt)) (sym (get_drop n k (drop at held)) ∙ ap (λ (l : List ℕ). get_or l k 0) cut ∙ bad);
    }

-- What a step of the scan reads.
use Rattle.std.proofs.Common.{◌≡◌, ◌∙◌, ◌||◌, ◌+◌, ◌<◌, ℕ, Bool, cond, true, false, zero, suc, refl, sym, ap, arith, [], ◌∷◌, length, take, drop, get_or, Some, None}
use Rattle.std.specs.Prelude.{◌==◌}
use Rattle.std.specs.List.{list_any, position_or_len}
use Rattle.std.proofs.lemmas.List.Sums.{position_or_len_is}
use Rattle.program_words.specs.WellFormed.{Text, name_and_value}

not_true : (b : Bool) → (b ≡ true → ⊥) → b ≡ false
not_true true wrong = absurd (wrong refl)
not_true false wrong = refl

or_true : (b c : Bool) → c ≡ true → (b || c) ≡ true
or_true true c is = refl
or_true false c is = is

abbrev is_equals : ℕ → Bool
is_equals b = b == 61

any_at : (text : Text) (i : ℕ) → i < length text → is_equals (get_or text i 0) ≡ true → list_any is_equals text ≡ true
any_at [] i lt is = absurd (omega arith)
any_at (b ∷ bs) zero lt is = rw is refl
any_at (b ∷ bs) (suc i) lt is = or_true (is_equals b) (list_any is_equals bs) (any_at bs i (omega arith) is)

none_at : (text : Text) → ((k : ℕ) → k < length text → is_equals (get_or text k 0) ≡ true → ⊥) → list_any is_equals text ≡ false
none_at [] none = refl
none_at (b ∷ bs) none =
    let first : is_equals b ≡ false = not_true (is_equals b) (none 0 (omega arith)) in
    rw first (none_at bs (λ k lt. none (suc k) (omega arith)))

take_whole : (text : Text) → take (length text) text ≡ text
take_whole [] = refl
take_whole (b ∷ bs) = ap (λ (l : Text). b ∷ l) (take_whole bs)

-- a first `=`
pub equals_at : (text : Text) (i : ℕ) → i < length text → ((k : ℕ) → k < i → is_equals (get_or text k 0) ≡ true → ⊥) → is_equals (get_or text i 0) ≡ true
    → (take i text, Some (drop (i + 1) text)) ≡ name_and_value text
equals_at text i lt before is =
    let place : i ≡ position_or_len is_equals text = sym (position_or_len_is is_equals text i 0 (omega arith) (λ k below. not_true (is_equals (get_or text k 0)) (before k below)) (λ _. is)) in
    let any : true ≡ list_any is_equals text = sym (any_at text i lt is) in
    λ j. (take (place j) text, cond (any j) (Some (drop (place j + 1) text)) None)

-- no `=`
pub no_equals : (text : Text) → ((k : ℕ) → k < length text → is_equals (get_or text k 0) ≡ true → ⊥) → (text, None) ≡ name_and_value text
no_equals text none =
    let place : length text ≡ position_or_len is_equals text = sym (position_or_len_is is_equals text (length text) 0 (omega arith) (λ k below. not_true (is_equals (get_or text k 0)) (none k below)) (λ lt. absurd (omega arith))) in
    let any : false ≡ list_any is_equals text = sym (none_at text none) in
    let whole : text ≡ take (position_or_len is_equals text) text = sym (take_whole text) ∙ ap (λ (n : ℕ). take n text) place in
    λ j. (whole j, cond (any j) (Some (drop (position_or_len is_equals text + 1) text)) None)

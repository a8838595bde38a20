-- Turns and their events.
use Rattle.std.proofs.Common.{◌≡◌, ℕ, zero, suc, ◌+◌, ◌<◌, ◌≤◌, List, [], ◌∷◌, ◌++◌, length, set, get_or, refl, sym, ap, ◌∙◌, arith, append_assoc, add-one, length-append}
use Rattle.memo_core.specs.declared.event.Event.{Event}
use Rattle.memo_server.specs.declared.turn.Turn.{Turn}
use Rattle.memo_server.specs.declared.turn.Turn.TheVariants.{Made, Empty}
use Rattle.memo_server.specs.Histories.{events, empties, turns_of}

events-empties : (n : ℕ) (ts : List Turn) → events (empties n ++ ts) ≡ events ts
events-empties zero ts = refl
events-empties (suc n) ts = events-empties n ts

events-none : (n : ℕ) → events (empties n) ≡ []
events-none zero = refl
events-none (suc n) = events-none n

-- The turns have the events.
pub events-turns : (n : ℕ) (es : List Event) (ms : List ℕ) → length ms ≡ length es → events (turns_of n es ms) ≡ es
events-turns n [] ms same = events-none n
events-turns n (e ∷ es) [] same = absurd (omega (arith, same))
events-turns n (e ∷ es) (m ∷ ms) same = events-empties n (Made e ∷ turns_of m es ms) ∙ ap (λ xs. e ∷ xs) (events-turns m es ms (omega (arith, same)))

-- One more event.
pub turns-add : (n : ℕ) (es : List Event) (ms : List ℕ) (e : Event) → length ms ≡ length es → turns_of n (es ++ e ∷ []) (ms ++ 0 ∷ []) ≡ turns_of n es ms ++ Made e ∷ []
turns-add n [] [] e same = refl
turns-add n [] (m ∷ ms) e same = absurd (omega (arith, same))
turns-add n (x ∷ es) [] e same = absurd (omega (arith, same))
turns-add n (x ∷ es) (m ∷ ms) e same = ap (λ ts. empties n ++ Made x ∷ ts) (turns-add m es ms e (omega (arith, same))) ∙ sym (append_assoc (empties n) (Made x ∷ turns_of m es ms) (Made e ∷ []))

empties-push : (n : ℕ) → empties (suc n) ≡ empties n ++ Empty ∷ []
empties-push zero = refl
empties-push (suc n) = ap (λ ts. Empty ∷ ts) (empties-push n)

-- One more empty turn before the first event.
pub turns-before : (n : ℕ) (es : List Event) (ms : List ℕ) → length ms ≡ length es → length ms ≡ 0 → turns_of (n + 1) es ms ≡ turns_of n es ms ++ Empty ∷ []
turns-before n [] ms same none = rw add-one (empties-push n)
turns-before n (e ∷ es) ms same none = absurd (omega (arith, same, none))

-- One more empty turn after the last event.
pub turns-after : (n : ℕ) (es : List Event) (ms : List ℕ) (i m : ℕ) → length ms ≡ length es → i + 1 ≡ length ms → m ≡ get_or ms i m → turns_of n es (set ms i (m + 1)) ≡ turns_of n es ms ++ Empty ∷ []
turns-after n es [] i m same last at = absurd (omega (arith, last))
turns-after n [] (x ∷ ms) i m same last at = absurd (omega (arith, same))
turns-after n (e ∷ es) (x ∷ ms) zero m same last at = last_case es ms (omega (arith, same)) (omega (arith, last))
  where
    last_case : (fs : List Event) (qs : List ℕ) → length qs ≡ length fs → length qs ≡ 0 → empties n ++ Made e ∷ turns_of (m + 1) fs qs ≡ (empties n ++ Made e ∷ turns_of x fs qs) ++ Empty ∷ []
    last_case fs qs length_is none = ap (λ ts. empties n ++ Made e ∷ ts) (turns-before m fs qs length_is none ∙ ap (λ k. turns_of k fs qs ++ Empty ∷ []) at) ∙ sym (append_assoc (empties n) (Made e ∷ turns_of x fs qs) (Empty ∷ []))
turns-after n (e ∷ es) (x ∷ ms) (suc i) m same last at = ap (λ ts. empties n ++ Made e ∷ ts) (turns-after x es ms i m (omega (arith, same)) (omega (arith, last)) at) ∙ sym (append_assoc (empties n) (Made e ∷ turns_of x es ms) (Empty ∷ []))

length-empties : (n : ℕ) → length (empties n) ≡ n
length-empties zero = refl
length-empties (suc n) = ap suc (length-empties n)

-- The empty turns before the first event are among the turns.
pub before-within : (n : ℕ) (es : List Event) (ms : List ℕ) → n ≤ length (turns_of n es ms)
before-within n [] ms = omega (arith, length-empties n)
before-within n (e ∷ es) [] = omega (arith, length-empties n, length-append (empties n) (Made e ∷ []))
before-within n (e ∷ es) (m ∷ ms) = omega (arith, length-empties n, length-append (empties n) (Made e ∷ turns_of m es ms))

-- So are those after an event.
pub after-within : (n : ℕ) (es : List Event) (ms : List ℕ) (i : ℕ) (m : ℕ) → length ms ≡ length es → i < length ms → m ≡ get_or ms i m → m ≤ length (turns_of n es ms)
after-within n es [] i m same lt at = absurd (omega (arith, lt))
after-within n [] (x ∷ ms) i m same lt at = absurd (omega (arith, same))
after-within n (e ∷ es) (x ∷ ms) zero m same lt at = omega (arith, at, before-within x es ms, length-append (empties n) (Made e ∷ turns_of x es ms))
after-within n (e ∷ es) (x ∷ ms) (suc i) m same lt at = omega (arith, after-within x es ms i m (omega (arith, same)) (omega (arith, lt)) at, length-append (empties n) (Made e ∷ turns_of x es ms))

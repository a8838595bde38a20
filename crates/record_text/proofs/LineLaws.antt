-- The lines of bytes whose line ends are known.
use Rattle.std.proofs.Common.{◌≡◌, ◌≢◌, ℕ, zero, suc, ◌<◌, Bool, true, false, List, [], ◌∷◌, ◌++◌, length, take, drop, get_or, refl, sym, ap, ◌∙◌, subst, arith, append-nil, append_assoc}
use Rattle.std.specs.Prelude.{◌==◌, if◌then◌else◌, All}
use Rattle.std.proofs.lemmas.Bool.Decides.{nat_tests}
use Rattle.definitions.specs.Records.{AllRecords, text_of}
use Rattle.record_text.specs.Lines.{pieces, with_byte, EndsLine, HasNoLine, whole_lines}

-- a byte that is no LF
pub pieces_byte : (b : ℕ) (bs : List ℕ) → (b ≡ 10 → ⊥) → pieces (b ∷ bs) ≡ with_byte b (pieces bs)
pieces_byte b bs differs = grind (arith, nat_tests)

-- a first line
pub pieces_line : (bytes : List ℕ) (i : ℕ) → i < length bytes → ((k : ℕ) → k < i → get_or bytes k 0 ≢ 10) → get_or bytes i 0 ≡ 10 → pieces bytes ≡ (take i bytes ∷ (pieces (drop (suc i) bytes)).0, (pieces (drop (suc i) bytes)).1)
pieces_line [] i lt before found = absurd (omega arith)
pieces_line (b ∷ bs) zero lt before found = ap (λ (x : ℕ). pieces (x ∷ bs)) found
pieces_line (b ∷ bs) (suc i) lt before found =
    pieces_byte b bs (before 0 (omega arith))
    ∙ ap (with_byte b) (pieces_line bs i (omega arith) (λ k h. before (suc k) (omega arith)) found)

-- no line ends
pub pieces_none : (bytes : List ℕ) → ((k : ℕ) → k < length bytes → get_or bytes k 0 ≢ 10) → pieces bytes ≡ ([], bytes)
pieces_none [] before = refl
pieces_none (b ∷ bs) before =
    pieces_byte b bs (before 0 (omega arith))
    ∙ ap (with_byte b) (pieces_none bs (λ k h. before (suc k) (omega arith)))

-- a first line, in front of what follows its LF
pub pieces_prefix : (line rest : List ℕ) → All (λ b. b ≢ 10) line → pieces (line ++ 10 ∷ rest) ≡ (line ∷ (pieces rest).0, (pieces rest).1)
pieces_prefix [] rest none = refl
pieces_prefix (b ∷ bs) rest none =
    pieces_byte b (bs ++ 10 ∷ rest) (none 0 0 (omega arith))
    ∙ ap (with_byte b) (pieces_prefix bs rest (λ k d lt. none (suc k) d (omega arith)))

-- the lines of a text are its records
pub pieces-text_of : (records : List (List ℕ)) → AllRecords records → pieces (text_of records) ≡ (records, [])
pieces-text_of [] all = refl
pieces-text_of (r ∷ rs) all =
    pieces_prefix r (text_of rs) (all 0 [] (omega arith)).1
    ∙ ap (λ (p : List (List ℕ) × List ℕ). (r ∷ p.0, p.1)) (pieces-text_of rs (λ k d lt. all (suc k) d (omega arith)))

-- the text determines the records
pub text_of-injective : (a b : List (List ℕ)) → AllRecords a → AllRecords b → text_of a ≡ text_of b → a ≡ b
text_of-injective a b all_a all_b is =
    ap (λ (p : List (List ℕ) × List ℕ). p.0) (sym (pieces-text_of a all_a) ∙ ap pieces is ∙ pieces-text_of b all_b)

-- one record more
pub text_of-push : (rs : List (List ℕ)) (r : List ℕ) → text_of (rs ++ r ∷ []) ≡ text_of rs ++ (r ++ 10 ∷ [])
text_of-push [] r = refl
text_of-push (q ∷ rs) r =
    ap (λ (l : List ℕ). q ++ 10 ∷ l) (text_of-push rs r)
    ∙ sym (append_assoc q (10 ∷ text_of rs) (r ++ 10 ∷ []))

abbrev pub piece_on : Bool → ℕ → List (List ℕ) × List ℕ → List (List ℕ) × List ℕ
piece_on true b p = ([] ∷ p.0, p.1)
piece_on false b p = with_byte b p

pub pieces_on : (b : ℕ) (bs : List ℕ) → pieces (b ∷ bs) ≡ piece_on (b == 10) b (pieces bs)
pieces_on b bs = elim (b == 10) as (λ (c : Bool). let r : List (List ℕ) × List ℕ = (if c then ([] ∷ (pieces bs).0, (pieces bs).1) else with_byte b (pieces bs)) in r ≡ piece_on c b (pieces bs)) [
  | true ↦ refl
  | false ↦ refl
]

abbrev Cons : List ℕ → Type 0
Cons [] = ⊥
Cons (b ∷ bs) = Unit {0}

on_closed : (c : Bool) (b : ℕ) (p : List (List ℕ) × List ℕ) → (piece_on c b p).1 ≡ [] → p.1 ≡ []
on_closed true b p e = e
on_closed false b ([], rest) e = absurd (subst Cons e tt)
on_closed false b (l ∷ ls, rest) e = e

on_append : (c : Bool) (b : ℕ) (p q : List (List ℕ) × List ℕ) → (piece_on c b p).1 ≡ [] → piece_on c b (p.0 ++ q.0, q.1) ≡ ((piece_on c b p).0 ++ q.0, q.1)
on_append true b p q e = refl
on_append false b ([], rest) q e = absurd (subst Cons e tt)
on_append false b (l ∷ ls, rest) q e = refl

-- bytes after whole lines
pub pieces-append : (u v : List ℕ) → EndsLine u → pieces (u ++ v) ≡ ((pieces u).0 ++ (pieces v).0, (pieces v).1)
pieces-append [] v e = refl
pieces-append (b ∷ bs) v e =
    let closed : (piece_on (b == 10) b (pieces bs)).1 ≡ [] = sym (ap (λ (p : List (List ℕ) × List ℕ). p.1) (pieces_on b bs)) ∙ e in
    pieces_on b (bs ++ v)
    ∙ ap (λ (p : List (List ℕ) × List ℕ). piece_on (b == 10) b p) (pieces-append bs v (on_closed (b == 10) b (pieces bs) closed))
    ∙ on_append (b == 10) b (pieces bs) (pieces v) closed
    ∙ ap (λ (p : List (List ℕ) × List ℕ). (p.0 ++ (pieces v).0, (pieces v).1)) (sym (pieces_on b bs))

-- whole lines after whole lines
pub EndsLine-append : (u v : List ℕ) → EndsLine u → EndsLine v → EndsLine (u ++ v)
EndsLine-append u v eu ev = ap (λ (p : List (List ℕ) × List ℕ). p.1) (pieces-append u v eu) ∙ ev

on_join : (c : Bool) (b : ℕ) (p : List (List ℕ) × List ℕ) (bs : List ℕ) → (c ≡ true → b ≡ 10) → text_of p.0 ++ p.1 ≡ bs → text_of (piece_on c b p).0 ++ (piece_on c b p).1 ≡ b ∷ bs
on_join true b p bs is e = (λ i. sym (is refl) i ∷ e i)
on_join false b ([], rest) bs is e = ap (λ (l : List ℕ). b ∷ l) e
on_join false b (l ∷ ls, rest) bs is e = ap (λ (l : List ℕ). b ∷ l) e

-- the lines and the rest are all bytes
pub text_of-pieces : (l : List ℕ) → text_of (pieces l).0 ++ (pieces l).1 ≡ l
text_of-pieces [] = refl
text_of-pieces (b ∷ bs) =
    ap (λ (p : List (List ℕ) × List ℕ). text_of p.0 ++ p.1) (pieces_on b bs)
    ∙ on_join (b == 10) b (pieces bs) bs (λ e. let n : b ≡ 10 = grind (arith, nat_tests) in n) (text_of-pieces bs)

-- whole lines, and no line after them
pub whole_lines-used : (used part : List ℕ) → EndsLine used → HasNoLine part → whole_lines (used ++ part) ≡ used
unfolding whole_lines
whole_lines-used used part ends none =
    ap (λ (p : List (List ℕ) × List ℕ). text_of p.0) (pieces-append used part ends)
    ∙ ap (λ (p : List (List ℕ) × List ℕ). text_of ((pieces used).0 ++ p.0)) none
    ∙ ap text_of (append-nil (pieces used).0)
    ∙ sym (append-nil (text_of (pieces used).0))
    ∙ ap (λ (l : List ℕ). text_of (pieces used).0 ++ l) (sym ends)
    ∙ text_of-pieces used

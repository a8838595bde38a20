-- Hashing a table entry by entry, in pieces.
use Rattle.std.proofs.Common.{◌≡◌, ℕ, ◌<◌, ◌≤◌, List, [], ◌∷◌, ◌++◌, length, get_or, refl, ap, ◌∙◌, sym, arith, append_assoc}
use Rattle.sha2.specs.declared.Sha256.{Sha256}
use Rattle.sheets.specs.Digests.{HoldsBut, entry_bytes, table_bytes}
use Rattle.sheets.proofs.MergeSteps.{rest_of, rest_is}

-- bytes that are gathered belong to the message
pub holds_more : (hasher : Sha256) (bytes new message more : List ℕ) → HoldsBut hasher bytes message → new ≡ bytes ++ more → HoldsBut hasher new (message ++ more)
holds_more hasher bytes new message more h is = (h.0, h.1, ap (λ l. h.0 ++ l) is ∙ sym (append_assoc h.0 bytes more) ∙ ap (λ l. l ++ more) h.2)

-- a list below one has nothing
pub empty_is : {X : Type 0} (xs : List X) → length xs < 1 → [] ≡ xs
empty_is [] lt = refl
empty_is (x ∷ xs) lt = absurd (omega arith)

-- the bytes of a table are those of its first entry, and then those of the others
pub first_entry : {V : Type 0} (encoded : V → List ℕ) (t : List (List ℕ × V)) (e : List ℕ × V) → 1 ≤ length t → e ≡ get_or t 0 e → entry_bytes encoded e ++ table_bytes encoded (rest_of t) ≡ table_bytes encoded t
first_entry encoded [] e some is = absurd (omega arith)
first_entry encoded (x ∷ t) e some is = λ i. entry_bytes encoded (is i) ++ table_bytes encoded (rest_is (x ∷ t) i)

-- The fields of a line whose spaces are known.
use Rattle.std.proofs.Common.{◌≡◌, ◌≢◌, ℕ, zero, suc, ◌<◌, List, [], ◌∷◌, length, take, drop, get_or, refl, ap, ◌∙◌, arith, Bool, true, false}
use Rattle.std.proofs.lemmas.Bool.Decides.{nat_tests}
use Rattle.std.proofs.lemmas.List.Elements.{All-cons, All-tail}
use Rattle.std.specs.Prelude.{All, Err, ◌==◌, if◌then◌else◌}
use Rattle.record_text.specs.declared.script_fault.Why.TheVariants.{Unknown}
use Rattle.record_text.specs.Fields.{fields_of, field_with, no_field, IsField}
use Rattle.record_text.specs.Table.{asked, asked_by, row_at, word_of}

-- a byte that is no space
fields_byte : (b : ℕ) (bs : List ℕ) → (b ≡ 32 → ⊥) → fields_of (b ∷ bs) ≡ field_with b (fields_of bs)
fields_byte b bs differs = grind (arith, nat_tests)

-- a first space
pub fields_of-space : (line : List ℕ) (i : ℕ) → i < length line → ((k : ℕ) → k < i → get_or line k 0 ≢ 32) → get_or line i 0 ≡ 32 → fields_of line ≡ take i line ∷ fields_of (drop (suc i) line)
fields_of-space [] i lt before found = absurd (omega arith)
fields_of-space (b ∷ bs) zero lt before found = ap (λ (x : ℕ). fields_of (x ∷ bs)) found
fields_of-space (b ∷ bs) (suc i) lt before found =
    fields_byte b bs (before 0 (omega arith))
    ∙ ap (field_with b) (fields_of-space bs i (omega arith) (λ k h. before (suc k) (omega arith)) found)

-- no space
pub fields_of-none : (line : List ℕ) → ((k : ℕ) → k < length line → get_or line k 0 ≢ 32) → fields_of line ≡ line ∷ []
fields_of-none [] before = refl
fields_of-none (b ∷ bs) before =
    fields_byte b bs (before 0 (omega arith))
    ∙ ap (field_with b) (fields_of-none bs (λ k h. before (suc k) (omega arith)))

-- there is a field
abbrev HasField : List (List ℕ) → Type 0
HasField [] = ⊥
HasField (f ∷ fs) = Unit {0}

with_has : (b : ℕ) (fs : List (List ℕ)) → HasField (field_with b fs)
with_has b [] = tt
with_has b (f ∷ fs) = tt

pick : (c : Bool) (fs gs : List (List ℕ)) → HasField fs → HasField gs → HasField (if c then fs else gs)
pick true fs gs p q = p
pick false fs gs p q = q

has_field : (line : List ℕ) → HasField (fields_of line)
has_field [] = tt
has_field (b ∷ bs) = pick (b == 32) ([] ∷ fields_of bs) (field_with b (fields_of bs)) tt (with_has b (fields_of bs))

-- a field too many, or one too few
pub one_more : (field rest : List ℕ) → length (field ∷ fields_of rest) ≢ 1
one_more field rest is = more (fields_of rest) (has_field rest) is
  where
    more : (fs : List (List ℕ)) → HasField fs → length (field ∷ fs) ≢ 1
    more [] h is = absurd h
    more (f ∷ fs) h is = absurd (omega (arith, is))

pub no_field-some : (rest : List ℕ) → no_field (fields_of rest) ≡ Err Unknown
no_field-some rest = at (fields_of rest) (has_field rest)
  where
    at : (fs : List (List ℕ)) → HasField fs → no_field fs ≡ Err Unknown
    at [] h = absurd h
    at (f ∷ fs) h = refl

-- the fields of a line without LF
no_bytes : (c : ℕ) → All (λ b. b ≢ c) []
no_bytes c k d lt = absurd (omega (arith, lt))

with_plain : (b : ℕ) (fs : List (List ℕ)) → b ≢ 32 → b ≢ 10 → All IsField fs → All IsField (field_with b fs)
with_plain b [] space lf all = All-cons IsField (b ∷ []) [] (All-cons (λ x. x ≢ 32) b [] space (no_bytes 32), All-cons (λ x. x ≢ 10) b [] lf (no_bytes 10)) (λ k d lt. absurd (omega (arith, lt)))
with_plain b (f ∷ fs) space lf all =
    let is : IsField f = all 0 [] (omega arith) in
    All-cons IsField (b ∷ f) fs (All-cons (λ x. x ≢ 32) b f space is.0, All-cons (λ x. x ≢ 10) b f lf is.1) (All-tail IsField f fs all)

pick_plain : (c : Bool) (b : ℕ) (fs : List (List ℕ)) → (b == 32) ≡ c → b ≢ 10 → All IsField fs → All IsField (if c then [] ∷ fs else field_with b fs)
pick_plain true b fs is lf rest = All-cons IsField [] fs (no_bytes 32, no_bytes 10) rest
pick_plain false b fs is lf rest = with_plain b fs (λ e. let n : b ≡ 32 → ⊥ = grind (arith, nat_tests) in n e) lf rest

pub fields_plain : (line : List ℕ) → All (λ b. b ≢ 10) line → All IsField (fields_of line)
fields_plain [] plain = All-cons IsField [] [] (no_bytes 32, no_bytes 10) (λ k d lt. absurd (omega (arith, lt)))
fields_plain (b ∷ bs) plain = pick_plain (b == 32) b (fields_of bs) refl (plain 0 0 (omega arith)) (fields_plain bs (All-tail (λ x. x ≢ 10) b bs plain))

-- a line whose first field is known
pub asked-is : (line word : List ℕ) (fields : List (List ℕ)) → fields_of line ≡ word ∷ fields → asked line ≡ row_at (word_of word) fields
unfolding asked
asked-is line word fields is = ap (λ (l : List (List ℕ)). asked_by l) is

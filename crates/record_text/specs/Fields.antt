-- The fields of a command line, and their reading as numbers and names.
use Rattle.std.specs.Prelude.{◌≡◌, ◌≢◌, ℕ, ◌==◌, ◌&&◌, nat_le, if◌then◌else◌, List, [], ◌∷◌, length, All, Option, Result, Ok, Err}
use Rattle.std.specs.declared.option.Option.TheVariants.{Some, None}
use Rattle.std.specs.Borrow.{Bor}
use Rattle.definitions.specs.Numbers.{is_number, digits_value}
use Rattle.record_text.specs.Names.{most_name}
use Rattle.record_text.specs.declared.script_fault.Why.{Why}
use Rattle.record_text.specs.declared.script_fault.Why.TheVariants.{Unknown, BadNumber, BadName}

-- One byte more at the head of the first field.
abbrev pub field_with : ℕ → List (List ℕ) → List (List ℕ)
field_with b [] = (b ∷ []) ∷ []
field_with b (f ∷ fs) = (b ∷ f) ∷ fs

-- The fields of a line: it is split at every space.
abbrev pub fields_of : List ℕ → List (List ℕ)
fields_of [] = [] ∷ []
fields_of (b ∷ bs) = if b == 32 then [] ∷ fields_of bs else field_with b (fields_of bs)

-- No field.
abbrev pub no_field : List (List ℕ) → Result (Unit {0}) Why
no_field [] = Ok tt
no_field fields = Err Unknown

-- One field, a number.
abbrev pub one_number : List (List ℕ) → Result ℕ Why
one_number (f ∷ []) = if is_number f then Ok (digits_value f) else Err BadNumber
one_number fields = Err Unknown

-- Two fields, both numbers.
abbrev pub two_numbers : List (List ℕ) → Result (ℕ × ℕ) Why
two_numbers (f ∷ g ∷ []) = if is_number f && is_number g then Ok (digits_value f, digits_value g) else Err BadNumber
two_numbers fields = Err Unknown

-- Three fields, all numbers.
abbrev pub three_numbers : List (List ℕ) → Result (ℕ × ℕ × ℕ) Why
three_numbers (f ∷ g ∷ h ∷ []) =
    if is_number f && is_number g && is_number h then Ok (digits_value f, digits_value g, digits_value h) else Err BadNumber
three_numbers fields = Err Unknown

-- One field, a name: it has at most 255 bytes; as a field of a line it has no space and no LF.
abbrev pub one_name : List (List ℕ) → Result (List ℕ) Why
one_name (f ∷ []) = if nat_le (length f) most_name then Ok f else Err BadName
one_name fields = Err Unknown

-- The faults of a command line's own form.
abbrev pub IsForm : Why → Type 0
IsForm Unknown = Unit {0}
IsForm BadNumber = Unit {0}
IsForm BadName = Unit {0}
IsForm other = ⊥

-- A field of a line has no space and no LF.
abbrev pub IsField : List ℕ → Type 0
IsField f = All (λ b. b ≢ 32) f × All (λ b. b ≢ 10) f

-- The fields after the first, if there is a space.
abbrev pub fields_behind : Option (Bor (List ℕ)) → List (List ℕ)
fields_behind None = []
fields_behind (Some rest) = fields_of rest.now

-- The first field of a line, and what comes after its space.
abbrev pub SplitsField : List ℕ → Bor (List ℕ) × Option (Bor (List ℕ)) → Type 0
SplitsField line split = fields_of line ≡ split.0.now ∷ fields_behind split.1

-- The field, if there is exactly one.
abbrev pub OneField : List (List ℕ) → Option (Bor (List ℕ)) → Type 0
OneField fields None = length fields ≢ 1
OneField fields (Some f) = fields ≡ f.now ∷ []

-- The fields, if there are exactly two.
abbrev pub TwoFields : List (List ℕ) → Option (Bor (List ℕ) × Bor (List ℕ)) → Type 0
TwoFields fields None = length fields ≢ 2
TwoFields fields (Some both) = fields ≡ both.0.now ∷ both.1.now ∷ []

-- The fields, if there are exactly three.
abbrev pub ThreeFields : List (List ℕ) → Option (Bor (List ℕ) × Bor (List ℕ) × Bor (List ℕ)) → Type 0
ThreeFields fields None = length fields ≢ 3
ThreeFields fields (Some all) = fields ≡ all.0.now ∷ all.1.now ∷ all.2.now ∷ []

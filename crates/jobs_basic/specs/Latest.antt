-- The job `latest`: the value that came last for each key.
use Rattle.std.specs.Prelude.{ℕ, List, [], ◌∷◌, Option, Some, None}
use Rattle.std.proofs.Common.{refl}
use Rattle.definitions.specs.Tables.{HasGoodValues, IsGoodJoin}
use Rattle.job_laws.specs.Forms.{split_at_tab}
use Rattle.jobs_basic.specs.Lines.{line_of}

-- Both fields as one pair, if there is a TAB.
abbrev pub field_pair : Option (List ℕ × List ℕ) → List (List ℕ × List ℕ)
field_pair None = []
field_pair (Some p) = (p.0, p.1) ∷ []

-- The key with the value.
abbrev pub latest_emits : List ℕ → List (List ℕ × List ℕ)
latest_emits r = field_pair (split_at_tab r)

-- The right value.
abbrev pub latest_joined : List ℕ → List ℕ → List ℕ
latest_joined a b = b

-- Every list of bytes is good.
abbrev pub latest_good : List ℕ → Type 0
latest_good v = Unit {0}

-- The line of the key with the value.
abbrev pub latest_text : List ℕ → List ℕ → List ℕ
latest_text key v = line_of key v

-- The bytes of the value.
abbrev pub latest_encoded : List ℕ → List ℕ
latest_encoded v = v

good_pair : (found : Option (List ℕ × List ℕ)) → HasGoodValues latest_good (field_pair found)
good_pair None = tt
good_pair (Some p) = (tt, tt)

-- Emitted values are good.
pub latest_emits_good : (r : List ℕ) → HasGoodValues latest_good (latest_emits r)
latest_emits_good r = good_pair (split_at_tab r)

-- Joining keeps good values, and is associative on them.
pub latest_join_laws : IsGoodJoin latest_good latest_joined
latest_join_laws = record { keeps = λ a b g h. tt; assoc = λ a b c g h i. refl }

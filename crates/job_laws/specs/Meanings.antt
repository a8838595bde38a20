-- What a job means at its setting, as one value.
use Rattle.std.specs.Prelude.{ℕ, Bool, List, All, IsTrue}
use Rattle.job_laws.specs.declared.job.Job as Jobs

-- The records that a job accepts, the pairs of a record, two values of a key joined, and the lines of a key with its value.
pub record Meaning (V : Type 0) : Type 0 where
  pub accepts : List ℕ → Bool
  pub emits : List ℕ → List (List ℕ × V)
  pub joined : V → V → V
  pub text : List ℕ → V → List ℕ

-- What a job means at a setting.
abbrev pub meaning_at : {J V M : Type 0} → Jobs.Ghosts J V M → ℕ → Meaning V
meaning_at g s = record { accepts = g.accepts s; emits = g.emits s; joined = g.joined s; text = g.text s }

-- What a job means at its own setting.
abbrev pub meaning_of : {J V M : Type 0} → Jobs.Ghosts J V M → J → Meaning V
meaning_of g job = meaning_at g (g.setting job)

-- All of these records are accepted.
abbrev pub AllAccepted : {V : Type 0} → Meaning V → List (List ℕ) → Type 0
AllAccepted m records = All (λ r. IsTrue (m.accepts r)) records

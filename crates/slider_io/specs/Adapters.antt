-- The model of the adapters over real readers and writers, and which bytes they pass on.
use Rattle.std.specs.Prelude.{ℕ, List, take, Result, MatchResult, Option}
use Rattle.std.specs.Io.KnownBytes.{Appends}

-- How often the adapter failed, and the bytes that its reader has left or its writer holds, if they are known.
pub record Adapter : Type 0 where
  pub faults : ℕ
  pub known : Option (List ℕ)

-- The writer got the first n bytes of the piece; on an error a prefix of it, since what was taken may not have been flushed.
abbrev pub HandsOn : {E : Type 0} → Option (List ℕ) → Option (List ℕ) → Result ℕ E → List ℕ → Type 0
HandsOn old new r piece = MatchResult r (λ n. Appends old new (take n piece)) (λ _. (n : ℕ) × Appends old new (take n piece))

-- What a call of a source or a sink does to observable bytes.
use Rattle.std.specs.Prelude.{◌≡◌, ◌<◌, ℕ, List, [], ◌++◌, take, Result, Ok, Err, Option}
use Rattle.definitions.specs.Outside.{Told, GainsPrefix}

-- The first n bytes of the buffer are the first of those that were to come; a nonempty buffer gets none only at the
-- end.
pub record Took (room : ℕ) (into : List ℕ) (n : ℕ) (old new : List ℕ) : Type 0 where
  pub bytes : old ≡ take n into ++ new
  pub end : n ≡ 0 → 0 < room → old ≡ []

-- What a take does to observable bytes: on an error they are unchanged.
abbrev pub Takes : {E : Type 0} → Option (List ℕ) → Option (List ℕ) → ℕ → List ℕ → Result ℕ E → Type 0
Takes before now room into (Ok n) = Told before now (Took room into n)
Takes before now room into (Err e) = Told before now (λ old new. new ≡ old)

-- What a put does to observable bytes: they gain the first n bytes of the piece, and on an error are unchanged.
abbrev pub Puts : {E : Type 0} → Option (List ℕ) → Option (List ℕ) → List ℕ → Result ℕ E → Type 0
Puts before now piece (Ok n) = Told before now (λ old new. new ≡ old ++ take n piece)
Puts before now piece (Err e) = Told before now (λ old new. new ≡ old)

-- What putting all of these bytes does: the sink gains them, or on an error a prefix of them.
abbrev pub PutsAll : {T E : Type 0} → Option (List ℕ) → Option (List ℕ) → List ℕ → Result T E → Type 0
PutsAll before now bytes (Ok t) = Told before now (λ old new. new ≡ old ++ bytes)
PutsAll before now bytes (Err e) = Told before now (GainsPrefix bytes)

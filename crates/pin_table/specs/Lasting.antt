-- What a caller may rely on from turn to turn.
use Rattle.std.specs.Prelude.{◌≡◌, ◌≢◌, ℕ, ◌+◌, ◌<◌, ◌==◌, true, false, if◌then◌else◌, List, Some}
use Rattle.std.specs.List.{list_any}
use Rattle.memo_core.specs.declared.entries.CoreEntry.{CoreEntry}
use Rattle.memo_core.specs.declared.state.CoreState.{CoreState}
use Rattle.memo_core.specs.declared.event.Event.{Event}
use Rattle.memo_core.specs.declared.event.Event.TheVariants.{Look, Keep}
use Rattle.memo_core.specs.declared.event.LookAnswer.{LookAnswer}
use Rattle.memo_core.specs.declared.event.LookAnswer.TheVariants.{Hit, Absent, Clash}
use Rattle.memo_core.specs.declared.event.KeepAnswer.{KeepAnswer}
use Rattle.memo_core.specs.declared.event.KeepAnswer.TheVariants.{Stored, Found, Clash as KeepClash}
use Rattle.memo_core.specs.Machine.{replayed, find_id, has_digest}
use Rattle.memo_core.specs.History.{held, how_many, says}
use Rattle.memo_server.specs.Callers.{gives, frees}
use Rattle.pin_table.specs.Views.{ShardKnown}
use Rattle.pin_table.specs.Known.{KnownFits, Gained}

-- The id is live, with the digest.
abbrev pub IsLive : CoreState → ℕ → List ℕ → Type 0
IsLive s id digest = (e : CoreEntry) × (find_id id s.entries ≡ Some e) × (e.digest ≡ digest)

-- No live entry has the digest.
abbrev pub IsAbsent : CoreState → List ℕ → Type 0
IsAbsent s digest = has_digest digest s.entries ≡ false

-- What a look's answer says of the state before it.
abbrev pub LookSays : CoreState → List ℕ → LookAnswer → Type 0
LookSays s digest (Hit id) = IsLive s id digest
LookSays s digest Absent = IsAbsent s digest
LookSays s digest (Clash id) = IsLive s id digest

-- What a keep's answer says of the state before it.
abbrev pub KeepSays : CoreState → List ℕ → KeepAnswer → Type 0
KeepSays s digest (Stored id) = IsAbsent s digest
KeepSays s digest (Found id) = IsLive s id digest
KeepSays s digest (KeepClash id) = IsLive s id digest

-- A caller's turn leaves it with what every caller keeps.
abbrev pub TurnKeeps : Type 0
TurnKeeps = (number : ℕ) (e : Event) (old new : ShardKnown) → KnownFits number old → Gained number e old new → KnownFits number new

-- What a caller holds changes only by its own events.
abbrev pub HeldFollows : Type 0
HeldFollows =
    (number id : ℕ) (e : Event) (old new : ShardKnown) → KnownFits number old → Gained number e old new
    → held number id new.mine + (if frees id e then 1 else 0) ≡ held number id old.mine + (if gives id e then 1 else 0)

-- An id that the caller holds is live in all that it has seen, with exactly as many pins of the caller as it holds.
abbrev pub HeldIsLive : Type 0
HeldIsLive =
    (number id : ℕ) (k : ShardKnown) → KnownFits number k → 0 < held number id k.mine
    → (s : CoreState) × (e : CoreEntry) × (replayed k.seen ≡ Some s) × (find_id id s.entries ≡ Some e) × (how_many (λ c. c == number) e.pins ≡ held number id k.mine)

-- A look for what a caller holds by an event of its own does not return Absent, nor a keep Stored.
abbrev pub HeldIsFound : Type 0
HeldIsFound =
    (number id run : ℕ) (digest : List ℕ) (old new : ShardKnown) → KnownFits number old → 0 < held number id old.mine → list_any (says id digest) old.mine ≡ true
    → ((answer : LookAnswer) → Gained number (Look number run digest answer) old new → answer ≢ Absent)
    × ((answer : KeepAnswer) (i : ℕ) → Gained number (Keep number run digest answer) old new → answer ≢ Stored i)

-- Each answer says what holds of the state before the call.
abbrev pub AnswersAreExact : Type 0
AnswersAreExact =
    (number run : ℕ) (digest : List ℕ) (old new : ShardKnown)
    → ((answer : LookAnswer) (g : Gained number (Look number run digest answer) old new) → LookSays g.state digest answer)
    × ((answer : KeepAnswer) (g : Gained number (Keep number run digest answer) old new) → KeepSays g.state digest answer)

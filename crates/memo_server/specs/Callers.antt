-- Whose turns the turns of a shard are, and what a caller's own turns say.
use Rattle.std.specs.Prelude.{ℕ, ◌-◌, ◌==◌, Bool, false, List, Option, Some, None, IsSome}
use Rattle.std.specs.List.{filter}
use Rattle.memo_core.specs.declared.event.Event.{Event}
use Rattle.memo_core.specs.declared.event.Event.TheVariants.{Look, Keep, Release, Sweep}
use Rattle.memo_core.specs.declared.event.LookAnswer.TheVariants.{Hit, Absent, Clash}
use Rattle.memo_core.specs.declared.event.KeepAnswer.TheVariants.{Stored, Found, Clash as KeepClash}
use Rattle.memo_core.specs.Machine.{replayed}
use Rattle.memo_core.specs.History.{how_many}
use Rattle.memo_server.specs.declared.turn.Turn.{Turn}
use Rattle.memo_server.specs.declared.turn.Turn.TheVariants.{Made, Empty}
use Rattle.memo_server.specs.Histories.{events}

-- The caller of an event.
abbrev pub caller_of : Event → ℕ
caller_of (Look who run digest answer) = who
caller_of (Keep who run digest answer) = who
caller_of (Release who i) = who
caller_of (Sweep who horizon dropped) = who

-- The caller of a turn's event; an empty turn is under no number.
abbrev pub whose : Turn → Option ℕ
whose (Made e) = Some (caller_of e)
whose Empty = None

-- The events of one caller.
abbrev pub own : ℕ → List Event → List Event
own who es = filter (λ e. caller_of e == who) es

-- The event gives its caller a pin on the id.
abbrev pub gives : ℕ → Event → Bool
gives id (Look who run digest (Hit i)) = i == id
gives id (Look who run digest Absent) = false
gives id (Look who run digest (Clash i)) = false
gives id (Keep who run digest (Stored i)) = i == id
gives id (Keep who run digest (Found i)) = i == id
gives id (Keep who run digest (KeepClash i)) = false
gives id (Release who i) = false
gives id (Sweep who horizon dropped) = false

-- The event gives up a pin of its caller on the id.
abbrev pub frees : ℕ → Event → Bool
frees id (Look who run digest answer) = false
frees id (Keep who run digest answer) = false
frees id (Release who i) = i == id
frees id (Sweep who horizon dropped) = false

-- How many pins of the id are left after the events of one caller.
abbrev pub own_held : ℕ → List Event → ℕ
own_held id events = how_many (gives id) events - how_many (frees id) events

-- The turns without the empty ones are a legal history.
abbrev pub IsLegal : List Turn → Type 0
IsLegal ts = IsSome (replayed (events ts))

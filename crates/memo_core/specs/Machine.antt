-- The memo as a machine over events: which events are legal in a state, and the state after them.
use Rattle.std.specs.Prelude.{ℕ, ◌+◌, ◌-◌, ◌^◌, Bool, true, false, ◌&&◌, ◌||◌, is_some, is_none, not, ◌==◌, nat_lt, max, if◌then◌else◌, List, [], ◌∷◌, ◌++◌, length, filter, option_and_then, Option, Some, None}
use Rattle.std.specs.List.{list_any}
use Rattle.std.specs.Option.{option_map_or}
use Rattle.std.specs.Str.{bytes_eq}
pub use Rattle.memo_core.specs.Pinned.{without_first}
use Rattle.memo_core.specs.declared.entries.CoreEntry.{CoreEntry}
use Rattle.memo_core.specs.declared.state.CoreState.{CoreState}
use Rattle.memo_core.specs.declared.event.Event.{Event}
use Rattle.memo_core.specs.declared.event.Event.TheVariants.{Look, Keep, Release, Sweep}
use Rattle.memo_core.specs.declared.event.LookAnswer.TheVariants.{Hit, Absent, Clash}
use Rattle.memo_core.specs.declared.event.KeepAnswer.TheVariants.{Stored, Found, Clash as KeepClash}

-- The entry has the id and the digest.
abbrev pub names : ℕ → List ℕ → CoreEntry → Bool
names id digest e = (e.id == id) && bytes_eq e.digest digest

-- Some entry has the digest.
abbrev pub has_digest : List ℕ → List CoreEntry → Bool
has_digest digest es = list_any (λ e. bytes_eq e.digest digest) es

-- The entries, with f at the entry of the id.
abbrev pub at_id : ℕ → (CoreEntry → CoreEntry) → List CoreEntry → List CoreEntry
at_id id f [] = []
at_id id f (e ∷ es) = (if e.id == id then f e else e) ∷ at_id id f es

-- The entry with one more pin, of a caller in a run.
abbrev pub pinned : ℕ → ℕ → CoreEntry → CoreEntry
pinned caller run e = record e { used = max e.used run; pins = e.pins ++ caller ∷ [] }

-- The entry without its first pin of the caller.
abbrev pub released : ℕ → CoreEntry → CoreEntry
released caller e = record e { pins = without_first caller e.pins }

-- The entry has the id and a pin of the caller.
abbrev pub has_pin : ℕ → ℕ → CoreEntry → Bool
has_pin caller id e = (e.id == id) && list_any (λ c. c == caller) e.pins

-- The entry has no pins, and was last used below the horizon.
abbrev pub is_swept : ℕ → CoreEntry → Bool
is_swept horizon e = (length e.pins == 0) && nat_lt e.used horizon

-- A new entry, pinned by the caller that stored it.
abbrev pub stored : ℕ → ℕ → ℕ → List ℕ → CoreEntry
stored caller run id digest = record { id = id; digest = digest; used = run; pins = caller ∷ [] }

-- The state, if the test holds.
abbrev pub when : Bool → CoreState → Option CoreState
when true s = Some s
when false s = None

-- The state after the event, if it is legal.
abbrev pub after_event : CoreState → Event → Option CoreState
after_event s (Look caller run digest (Hit id)) = when (list_any (names id digest) s.entries) (record s { entries = at_id id (pinned caller run) s.entries })
after_event s (Look caller run digest Absent) = when (not (has_digest digest s.entries)) s
after_event s (Look caller run digest (Clash id)) = when (list_any (names id digest) s.entries) s
after_event s (Keep caller run digest (Stored id)) = when (not (has_digest digest s.entries) && (id == s.next) && nat_lt s.next (2 ^ 64 - 1)) (record { entries = s.entries ++ stored caller run id digest ∷ []; next = s.next + 1 })
after_event s (Keep caller run digest (Found id)) = when (list_any (names id digest) s.entries) (record s { entries = at_id id (pinned caller run) s.entries })
after_event s (Keep caller run digest (KeepClash id)) = when (list_any (names id digest) s.entries) s
after_event s (Release caller id) = when (list_any (has_pin caller id) s.entries) (record s { entries = at_id id (released caller) s.entries })
after_event s (Sweep caller horizon dropped) = when (dropped == length (filter (is_swept horizon) s.entries)) (record s { entries = filter (λ e. not (is_swept horizon e)) s.entries })

-- The start: no entries, and no id given.
abbrev pub start : CoreState
start = record { entries = []; next = 0 }

-- The state after the events, if each is legal in the state after those before it.
abbrev pub replayed_from : CoreState → List Event → Option CoreState
replayed_from s [] = Some s
replayed_from s (e ∷ es) = option_and_then (λ t. replayed_from t es) (after_event s e)

-- The state after a history, from the start.
abbrev pub replayed : List Event → Option CoreState
replayed events = replayed_from start events

-- Each event of the history is legal in the state after those before it.
abbrev pub is_legal : List Event → Bool
is_legal events = is_some (replayed events)

-- The live entry of the id.
abbrev pub find_id : ℕ → List CoreEntry → Option CoreEntry
find_id id [] = None
find_id id (e ∷ es) = if e.id == id then Some e else find_id id es

-- The event is a sweep.
abbrev pub is_sweep : Event → Bool
is_sweep (Look who run digest answer) = false
is_sweep (Keep who run digest answer) = false
is_sweep (Release who id) = false
is_sweep (Sweep who horizon dropped) = true

-- The event is a sweep, and the id is live before it and not after.
abbrev pub takes_away : ℕ → CoreState → Event → CoreState → Bool
takes_away id s e t = is_sweep e && (is_some (find_id id s.entries) && is_none (find_id id t.entries))

-- One of the events takes the id away.
abbrev pub taken_from : ℕ → CoreState → List Event → Bool
taken_from id s [] = false
taken_from id s (e ∷ es) = option_map_or (λ t. takes_away id s e t || taken_from id t es) (after_event s e) false

-- A sweep of the history takes the id away.
abbrev pub taken_away : ℕ → List Event → Bool
taken_away id events = taken_from id start events

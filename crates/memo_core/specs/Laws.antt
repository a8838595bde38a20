-- What holds of every legal history and the state that it replays to.
use Rattle.std.specs.Prelude.{◌≡◌, ℕ, ◌<◌, ◌≤◌, ◌==◌, ◌↔◌, true, List, Some, None, IsSome, IfSome, slice_get}
use Rattle.std.specs.List.{list_any}
use Rattle.memo_core.specs.declared.entries.CoreEntry.{CoreEntry}
use Rattle.memo_core.specs.declared.state.CoreState.{CoreState}
use Rattle.memo_core.specs.declared.event.Event.{Event}
use Rattle.memo_core.specs.declared.event.Event.TheVariants.{Look, Sweep}
use Rattle.memo_core.specs.declared.event.LookAnswer.TheVariants.{Absent}
use Rattle.memo_core.specs.Machine.{find_id, after_event, taken_away}
use Rattle.memo_core.specs.History.{held, how_many, is_release, gives_pin, latest_run, stores, stores_id, says}

-- An id that a caller holds is live, with exactly as many pins of that caller as it holds.
abbrev pub PinnedIsLive : List Event → CoreState → Type 0
PinnedIsLive events s = (caller id : ℕ) → 0 < held caller id events → (e : CoreEntry) × (find_id id s.entries ≡ Some e) × (how_many (λ c. c == caller) e.pins ≡ held caller id events)

-- No caller has given up more pins of an id than it was given.
abbrev pub GivenBeforeReleased : List Event → Type 0
GivenBeforeReleased events = (caller id : ℕ) → how_many (is_release caller id) events ≤ how_many (gives_pin caller id) events

-- Two places of the list hold the same entry only if they are equal.
abbrev pub AreApart : (CoreEntry → CoreEntry → Type 0) → List CoreEntry → Type 0
AreApart alike es = (i j : ℕ) (a b : CoreEntry) → slice_get es i ≡ Some a → slice_get es j ≡ Some b → alike a b → i ≡ j

-- Ids are stored once and are below the next id, and no two live entries share an id or a digest.
pub record IdsOnce (events : List Event) (s : CoreState) : Type 0 where
  pub stored_once : (id : ℕ) → how_many (stores_id id) events ≤ 1
  pub below_next : (id : ℕ) → 0 < how_many (stores_id id) events → id < s.next
  pub ids_apart : AreApart (λ a b. a.id ≡ b.id) s.entries
  pub digests_apart : AreApart (λ a b. a.digest ≡ b.digest) s.entries

-- A sweep takes a live entry away exactly if no caller holds its id and no run that named it reaches the horizon.
abbrev pub SweepExact : List Event → CoreState → Type 0
SweepExact events s =
    (caller horizon dropped id : ℕ) (t : CoreState) → after_event s (Sweep caller horizon dropped) ≡ Some t → IsSome (find_id id s.entries)
    → (find_id id t.entries ≡ None) ↔ (((c : ℕ) → held c id events ≡ 0) × IfSome (latest_run id events) (λ run. run < horizon))

-- A look may answer `Absent` exactly if each id that was stored with the digest was taken away.
abbrev pub AbsentExact : List Event → CoreState → Type 0
AbsentExact events s =
    (caller run : ℕ) (digest : List ℕ) → IsSome (after_event s (Look caller run digest Absent)) ↔ ((id : ℕ) → list_any (stores id digest) events ≡ true → taken_away id events ≡ true)

-- A live entry has the digest that any event said of its id.
abbrev pub LiveHasSaidDigest : List Event → CoreState → Type 0
LiveHasSaidDigest events s =
    (id : ℕ) (digest : List ℕ) (e : CoreEntry) → list_any (says id digest) events ≡ true → find_id id s.entries ≡ Some e → e.digest ≡ digest

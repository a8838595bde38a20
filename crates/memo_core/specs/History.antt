-- What a history of events says about callers, ids, runs and digests.
use Rattle.std.specs.Prelude.{ℕ, ◌+◌, ◌-◌, ◌==◌, ◌&&◌, Bool, false, if◌then◌else◌, List, [], ◌∷◌, Option, Some, None, max}
use Rattle.std.specs.Str.{bytes_eq}
use Rattle.memo_core.specs.declared.event.Event.{Event}
use Rattle.memo_core.specs.declared.event.Event.TheVariants.{Look, Keep, Release, Sweep}
use Rattle.memo_core.specs.declared.event.LookAnswer.TheVariants.{Hit, Absent, Clash}
use Rattle.memo_core.specs.declared.event.KeepAnswer.TheVariants.{Stored, Found, Clash as KeepClash}

-- The event gives the caller a pin on the id.
abbrev pub gives_pin : ℕ → ℕ → Event → Bool
gives_pin caller id (Look who run digest (Hit i)) = (who == caller) && (i == id)
gives_pin caller id (Look who run digest Absent) = false
gives_pin caller id (Look who run digest (Clash i)) = false
gives_pin caller id (Keep who run digest (Stored i)) = (who == caller) && (i == id)
gives_pin caller id (Keep who run digest (Found i)) = (who == caller) && (i == id)
gives_pin caller id (Keep who run digest (KeepClash i)) = false
gives_pin caller id (Release who i) = false
gives_pin caller id (Sweep who horizon dropped) = false

-- The event is the caller's release of the id.
abbrev pub is_release : ℕ → ℕ → Event → Bool
is_release caller id (Look who run digest answer) = false
is_release caller id (Keep who run digest answer) = false
is_release caller id (Release who i) = (who == caller) && (i == id)
is_release caller id (Sweep who horizon dropped) = false

-- How many pass the test.
abbrev pub how_many : {X : Type 0} → (X → Bool) → List X → ℕ
how_many test [] = 0
how_many test (x ∷ xs) = (if test x then 1 else 0) + how_many test xs

-- How many pins of the id the caller holds after the events.
abbrev pub held : ℕ → ℕ → List Event → ℕ
held caller id events = how_many (gives_pin caller id) events - how_many (is_release caller id) events

-- The run in which the event stored, hit or found the id.
abbrev pub run_of : ℕ → Event → Option ℕ
run_of id (Look who run digest (Hit i)) = if i == id then Some run else None
run_of id (Look who run digest Absent) = None
run_of id (Look who run digest (Clash i)) = None
run_of id (Keep who run digest (Stored i)) = if i == id then Some run else None
run_of id (Keep who run digest (Found i)) = if i == id then Some run else None
run_of id (Keep who run digest (KeepClash i)) = None
run_of id (Release who i) = None
run_of id (Sweep who horizon dropped) = None

-- The larger of two runs, if both are there.
abbrev pub larger : Option ℕ → Option ℕ → Option ℕ
larger None b = b
larger (Some a) None = Some a
larger (Some a) (Some b) = Some (max a b)

-- The largest run in which an event stored, hit or found the id.
abbrev pub latest_run : ℕ → List Event → Option ℕ
latest_run id [] = None
latest_run id (e ∷ es) = larger (run_of id e) (latest_run id es)

-- The event stored the id, with the digest.
abbrev pub stores : ℕ → List ℕ → Event → Bool
stores id digest (Look who run d answer) = false
stores id digest (Keep who run d (Stored i)) = (i == id) && bytes_eq d digest
stores id digest (Keep who run d (Found i)) = false
stores id digest (Keep who run d (KeepClash i)) = false
stores id digest (Release who i) = false
stores id digest (Sweep who horizon dropped) = false

-- The event stored the id.
abbrev pub stores_id : ℕ → Event → Bool
stores_id id (Look who run d answer) = false
stores_id id (Keep who run d (Stored i)) = i == id
stores_id id (Keep who run d (Found i)) = false
stores_id id (Keep who run d (KeepClash i)) = false
stores_id id (Release who i) = false
stores_id id (Sweep who horizon dropped) = false

-- The event says that the entry of the id has the digest.
abbrev pub says : ℕ → List ℕ → Event → Bool
says id digest (Look who run d (Hit i)) = (i == id) && bytes_eq d digest
says id digest (Look who run d Absent) = false
says id digest (Look who run d (Clash i)) = (i == id) && bytes_eq d digest
says id digest (Keep who run d (Stored i)) = (i == id) && bytes_eq d digest
says id digest (Keep who run d (Found i)) = (i == id) && bytes_eq d digest
says id digest (Keep who run d (KeepClash i)) = (i == id) && bytes_eq d digest
says id digest (Release who i) = false
says id digest (Sweep who horizon dropped) = false

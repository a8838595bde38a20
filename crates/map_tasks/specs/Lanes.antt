-- What a lane holds of a memo.
use Rattle.std.specs.Prelude.{◌≡◌, ℕ, ◌<◌, ◌≤◌, ◌⊎◌, Bool, true, false, List, ◌++◌, All}
use Rattle.std.specs.List.{list_any, IsAmong}
use Rattle.std.specs.Str.{bytes_eq}
use Rattle.memo_core.specs.declared.event.Event.{Event}
use Rattle.memo_core.specs.declared.event.Event.TheVariants.{Look, Keep, Release, Sweep}
use Rattle.memo_core.specs.declared.event.LookAnswer.TheVariants.{Hit, Absent, Clash}
use Rattle.memo_core.specs.declared.event.KeepAnswer.TheVariants.{Stored, Found, Clash as KeepClash}
use Rattle.memo_core.specs.History.{says}
use Rattle.memo_server.specs.Callers.{frees}
use Rattle.pin_table.specs.Views.{CallerView}
use Rattle.pin_table.specs.Known.{known_at, held_at, IsWorn}
use Rattle.pin_table.specs.Covers.{PinName, count, gave}
use Rattle.pin_table.specs.OwnEvents.{there, gained, gain_at, is_miss}
use Rattle.map_tasks.specs.Texts.{TextView, IsMappedSo, pins_in, digest_of_input}

-- A lane: its caller, the texts that it holds, in any order, and pins that no text keeps, which are given up next.
pub record LaneView : Type 0 where
  pub caller : CallerView
  pub texts : List TextView
  pub spare : List PinName

-- All pins of a lane.
abbrev pub pins_of : LaneView → List PinName
pins_of v = pins_in v.texts ++ v.spare

-- If all texts were mapped into this number of parts at this setting, all texts still are.
abbrev pub StayMappedSo : List TextView → List TextView → Type 0
StayMappedSo old new = (parts setting : ℕ) → All (IsMappedSo parts setting) old → All (IsMappedSo parts setting) new

-- An answer for the digest by an entry of another input.
abbrev pub clashes : List ℕ → Event → Bool
clashes digest (Look who run d (Hit i)) = false
clashes digest (Look who run d Absent) = false
clashes digest (Look who run d (Clash i)) = bytes_eq digest d
clashes digest (Keep who run d (Stored i)) = false
clashes digest (Keep who run d (Found i)) = false
clashes digest (Keep who run d (KeepClash i)) = bytes_eq digest d
clashes digest (Release who i) = false
clashes digest (Sweep who horizon dropped) = false

-- The caller's own events gained a look for the digest that did not hit, or the lock of its shard was shown worn.
abbrev pub LookedFirst : List ℕ → CallerView → CallerView → Type 0
LookedFirst digest old new = (list_any (is_miss digest) (gained digest old new) ≡ true) ⊎ IsWorn (there digest old) new

-- The caller's own events gained a pin on an entry with the digest and gave up no pin on it.
pub record Pinned (digest : List ℕ) (old new : CallerView) : Type 0 where
  pub id : ℕ
  pub got : list_any (gave id digest) (gained digest old new) ≡ true
  pub still : list_any (frees id) (gained digest old new) ≡ false

-- They gained such a pin, or a clash for the digest, or the lock of its shard was shown worn.
abbrev pub KeptOrClashed : List ℕ → CallerView → CallerView → Type 0
KeptOrClashed digest old new = Pinned digest old new ⊎ ((list_any (clashes digest) (gained digest old new) ≡ true) ⊎ IsWorn (there digest old) new)

-- The release of a removed pin is among the caller's own events of its shard, or the shard's lock was shown worn.
abbrev pub ReleasesAll : LaneView → LaneView → Type 0
ReleasesAll old new = (s id : ℕ) → count s id (pins_of new) < count s id (pins_of old) → (list_any (frees id) (gain_at s old.caller new.caller) ≡ true) ⊎ IsWorn s new.caller

-- One of these texts has the digest that an event of the caller's at the shard gave for the id.
pub record BelongsToText (s id : ℕ) (c : CallerView) (texts : List TextView) : Type 0 where
  pub text : TextView
  pub among : IsAmong texts text
  pub said : list_any (says id (digest_of_input text.input)) (known_at s c).mine ≡ true

-- In a shard whose lock was not shown worn, an id that the caller holds is held once, and belongs to a text.
pub record HoldsOnce (c : CallerView) (texts : List TextView) : Type 0 where
  pub once : (s : ℕ) → (known_at s c).shown ≡ 0 → (id : ℕ) → held_at s id c ≤ 1
  pub owned : (s : ℕ) → (known_at s c).shown ≡ 0 → (id : ℕ) → 0 < held_at s id c → BelongsToText s id c texts

-- What a caller's own events gained since an earlier time, and which inputs it knows by them.
use Rattle.std.specs.Prelude.{◌≡◌, ℕ, ◌<◌, ◌⊎◌, Bool, true, false, List, [], length, drop}
use Rattle.std.specs.List.{list_any}
use Rattle.std.specs.Str.{bytes_eq}
use Rattle.memo_core.specs.declared.event.Event.{Event}
use Rattle.memo_core.specs.declared.event.Event.TheVariants.{Look, Keep, Release, Sweep}
use Rattle.memo_core.specs.declared.event.LookAnswer.TheVariants.{Hit, Absent, Clash}
use Rattle.memo_core.specs.declared.event.KeepAnswer.TheVariants.{Stored, Found, Clash as KeepClash}
use Rattle.memo_core.specs.History.{says}
use Rattle.pin_table.specs.Views.{CallerView}
use Rattle.pin_table.specs.Known.{known_at, held_at, IsWorn}
use Rattle.pin_table.specs.Placing.{shard_at}
use Rattle.pin_table.specs.Covers.{Got}

-- The caller's own events of a shard since then.
abbrev pub gain_at : ℕ → CallerView → CallerView → List Event
gain_at s old new = drop (length (known_at s old).mine) (known_at s new).mine

-- The shard of the inputs with this digest.
abbrev pub there : List ℕ → CallerView → ℕ
there digest c = shard_at digest (length c.locks)

-- The caller's own events of the digest's shard since then.
abbrev pub gained : List ℕ → CallerView → CallerView → List Event
gained digest old new = gain_at (there digest old) old new

-- A look for the digest that hit.
abbrev pub is_hit : List ℕ → Event → Bool
is_hit digest (Look who run d (Hit i)) = bytes_eq digest d
is_hit digest (Look who run d Absent) = false
is_hit digest (Look who run d (Clash i)) = false
is_hit digest (Keep who run d answer) = false
is_hit digest (Release who i) = false
is_hit digest (Sweep who horizon dropped) = false

-- A look for the digest that did not hit.
abbrev pub is_miss : List ℕ → Event → Bool
is_miss digest (Look who run d (Hit i)) = false
is_miss digest (Look who run d Absent) = bytes_eq digest d
is_miss digest (Look who run d (Clash i)) = bytes_eq digest d
is_miss digest (Keep who run d answer) = false
is_miss digest (Release who i) = false
is_miss digest (Sweep who horizon dropped) = false

-- An answer by an entry of another input.
abbrev pub is_clash : Event → Bool
is_clash (Look who run d (Hit i)) = false
is_clash (Look who run d Absent) = false
is_clash (Look who run d (Clash i)) = true
is_clash (Keep who run d (Stored i)) = false
is_clash (Keep who run d (Found i)) = false
is_clash (Keep who run d (KeepClash i)) = true
is_clash (Release who i) = false
is_clash (Sweep who horizon dropped) = false

-- An event of the caller's there clashed since then, or it was shown that the lock is worn.
abbrev pub MetAt : ℕ → CallerView → CallerView → Type 0
MetAt s old new = (list_any is_clash (gain_at s old new) ≡ true) ⊎ IsWorn s new

-- The same at some shard.
abbrev pub Met : CallerView → CallerView → Type 0
Met old new = (s : ℕ) × MetAt s old new

-- The caller holds what it held, and these are its own events of the digest's shard since then.
pub record Quiet (digest : List ℕ) (es : List Event) (old new : CallerView) : Type 0 where
  pub got : Got old [] new
  pub gain : gained digest old new ≡ es

-- The caller holds an id of the digest's shard, whose entry has the digest by an event of the caller's.
pub record IsKnown (digest : List ℕ) (c : CallerView) : Type 0 where
  pub id : ℕ
  pub held : 0 < held_at (there digest c) id c
  pub said : list_any (says id digest) (known_at (there digest c) c).mine ≡ true

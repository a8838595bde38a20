-- The pins that an object holds, compared with what its caller holds.
use Rattle.std.specs.Prelude.{◌≡◌, ℕ, ◌+◌, ◌≤◌, ◌==◌, ◌&&◌, Bool, true, List, [], ◌∷◌, ◌++◌, length, map}
use Rattle.std.specs.List.{list_any}
use Rattle.memo_core.specs.declared.event.Event.{Event}
use Rattle.memo_core.specs.History.{how_many, says}
use Rattle.memo_server.specs.Callers.{gives}
use Rattle.pin_table.specs.Views.{CallerView, PinView}
use Rattle.pin_table.specs.Known.{known_at, held_at, IsWorn}
use Rattle.pin_table.specs.Placing.{shard_at}
use Rattle.pin_table.specs.declared.answers.Looked.{Looked}
use Rattle.pin_table.specs.declared.answers.Looked.TheVariants.{Hit, Absent, Clash}
use Rattle.pin_table.specs.declared.answers.Kept.{Kept}
use Rattle.pin_table.specs.declared.answers.Kept.TheVariants.{Stored, Found, Clash as KeepClash}

-- A pin by its parts: its caller, the shard and the id of its entry, and the digest of the entry's input.
pub record PinName : Type 0 where
  pub caller : ℕ
  pub shard : ℕ
  pub id : ℕ
  pub digest : List ℕ

-- The pin is on the shard's id.
abbrev pub is_on : ℕ → ℕ → PinName → Bool
is_on s id p = (p.shard == s) && (p.id == id)

-- How often the shard's id is among the pins.
abbrev pub count : ℕ → ℕ → List PinName → ℕ
count s id ps = how_many (is_on s id) ps

-- The event gave a pin on the id, whose entry has the digest.
abbrev pub gave : ℕ → List ℕ → Event → Bool
gave id digest e = gives id e && says id digest e

-- The pin is the caller's and in the shard of its digest, and an event of the caller's there gave it.
pub record IsGiven (c : CallerView) (p : PinName) : Type 0 where
  pub caller : p.caller ≡ c.number
  pub shard : p.shard ≡ shard_at p.digest (length c.locks)
  pub given : list_any (gave p.id p.digest) (known_at p.shard c).mine ≡ true

-- Each of the pins is such a pin.
abbrev pub AreGiven : CallerView → List PinName → Type 0
AreGiven c [] = Unit {0}
AreGiven c (p ∷ ps) = IsGiven c p × AreGiven c ps

-- The pins are covered by what their caller holds.
pub record Covered (c : CallerView) (ps : List PinName) : Type 0 where
  pub given : AreGiven c ps
  pub held : (s id : ℕ) → count s id ps ≤ held_at s id c

-- The same caller, after some turns.
pub record IsLater (old new : CallerView) : Type 0 where
  pub locks : new.locks ≡ old.locks
  pub number : new.number ≡ old.number
  pub count : length new.shards ≡ length old.shards
  pub seen : (s : ℕ) → (gain : List Event) × ((known_at s new).seen ≡ (known_at s old).seen ++ gain)
  pub mine : (s : ℕ) → (gain : List Event) × ((known_at s new).mine ≡ (known_at s old).mine ++ gain)
  pub shown : (s : ℕ) → (known_at s new).shown ≡ 0 → (known_at s old).shown ≡ 0
  pub worn : (s : ℕ) → IsWorn s old → IsWorn s new

-- The caller holds these pins in addition to what it held, even at worn locks.
pub record Got (old : CallerView) (ps : List PinName) (new : CallerView) : Type 0 where
  pub later : IsLater old new
  pub held : (s id : ℕ) → held_at s id new ≡ held_at s id old + count s id ps

-- While pins became others, what the caller holds beyond them stayed, or grew in a shard whose lock is worn.
pub record Balanced (old : CallerView) (ps : List PinName) (new : CallerView) (qs : List PinName) : Type 0 where
  pub later : IsLater old new
  pub least : (s id : ℕ) → held_at s id old + count s id qs ≤ held_at s id new + count s id ps
  pub exact : (s : ℕ) → (known_at s new).shown ≡ 0 → (id : ℕ) → held_at s id old + count s id qs ≡ held_at s id new + count s id ps

-- The pins are covered, and the caller holds nothing beyond them if no lock was shown worn.
pub record Backed (c : CallerView) (ps : List PinName) : Type 0 where
  pub covered : Covered c ps
  pub exact : (s : ℕ) → (known_at s c).shown ≡ 0 → (id : ℕ) → held_at s id c ≡ count s id ps

module _ {I O : Type 0} (digest_of : I → List ℕ) where
  -- The parts of a pin.
  abbrev pub name_of : PinView I O → PinName
  name_of p = record { caller = p.caller; shard = p.shard; id = p.id; digest = digest_of p.input }

  -- The pins of a list, by their parts.
  abbrev pub names_of : List (PinView I O) → List PinName
  names_of ps = map name_of ps

  module _ {R : Type 0} where
    -- The pin that a look gave.
    abbrev pub looked_pins : Looked R I O → List PinName
    looked_pins (Hit p) = name_of p ∷ []
    looked_pins Absent = []
    looked_pins (Clash e) = []

    -- The pin that a keep gave.
    abbrev pub kept_pins : Kept R I O → List PinName
    kept_pins (Stored p) = name_of p ∷ []
    kept_pins (Found p) = name_of p ∷ []
    kept_pins (KeepClash e i o) = []

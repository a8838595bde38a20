-- The model of a shard's entries.
use Rattle.std.specs.Prelude.{◌≡◌, ℕ, ◌+◌, ◌<◌, zero, suc, max, List, [], ◌∷◌, ◌++◌, map, length, Bool, ◌&&◌, ◌==◌, nat_lt, if◌then◌else◌, Option, Some, None, slice_get}
use Rattle.std.specs.Str.{bytes_eq}
use Rattle.std.specs.List.{list_any}
use Rattle.std.specs.Map.{lookup}
use Rattle.memo_core.specs.Pinned.{without_first}
use Rattle.memo_core.specs.declared.entries.CoreEntry.{CoreEntry}
use Rattle.memo_core.specs.declared.state.CoreState.{CoreState}

-- An entry as its holders see it.
pub record EntryView (I O : Type 0) : Type 0 where
  pub id : ℕ
  pub input : I
  pub out : O

-- A live entry: what the machine knows of it, with its input and its result.
pub record LiveView (I O : Type 0) : Type 0 where
  pub id : ℕ
  pub used : ℕ
  pub pins : List ℕ
  pub input : I
  pub out : O

module _ {I O : Type 0} where
  -- An entry of these parts.
  abbrev pub entry_view : ℕ → I → O → EntryView I O
  entry_view id input out = record { id = id; input = input; out = out }

  -- What the holders see of a live entry.
  abbrev pub entry_of : LiveView I O → EntryView I O
  entry_of l = record { id = l.id; input = l.input; out = l.out }

  -- The live entry of a shared one, used in a run and held by these callers.
  abbrev pub live_view : EntryView I O → ℕ → List ℕ → LiveView I O
  live_view s run pins = record { id = s.id; used = run; pins = pins; input = s.input; out = s.out }

  -- The entry with one more pin, of a caller in a run.
  abbrev pub pinned_view : ℕ → ℕ → LiveView I O → LiveView I O
  pinned_view caller run l = record l { used = max l.used run; pins = l.pins ++ caller ∷ [] }

  -- The entry without its first pin of the caller.
  abbrev pub released_view : ℕ → LiveView I O → LiveView I O
  released_view caller l = record l { pins = without_first caller l.pins }

  -- The entry has the id and a pin of the caller.
  abbrev pub has_pin_view : ℕ → ℕ → LiveView I O → Bool
  has_pin_view caller id l = (l.id == id) && list_any (λ c. c == caller) l.pins

  -- The entry has no pins, and was last used below the horizon.
  abbrev pub is_stale : ℕ → LiveView I O → Bool
  is_stale horizon l = (length l.pins == 0) && nat_lt l.used horizon

  -- The entries, with f at the entry of the id.
  abbrev pub at_live : ℕ → (LiveView I O → LiveView I O) → List (List ℕ × LiveView I O) → List (List ℕ × LiveView I O)
  at_live id f [] = []
  at_live id f (e ∷ es) = (e.0, (if e.1.id == id then f e.1 else e.1)) ∷ at_live id f es

  -- The entries, with f at the entry of place i.
  abbrev pub update_at : ℕ → (LiveView I O → LiveView I O) → List (List ℕ × LiveView I O) → List (List ℕ × LiveView I O)
  update_at i f [] = []
  update_at zero f (e ∷ es) = (e.0, f e.1) ∷ es
  update_at (suc i) f (e ∷ es) = e ∷ update_at i f es

  -- The live entry that has the digest.
  abbrev pub found : List ℕ → List (List ℕ × LiveView I O) → Option (LiveView I O)
  found digest live = lookup (bytes_eq digest) live

  -- A place is that of the digest's entry, and there is none if no entry has the digest.
  abbrev pub Finds : List ℕ → List (List ℕ × LiveView I O) → Option ℕ → Type 0
  Finds digest live None = found digest live ≡ None
  Finds digest live (Some i) = (l : LiveView I O) × (slice_get live i ≡ Some (digest, l)) × (found digest live ≡ Some l)

  -- Ids rise with the places.
  abbrev pub HasRisingIds : List (List ℕ × LiveView I O) → Type 0
  HasRisingIds live = (i j : ℕ) (k q : List ℕ) (a b : LiveView I O) → slice_get live i ≡ Some (k, a) → slice_get live j ≡ Some (q, b) → i < j → a.id < b.id

  -- Each entry is at its input's digest.
  abbrev pub AreKeyed : (I → List ℕ) → List (List ℕ × LiveView I O) → Type 0
  AreKeyed digest_of [] = Unit {0}
  AreKeyed digest_of (e ∷ es) = (digest_of e.1.input ≡ e.0) × AreKeyed digest_of es

  -- The pins of all entries.
  abbrev pub total_pins : List (List ℕ × LiveView I O) → ℕ
  total_pins [] = 0
  total_pins (e ∷ es) = length e.1.pins + total_pins es

  -- What the machine knows of the entries.
  abbrev pub core_entries : List (List ℕ × LiveView I O) → List CoreEntry
  core_entries live = map (λ e. record { id = e.1.id; digest = e.0; used = e.1.used; pins = e.1.pins }) live

  -- What the machine knows of a shard.
  abbrev pub core_state : List (List ℕ × LiveView I O) → ℕ → CoreState
  core_state live next = record { entries = core_entries live; next = next }

-- What it means to hold a merge, and which pins holds have.
use Rattle.std.specs.Prelude.{◌≡◌, ℕ, Bool, true, false, List, [], ◌∷◌, ◌++◌, Option, Some, None}
use Rattle.std.specs.List.{list_any}
use Rattle.sheets.specs.Sheets.{SheetOf}
use Rattle.pin_table.specs.Views.{CallerView}
use Rattle.pin_table.specs.Covers.{PinName, AreGiven, Got, name_of, gave}
use Rattle.pin_table.specs.OwnEvents.{MetAt, there, gained}
use Rattle.tree_laws.specs.Pairs.{PairOf}
use Rattle.tree_laws.specs.declared.hold.Hold.{Hold}
use Rattle.tree_laws.specs.declared.hold.Hold.TheVariants.{Pinned, Loose}

module _ {J V M : Type 0} where
  -- The sheet of a hold.
  abbrev pub sheet_of : Hold J V M → SheetOf V
  sheet_of (Pinned p) = p.out
  sheet_of (Loose s) = s

  -- The memo did not take the sheet.
  abbrev pub is_loose : Hold J V M → Bool
  is_loose (Pinned p) = false
  is_loose (Loose s) = true

  -- Whether the hold, if there is one, is loose.
  abbrev pub some_loose : Option (Hold J V M) → Bool
  some_loose None = false
  some_loose (Some h) = is_loose h

  module _ (digest_of : PairOf V → List ℕ) where
    -- The pins of a hold.
    abbrev pub hold_pins : Hold J V M → List PinName
    hold_pins (Pinned p) = name_of digest_of p ∷ []
    hold_pins (Loose s) = []

    -- The pins of a hold, if there is one.
    abbrev pub some_pins : Option (Hold J V M) → List PinName
    some_pins None = []
    some_pins (Some h) = hold_pins h

    -- The pins of all holds of a list.
    abbrev pub all_pins : List (Hold J V M) → List PinName
    all_pins [] = []
    all_pins (h ∷ hs) = hold_pins h ++ all_pins hs

    -- The entry of the pin has this pair as its input, and an event of the caller's since then gave the pin.
    abbrev pub IsPinOf : PairOf V → CallerView → CallerView → Hold J V M → Type 0
    IsPinOf pair old new (Pinned p) = (p.input ≡ pair) × (list_any (gave p.id (digest_of pair)) (gained (digest_of pair) old new) ≡ true)
    IsPinOf pair old new (Loose s) = Unit {0}

    -- A hold on the merge of the pair. The caller holds its pin in addition to what it held; if it has no pin, an event
    -- of the caller's in the shard of the pair's digest clashed, or the caller was shown that the lock is worn.
    pub record IsHeld (pair : PairOf V) (old new : CallerView) (h : Hold J V M) : Type 0 where
      pub got : Got old (hold_pins h) new
      pub given : AreGiven new (hold_pins h)
      pub pinned : IsPinOf pair old new h
      pub loose : is_loose h ≡ true → MetAt (there (digest_of pair) old) old new

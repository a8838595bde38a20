-- How the texts of a lane are kept, by their digests and with the calm ones first.
use Rattle.std.specs.Prelude.{◌≡◌, ◌≢◌, ℕ, ◌+◌, ◌<◌, ◌≤◌, ◌&&◌, nat_eq, Bool, List, [], ◌∷◌, ◌++◌, length, map, take, Option, Some, None, All, slice_get}
use Rattle.std.specs.List.Sorted.{IsPermutation}
use Rattle.std.specs.Str.{bytes_eq}
use Rattle.map_tasks.specs.Texts.{TextView, TextFits, IsQuiet, IsMappedSo, AreSound, used_of, came_of, gone_of, digest_of_input, rest_of, finished, pins_in, IsHeld, total_of}
use Rattle.pin_table.specs.Covers.{PinName, count}
use Rattle.map_tasks.specs.declared.held.Finish.{Finish}
use Rattle.map_tasks.specs.declared.held.Finish.TheVariants.{Settle, Revert}

-- Texts by their keys, of which the first `calm` are calm, and the next number for a key.
pub record TableView : Type 0 where
  pub rows : List ((List ℕ × ℕ) × TextView)
  pub calm : ℕ
  pub next : ℕ

-- The texts of the rows.
abbrev pub texts_in : List ((List ℕ × ℕ) × TextView) → List TextView
texts_in rows = map (λ r. r.1) rows

-- The key is this digest with this number.
abbrev pub is_key : List ℕ → ℕ → List ℕ × ℕ → Bool
is_key digest n k = bytes_eq digest k.0 && nat_eq n k.1

-- A text is at its digest, under a number below the next one, and has a pin at most under 0.
abbrev pub IsKeyed : ℕ → (List ℕ × ℕ) × TextView → Type 0
IsKeyed next r = (r.0.0 ≡ digest_of_input r.1.input) × (r.0.1 < next) × (0 < r.0.1 → r.1.pins ≡ [])

-- The calm texts have no notes, each text is at its digest, and all are sound.
pub record IsTable (calm next : ℕ) (rows : List ((List ℕ × ℕ) × TextView)) : Type 0 where
  pub within : calm ≤ length rows
  pub some : 0 < next
  pub keyed : All (IsKeyed next) rows
  pub quiet : All (λ r. IsQuiet r.1) (take calm rows)
  pub sound : AreSound (texts_in rows)

-- The text is at the place, and its numbers are the text's totals.
pub record IsAt (t : List (List ℕ)) (rows : List ((List ℕ × ℕ) × TextView)) (i : ℕ) : Type 0 where
  pub row : (List ℕ × ℕ) × TextView
  pub at : slice_get rows i ≡ Some row
  pub is : row.1.input.text ≡ t
  pub fits : TextFits row.1
  pub used : used_of t (texts_in rows) ≡ row.1.used
  pub came : came_of t (texts_in rows) ≡ row.1.came
  pub gone : gone_of t (texts_in rows) ≡ row.1.gone

-- The place is the text's, or the text is at no place.
abbrev pub FindsText : List (List ℕ) → List ((List ℕ × ℕ) × TextView) → Option ℕ → Type 0
FindsText t rows (Some i) = IsAt t rows i
FindsText t rows None = All (λ r. r.1.input.text ≢ t) rows

-- The text at a place is now at this one, behind the calm ones.
pub record Touches (place to : ℕ) (old new : TableView) : Type 0 where
  pub same : IsPermutation old.rows new.rows
  pub within : (new.calm ≤ to) × (to < length new.rows)
  pub here : (r : (List ℕ × ℕ) × TextView) → slice_get old.rows place ≡ Some r → slice_get new.rows to ≡ Some r
  pub next : new.next ≡ old.next

-- Some of the pins became those of one more text, and the others were left.
pub record SplitsPins (pins left : List PinName) (old new : List TextView) : Type 0 where
  pub own : List PinName
  pub split : own ++ left ≡ pins
  pub texts : pins_in new ≡ pins_in old ++ own

-- One more text is final: it stays, or it is removed, and was there once.
abbrev pub FinishesNext : Finish → TableView → TableView → Option TextView → Type 0
FinishesNext how old new None = (e : TextView) × (rest : List TextView) × TextFits e × (0 < rest_of how e) × IsPermutation (texts_in old.rows) (e ∷ rest) × IsPermutation (texts_in new.rows) (finished how e ∷ rest) × (new.calm ≡ old.calm + 1) × (length new.rows ≡ length old.rows)
FinishesNext how old new (Some e) = TextFits e × (rest_of how e ≡ 0) × IsPermutation (texts_in old.rows) (e ∷ texts_in new.rows) × (new.calm ≡ old.calm) × (length new.rows + 1 ≡ length old.rows) × ((t : List (List ℕ)) → total_of t (λ _. 1) (texts_in old.rows) ≤ 1)

-- The final number of each text is kept: after settling, the leaves that used it and came, less those that left; after
-- reverting, those that used it.
abbrev pub KeepsRest : Finish → List TextView → List TextView → Type 0
KeepsRest Settle old new = (t : List (List ℕ)) → (used_of t new + came_of t new) + gone_of t old ≡ (used_of t old + came_of t old) + gone_of t new
KeepsRest Revert old new = (t : List (List ℕ)) → used_of t new ≡ used_of t old

-- No new text is held, and a text that is held has its pins.
pub record KeepsPins (old new : List TextView) : Type 0 where
  pub held : (t : List (List ℕ)) → IsHeld t new → IsHeld t old
  pub pins : (t : List (List ℕ)) → IsHeld t new → (s id : ℕ) → total_of t (λ e. count s id e.pins) new ≡ total_of t (λ e. count s id e.pins) old

-- The same by its totals: each text keeps its final number, texts stay mapped in the same way, pins stay, and one text
-- less is not final.
pub record FinishesOne (how : Finish) (old new : TableView) : Type 0 where
  pub rest : KeepsRest how (texts_in old.rows) (texts_in new.rows)
  pub mapped : (parts setting : ℕ) → All (IsMappedSo parts setting) (texts_in old.rows) → All (IsMappedSo parts setting) (texts_in new.rows)
  pub pins : KeepsPins (texts_in old.rows) (texts_in new.rows)
  pub less : new.calm + length old.rows ≡ old.calm + length new.rows + 1

-- All notes are final: each text keeps its final number, texts stay mapped in the same way, pins stay, no text has
-- notes, and all are sound.
pub record FinishesAll (how : Finish) (old new : List TextView) : Type 0 where
  pub rest : KeepsRest how old new
  pub mapped : (parts setting : ℕ) → All (IsMappedSo parts setting) old → All (IsMappedSo parts setting) new
  pub pins : KeepsPins old new
  pub quiet : All IsQuiet new
  pub sound : AreSound new

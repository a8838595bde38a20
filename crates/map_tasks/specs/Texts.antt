-- The texts that a lane holds, and what becomes of them.
use Rattle.std.specs.Prelude.{◌≡◌, ℕ, ◌+◌, ◌-◌, ◌^◌, ◌<◌, ◌≤◌, Bool, cond, List, [], ◌∷◌, ◌++◌, Option, Some, None, All}
use Rattle.std.specs.List.{sum_by, flat_map}
use Rattle.std.specs.List.Sorted.{IsPermutation}
use Rattle.std.specs.Str.{bytes_eq}
use Rattle.std.specs.Cmp.Lexicographic.{pointwise}
use Rattle.memo_core.specs.History.{how_many}
use Rattle.pin_table.specs.Views.{PinView}
use Rattle.pin_table.specs.Covers.{PinName, name_of, count}
use Rattle.map_tasks.specs.Inputs.{InputView, input_digest}
use Rattle.map_tasks.specs.declared.held.Finish.{Finish}
use Rattle.map_tasks.specs.declared.held.Finish.TheVariants.{Settle, Revert}

-- A text that a lane holds, with its input; how many leaves used it when the notes were last made final, and how many
-- came and left since; and its pin, if it has one.
pub record TextView : Type 0 where
  pub input : InputView
  pub used : ℕ
  pub came : ℕ
  pub gone : ℕ
  pub pins : List PinName

-- The digest of an input.
abbrev pub digest_of_input : InputView → List ℕ
digest_of_input i = input_digest i.text

-- The names of a pin that may be there.
abbrev pub maybe_pins : {O : Type 0} → Option (PinView InputView O) → List PinName
maybe_pins None = []
maybe_pins (Some p) = name_of digest_of_input p ∷ []

-- No more leaves left than were there, the numbers fit, some leaf uses or used the text, and its pin has its digest.
pub record TextFits (e : TextView) : Type 0 where
  pub went : e.gone ≤ e.used
  pub fits : e.used + e.came < 2 ^ 64
  pub some : 0 < e.used + e.came
  pub named : All (λ p. p.digest ≡ digest_of_input e.input) e.pins

-- Two texts are equal.
abbrev pub same_text : List (List ℕ) → List (List ℕ) → Bool
same_text t u = pointwise bytes_eq t u

-- A number of the text, 0 of every other.
abbrev pub of_text : List (List ℕ) → (TextView → ℕ) → TextView → ℕ
of_text t f e = cond (same_text t e.input.text) (f e) 0

-- The sum of a number over the rows of a text.
abbrev pub total_of : List (List ℕ) → (TextView → ℕ) → List TextView → ℕ
total_of t f es = sum_by (of_text t f) es

-- How many leaves used the text when the notes were last made final.
abbrev pub used_of : List (List ℕ) → List TextView → ℕ
used_of t es = total_of t (λ e. e.used) es

-- How many leaves of the text came since.
abbrev pub came_of : List (List ℕ) → List TextView → ℕ
came_of t es = total_of t (λ e. e.came) es

-- How many leaves of the text left since.
abbrev pub gone_of : List (List ℕ) → List TextView → ℕ
gone_of t es = total_of t (λ e. e.gone) es

-- The lane holds the text, even if all its leaves have left since the notes were last made final.
abbrev pub IsHeld : List (List ℕ) → List TextView → Type 0
IsHeld t es = 0 < used_of t es + came_of t es

-- No leaf of the text came or left.
abbrev pub IsQuiet : TextView → Type 0
IsQuiet e = (e.came ≡ 0) × (e.gone ≡ 0)

-- The text is mapped into this number of parts at this setting.
abbrev pub IsMappedSo : ℕ → ℕ → TextView → Type 0
IsMappedSo parts setting e = (e.input.parts ≡ parts) × (e.input.setting ≡ setting)

-- The pins of all texts.
abbrev pub pins_in : List TextView → List PinName
pins_in es = flat_map (λ e. e.pins) es

-- A text that was held and still is has its pins.
abbrev pub StayPinned : List TextView → List TextView → Type 0
StayPinned old new = (t : List (List ℕ)) → IsHeld t old → IsHeld t new → (s id : ℕ) → total_of t (λ e. count s id e.pins) new ≡ total_of t (λ e. count s id e.pins) old

-- One more leaf of the text came, and no other number changed.
pub record Comes (t : List (List ℕ)) (old new : List TextView) : Type 0 where
  pub used : (u : List (List ℕ)) → used_of u new ≡ used_of u old
  pub came : (u : List (List ℕ)) → came_of u new ≡ came_of u old + cond (same_text u t) 1 0
  pub gone : (u : List (List ℕ)) → gone_of u new ≡ gone_of u old

-- One more leaf of the text left, and no other number changed.
pub record Leaves (t : List (List ℕ)) (old new : List TextView) : Type 0 where
  pub used : (u : List (List ℕ)) → used_of u new ≡ used_of u old
  pub came : (u : List (List ℕ)) → came_of u new ≡ came_of u old
  pub gone : (u : List (List ℕ)) → gone_of u new ≡ gone_of u old + cond (same_text u t) 1 0

-- All notes are final: each text is used by the leaves that were there and came, less those that left, and no text is
-- held that no leaf uses.
pub record Settles (old new : List TextView) : Type 0 where
  pub used : (u : List (List ℕ)) → used_of u new + gone_of u old ≡ used_of u old + came_of u old
  pub quiet : All IsQuiet new
  pub some : All (λ e. 0 < e.used) new

-- All notes are undone: each text is used as when the notes were last made final, and no other text is held.
pub record Reverts (old new : List TextView) : Type 0 where
  pub used : (u : List (List ℕ)) → used_of u new ≡ used_of u old
  pub quiet : All IsQuiet new
  pub some : All (λ e. 0 < e.used) new

-- Each text fits and is there once, and at most one pin has a digest.
pub record AreSound (es : List TextView) : Type 0 where
  pub fits : All TextFits es
  pub once : (t : List (List ℕ)) → total_of t (λ _. 1) es ≤ 1
  pub pinned : (d : List ℕ) → how_many (λ p. bytes_eq d p.digest) (pins_in es) ≤ 1

-- How many leaves use the text once its notes are final.
abbrev pub rest_of : Finish → TextView → ℕ
rest_of Settle e = (e.used + e.came) - e.gone
rest_of Revert e = e.used

-- The text with that number made final.
abbrev pub finished : Finish → TextView → TextView
finished how e = record e { used = rest_of how e; came = 0; gone = 0 }

-- A text was there, and its numbers became these; everything else stayed.
pub record Changes (t : List (List ℕ)) (how : TextView → TextView) (old new : List TextView) : Type 0 where
  pub text : TextView
  pub rest : List TextView
  pub is : text.input.text ≡ t
  pub before : IsPermutation old (text ∷ rest)
  pub after : IsPermutation new (how text ∷ rest)

-- One more leaf came.
abbrev pub with_came : TextView → TextView
with_came e = record e { came = e.came + 1 }

-- One more leaf left.
abbrev pub with_gone : TextView → TextView
with_gone e = record e { gone = e.gone + 1 }

-- A text whose first leaf has just come.
abbrev pub new_text : InputView → List PinName → TextView
new_text input pins = record { input = input; used = 0; came = 1; gone = 0; pins = pins }

-- The text of the input, whose first leaf has just come, is there in addition to those before.
pub record BringsText (input : InputView) (old new : List TextView) : Type 0 where
  pub pins : List PinName
  pub texts : new ≡ old ++ new_text input pins ∷ []

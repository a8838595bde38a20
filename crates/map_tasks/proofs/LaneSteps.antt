-- What a lane's calls make of its texts and of its pins.
use Rattle.std.proofs.Common.{◌≡◌, ℕ, List, [], ◌∷◌, ◌++◌, refl, sym, subst, arith, append-nil}
use Rattle.std.specs.List.{All}
use Rattle.std.proofs.lemmas.List.Sorted.{IsPermutation-sym}
use Rattle.pin_table.specs.Views.{CallerView}
use Rattle.pin_table.specs.Known.{CallerFits}
use Rattle.pin_table.specs.Covers.{PinName, Covered, Balanced, Backed}
use Rattle.map_tasks.specs.Inputs.{InputView}
use Rattle.map_tasks.specs.Texts.{TextView, IsMappedSo, IsHeld, Changes, pins_in, with_came, with_gone}
use Rattle.map_tasks.specs.Table.{IsAt, texts_in}
use Rattle.map_tasks.proofs.Rows.{one-of-all}
use Rattle.map_tasks.proofs.Backing.{backed-changed, finished-pins, released-all, holds-once}
use Rattle.map_tasks.specs.Lanes.{LaneView, ReleasesAll, HoldsOnce}
use Rattle.map_tasks.specs.Texts.{AreSound}

-- The input of a text that was found is the one that was looked for, if all are mapped in the same way.
pub found-input : (input : InputView) (rows : List ((List ℕ × ℕ) × TextView)) (place : ℕ) (at : IsAt input.text rows place) → All (IsMappedSo input.parts input.setting) (texts_in rows) → at.row.1.input ≡ input
found-input input rows place at mapped =
    let one = one-of-all (IsMappedSo input.parts input.setting) rows place at.row mapped at.at in
    λ i. record { text = at.is i; parts = one.0 i; setting = one.1 i }

-- A text that was found is held.
pub found-held : (t : List (List ℕ)) (rows : List ((List ℕ × ℕ) × TextView)) (place : ℕ) → IsAt t rows place → IsHeld t (texts_in rows)
found-held t rows place at = let a = at.used in let b = at.came in let c = at.fits.some in omega (arith, a, b, c)

-- A change of numbers keeps pins backed.
pub backed-came : (v : CallerView) (t : List (List ℕ)) (es fs : List TextView) (ps : List PinName) → Changes t with_came es fs → Backed v (pins_in es ++ ps) → Backed v (pins_in fs ++ ps)
backed-came v t es fs ps c b = backed-changed v es fs c.rest c.text (with_came c.text) ps refl c.before c.after (IsPermutation-sym fs (with_came c.text ∷ c.rest) c.after) b

pub backed-gone : (v : CallerView) (t : List (List ℕ)) (es fs : List TextView) (ps : List PinName) → Changes t with_gone es fs → Backed v (pins_in es ++ ps) → Backed v (pins_in fs ++ ps)
backed-gone v t es fs ps c b = backed-changed v es fs c.rest c.text (with_gone c.text) ps refl c.before c.after (IsPermutation-sym fs (with_gone c.text ∷ c.rest) c.after) b

-- All notes of a lane made final.
module _ (old : LaneView) (v w : CallerView) (es : List TextView) (backed : Backed old.caller (pins_in old.texts ++ old.spare)) (balanced : Balanced old.caller (pins_in old.texts) v (pins_in es)) (covered : Covered v (pins_in es)) (up : (rs : List PinName) → Balanced v (old.spare ++ rs) w rs) where
  pub finished-backed : Backed w (pins_in es ++ [])
  finished-backed = subst (Backed w) (sym (append-nil (pins_in es))) (finished-pins old.caller v (pins_in old.texts) (pins_in es) old.spare backed balanced covered w up).1

  pub finished-released : CallerFits w → ReleasesAll old (record { caller = w; texts = es; spare = [] })
  finished-released fits = released-all old.caller w (pins_in old.texts ++ old.spare) (pins_in es ++ [])
      (subst (λ (qs : List PinName). Balanced old.caller (pins_in old.texts ++ old.spare) w qs) (sym (append-nil (pins_in es))) (finished-pins old.caller v (pins_in old.texts) (pins_in es) old.spare backed balanced covered w up).0) fits

  pub finished-once : CallerFits w → AreSound es → HoldsOnce w es
  finished-once fits sound = holds-once w es fits (finished-pins old.caller v (pins_in old.texts) (pins_in es) old.spare backed balanced covered w up).1 sound

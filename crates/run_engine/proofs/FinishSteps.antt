-- Items of a list that were not changed yet.
use Rattle.std.proofs.Common.{◌≡◌, ℕ, ◌<◌, List, length, All, sym, subst, ◌∙◌, arith}
use Rattle.std.specs.Prelude.{slice_index_or}
use Rattle.run_engine.proofs.InPlaceSteps.{Partly}

-- What held of all items holds of the next one.
pub still : {A : Type 0} (P : ℕ → A → A → Type 0) (Q : A → Type 0) (i : ℕ) (old now : List A) (x : A) → Partly P i old now → All Q old → i < length old → x ≡ slice_index_or now i x → Q x
still P Q i old now x p all lt read = subst Q (sym (read ∙ p.ahead i x (omega arith))) (all i x lt)

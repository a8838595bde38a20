-- What a run does, by its steps: the engine, the write of its answer, and its work line.
use Rattle.std.proofs.Common.{◌≡◌, ℕ, ◌≤◌, Bool, List, [], ◌∷◌, ◌++◌, refl, sym, ap, subst, ◌∙◌, append-nil, inr, arith}
use Rattle.std.specs.Prelude.{Result, Ok, Err}
use Rattle.definitions.specs.Outside.{Told, GainsPrefix}
use Rattle.definitions.proofs.ToldBytes.{told_same, told_with}
use Rattle.job_laws.specs.Meanings.{Meaning}
use Rattle.marker_chunker.specs.Cuts.{joined}
use Rattle.record_text.specs.declared.shift.Shift.{Shift}
use Rattle.tree_laws.specs.Trees.{Shape, TreeView}
use Rattle.slider_session.specs.Calls.{SessionView, RunStands, RunAnswered, RunSaid, AnswerWritten, LineTried, next_piece}
use Rattle.slider_session.specs.Devices.{DeviceView, all_lines, AreCut, AreTried}
use Rattle.slider_session.specs.Output.{piece_over}
use Rattle.slider_session.specs.WorkLines.{asked_lines}
use Rattle.slider_session.specs.declared.halt.Halt.{Halt}
use Rattle.slider_session.specs.declared.halt.Halt.TheVariants as Halts
use Rattle.slider_session.specs.declared.work.Work.{Work}

-- Lines that were not tried left nothing.
cut-none : (lines : List (List ℕ)) → AreCut lines []
cut-none [] = refl
cut-none (line ∷ lines) = ([], [], (line, refl), cut-none lines, refl)

-- Nothing was said.
pub untried : (lines : List (List ℕ)) (d : DeviceView) → AreTried ⊥ lines d d
untried lines d = record {
  cut = told_same d.bytes (λ old new. (gain : List ℕ) × AreCut lines gain × (new ≡ old ++ gain)) (λ x. ([], cut-none lines, sym (append-nil x)));
  whole = λ none. absurd none;
  later = omega arith;
}

-- A line was tried whole.
pub tried-whole : (line : List ℕ) (before now : DeviceView) → Told before.bytes now.bytes (λ old new. new ≡ old ++ line) → before.faults ≤ now.faults → AreTried (Unit {0}) (line ∷ []) before now
tried-whole line before now told later = record {
  cut = told_with before.bytes now.bytes (λ old new. new ≡ old ++ line) (λ old new. (gain : List ℕ) × AreCut (line ∷ []) gain × (new ≡ old ++ gain)) told (λ x y at is e. (line, (line, [], ([], sym (append-nil line)), refl, sym (append-nil line)), e));
  whole = λ done still. told_with before.bytes now.bytes (λ old new. new ≡ old ++ line) (λ old new. new ≡ old ++ all_lines (line ∷ [])) told (λ x y at is e. e ∙ ap (λ (l : List ℕ). x ++ l) (sym (append-nil line)));
  later = later;
}

-- A run whose answer was not written whole wrote no work line.
pub said-halt : (i : ℕ) (work : Work) (d : DeviceView) (asked : Bool) (bytes : List ℕ) (before now : DeviceView) (halt : Halt) → AnswerWritten bytes before now (Err halt) → RunSaid asked i work d d (Err halt)
said-halt i work d asked bytes before now (Halts.Script fault) a = absurd a
said-halt i work d asked bytes before now Halts.Read a = absurd a
said-halt i work d asked bytes before now Halts.Write a = refl
said-halt i work d asked bytes before now Halts.Mem a = untried (asked_lines asked i (work ∷ [])) d

module _ {J T V : Type 0} (j : Meaning V) (view : T → TreeView V) (shaped : Shape → Shift → Shape) (old new : SessionView J T) (stands : RunStands j view shaped old new) where
  -- What was written is the piece of the window.
  pub piece-stands : piece_over j new.engine.runs (joined new.engine.leaves) ≡ next_piece j view shaped old
  piece-stands = (λ k. piece_over j (stands.engine.runs k) (joined (stands.engine.leaves k)))

  module _ (before now : DeviceView) (bytes : List ℕ) (is : bytes ≡ next_piece j view shaped old) where
    -- The answer was written.
    answered-whole : AnswerWritten bytes before now (Ok tt) → RunAnswered j view shaped old new before now (Ok tt)
    answered-whole a = (stands, subst (λ (l : List ℕ). Told before.bytes now.bytes (λ x y. y ≡ x ++ l)) is a.0)

    -- It was written, and then its work line tried.
    pub answered-line : (line : List ℕ) (d e : DeviceView) (result : Result (Unit {0}) Halt) → AnswerWritten bytes before now (Ok tt) → LineTried line d e result → RunAnswered j view shaped old new before now result
    answered-line line d e (Ok done) a t = answered-whole a
    answered-line line d e (Err (Halts.Script fault)) a t = absurd t
    answered-line line d e (Err Halts.Read) a t = absurd t
    answered-line line d e (Err Halts.Write) a t = absurd t
    answered-line line d e (Err Halts.Mem) a t =
        let whole = answered-whole a in
        inr (stands, told_with before.bytes now.bytes (λ x y. y ≡ x ++ next_piece j view shaped old) (GainsPrefix (next_piece j view shaped old)) whole.1 (λ x y at is e. (next_piece j view shaped old, ([], sym (append-nil (next_piece j view shaped old))), e)))

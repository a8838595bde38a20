-- What was written to `err`: the work lines of a script, then the line of its fault.
use Rattle.std.proofs.Common.{◌≡◌, ◌≢◌, ℕ, ◌≤◌, Bool, List, [], ◌∷◌, ◌++◌, length, refl, sym, ap, ◌∙◌, subst, append-nil, inl, inr, ◌⊎◌, arith}
use Rattle.std.specs.Prelude.{Option, Result, Ok, Err}
use Rattle.std.specs.declared.option.Option.TheVariants.{Some, None}
use Rattle.std.proofs.lemmas.Option.{none-some, same_Some}
use Rattle.definitions.specs.Limits.{most_script}
use Rattle.definitions.specs.Outside.{Rose, Told, GainsPrefix}
use Rattle.definitions.proofs.ToldBytes.{told_with}
use Rattle.job_laws.specs.declared.meter.Counts.{Counts}
use Rattle.job_laws.specs.Meanings.{Meaning}
use Rattle.job_laws.specs.Rows.{Row}
use Rattle.record_text.specs.declared.script_fault.ScriptFault.{ScriptFault}
use Rattle.record_text.specs.declared.script_fault.Why.{Why}
use Rattle.record_text.specs.Script.{Ending, commands}
use Rattle.window_manager.specs.Windows.{WindowState}
use Rattle.slider_session.specs.declared.halt.Halt.{Halt}
use Rattle.slider_session.specs.declared.halt.Halt.TheVariants as Halts
use Rattle.slider_session.specs.Devices.{DeviceView, all_lines, AreCut, AreTried}
use Rattle.slider_session.specs.Output.{ending_of}
use Rattle.slider_session.specs.Serving.{IsServed, AtFault, ScriptSaid}
use Rattle.slider_session.specs.WorkLines.{asked_lines}
use Rattle.slider_session.proofs.Lines.{tried_none, tried_then, asked_none}
use Rattle.slider_program.specs.Words.{fault_line, end_line}
use Rattle.slider_program.specs.Program.{Tries, IsAnswered, ErrSaid, status_if_ok}

-- a line that is tried is the only one
pub one_tried : (Done : Type 0) (line : List ℕ) (before now : DeviceView) → (Done → Tries line before now) → Told before.bytes now.bytes (GainsPrefix line) → before.faults ≤ now.faults → AreTried Done (line ∷ []) before now
one_tried Done line before now tried prefix later = record {
  cut = told_with before.bytes now.bytes (GainsPrefix line) (λ old new. (gain : List ℕ) × AreCut (line ∷ []) gain × (new ≡ old ++ gain)) prefix (λ old new a b p. (p.0, (p.0, [], p.1, refl, sym (append-nil p.0)), p.2));
  whole = λ done still. told_with before.bytes now.bytes (λ old new. new ≡ old ++ line) (λ old new. new ≡ old ++ all_lines (line ∷ [])) ((tried done).whole still) (λ old new a b is. is ∙ ap (λ (l : List ℕ). old ++ l) (sym (append-nil line)));
  later = later;
}

-- these lines were tried, also by a weaker claim
pub tried_for : (First Done : Type 0) (lines more : List (List ℕ)) (before now : DeviceView) → (Done → First) → lines ≡ more → AreTried First lines before now → AreTried Done more before now
tried_for First Done lines more before now so same t = subst (λ (ls : List (List ℕ)). AreTried Done ls before now) same (record { cut = t.cut; whole = λ done still. t.whole (so done) still; later = t.later })

-- at a status other than 0 and 3 not all was answered
pub unanswered : (status : ℕ) → (status ≢ 0) → (status ≢ 3) → IsAnswered status → ⊥
unanswered status zero three (inl is) = zero is
unanswered status zero three (inr is) = three is

-- neither a value nor out of memory gives the status 3
pub never_three : {A E : Type 0} (r : Result A E) → status_if_ok r ≢ 3
never_three (Ok a) = λ e. cc
never_three (Err e) = λ e. cc

-- what is stated for observable bytes
told_of : (a b : Option (List ℕ)) (P : List ℕ → List ℕ → Type 0) (Q : List ℕ → Type 0) → Told a b P → ((x y : List ℕ) → P x y → Q x) → (x : List ℕ) → a ≡ Some x → Q x
told_of None b P Q told step x is = absurd (none-some x is)
told_of (Some y) None P Q told step x is = absurd told
told_of (Some y) (Some z) P Q told step x is = subst Q (same_Some y x is) (step y z told)

module _ {V M : Type 0} (j : Meaning V) (w : WindowState) (counts : M → Counts) (asked : Bool) (told : Option (List ℕ)) (row : Row M) (before : DeviceView) where
  -- nothing was said
  pub unsaid : ErrSaid j w counts asked told row row before before 6
  unsaid = record {
    works = [];
    last = [];
    lines = subst (λ (ls : List (List ℕ)). AreTried (IsAnswered 6) (ls ++ []) before before) (sym (asked_none asked 1)) (tried_none (IsAnswered 6) before);
    none = λ a b. refl;
    fault = λ is. cc;
    ended = λ script is. inl refl;
    some = λ script is. omega arith;
    all = λ answered. absurd (unanswered 6 (λ e. cc) (λ e. cc) answered);
    within = record { maps = omega arith; merges = omega arith; joins = omega arith };
    exact = λ answered. absurd (unanswered 6 (λ e. cc) (λ e. cc) answered);
  }

  module _ (row_now : Row M) (now : DeviceView) where
    -- nothing is said after the work lines
    pub said_works : (result : Result (Unit {0}) Halt) (status : ℕ) → ScriptSaid j w most_script counts asked told row row_now before now result → (IsAnswered status → IsServed result) → (status ≢ 3) → ErrSaid j w counts asked told row row_now before now status
    said_works result status s served other = record {
      works = s.works;
      last = [];
      lines = tried_for (IsServed result) (IsAnswered status) (asked_lines asked 1 s.works) (asked_lines asked 1 s.works ++ []) before now served (sym (append-nil (asked_lines asked 1 s.works))) s.tried;
      none = λ a b. refl;
      fault = λ is. absurd (other is);
      ended = λ script is. inl refl;
      some = s.some;
      all = λ answered. s.all (served answered);
      within = s.within;
      exact = λ answered. s.exact (served answered);
    }

    -- all that was said at the status 0 was said at any other but 3
    pub said_less : (status : ℕ) → (status ≢ 3) → ErrSaid j w counts asked told row row_now before now 0 → ErrSaid j w counts asked told row row_now before now status
    said_less status other s = record {
      works = s.works;
      last = s.last;
      lines = tried_for (IsAnswered 0) (IsAnswered status) (asked_lines asked 1 s.works ++ s.last) (asked_lines asked 1 s.works ++ s.last) before now (λ answered. inl refl) refl s.lines;
      none = λ a b. s.none (λ e. cc) (λ e. cc);
      fault = λ is. absurd (other is);
      ended = s.ended;
      some = s.some;
      all = λ answered. s.all (inl refl);
      within = s.within;
      exact = λ answered. s.exact (inl refl);
    }

    -- the line of a fault comes after the work lines
    module _ (fault : ScriptFault) (mid : DeviceView) (s : ScriptSaid j w most_script counts asked told row row_now before mid (Err (Halts.Script fault))) (status : ℕ) (rest out_before out_now : Option (List ℕ)) (served : Told told rest (λ script after. AtFault j w most_script fault.line fault.why script out_before out_now)) where
      abbrev pub line_of : List ℕ
      line_of = fault_line fault.line fault.why

      three : IsAnswered status → (status ≡ 3) ⊎ (status ≡ 6) → status ≡ 3
      three answered (inl is) = is
      three (inl zero) (inr six) = omega (arith, zero, six)
      three (inr is) (inr six) = is

      not_last : {A : Type 0} → (status ≡ 3) ⊎ (status ≡ 6) → (status ≢ 3) → (status ≢ 6) → A
      not_last (inl is) a b = absurd (a is)
      not_last (inr is) a b = absurd (b is)

      pub said_fault : (status ≡ 3) ⊎ (status ≡ 6) → (status ≡ 3 → Tries line_of mid now) → Told mid.bytes now.bytes (GainsPrefix line_of) → mid.faults ≤ now.faults → ErrSaid j w counts asked told row row_now before now status
      said_fault known tried prefix later = record {
        works = s.works;
        last = line_of ∷ [];
        lines = tried_then (IsAnswered status) (asked_lines asked 1 s.works) (line_of ∷ []) before mid now s.tried (one_tried (IsAnswered status) line_of mid now (λ answered. tried (three answered known)) prefix later);
        none = λ a b. not_last known a b;
        fault = λ is. (fault.line, fault.why, refl);
        ended = λ script is. inr (told_of told rest (λ script after. AtFault j w most_script fault.line fault.why script out_before out_now) (λ script. line_of ∷ [] ≡ end_line (ending_of j w (commands most_script script)) ∷ []) served
            (λ x y at. ap (λ (e : Ending). end_line e ∷ []) (sym at.0)) script is);
        some = s.some;
        all = λ answered. s.all tt;
        within = s.within;
        exact = λ answered. s.exact tt;
      }

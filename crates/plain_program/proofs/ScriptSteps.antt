-- Reading and walking a script, one command after the other.
use Rattle.std.proofs.Common.{◌≡◌, ◌≢◌, ℕ, List, [], ◌∷◌, ◌++◌, refl, sym, ap, ◌∙◌, append_assoc}
use Rattle.std.specs.Prelude.{Option}
use Rattle.std.specs.declared.option.Option.TheVariants.{Some, None}
use Rattle.std.specs.Option.{option_or}
use Rattle.record_text.specs.declared.command.Command.{Command}
use Rattle.record_text.specs.declared.command.Command.TheVariants.{Bucket, Drop, Late, File, Remove, Edit, Load, Run}
use Rattle.record_text.specs.declared.script_fault.ScriptFault.{ScriptFault}
use Rattle.record_text.specs.Script.{Script, Ending, with_command}
use Rattle.window_manager.specs.Windows.{WindowState, window_after, refusal_of}
use Rattle.window_manager.specs.declared.fault.WindowFault.{WindowFault}
use Rattle.job_laws.specs.Meanings.{Meaning}
use Rattle.slider_session.specs.Output.{Outcome, after_bytes, ended_by, unless_refused, on_command, outcome_from, outcome_of}
use Rattle.plain_program.specs.Plain.{ending_of_rest}
use Rattle.plain_program.specs.Walk.{walked_from}
use Rattle.plain_program.specs.declared.walk.PlainWalk.{PlainWalk}

-- a command more was read
pub one_more : (read more : List (Command × ℕ)) (c : Command) (line last : ℕ) (old new all : Script) → more ≡ read ++ (c, line) ∷ [] → line ≡ last → old ≡ with_command (c, last) new → (read ++ old.0, old.1) ≡ all → (more ++ new.0, new.1) ≡ all
one_more read more c line last old new all is at told before =
    (λ i. (is i ++ new.0, new.1))
    ∙ (λ i. (append_assoc read ((c, line) ∷ []) new.0 i, new.1))
    ∙ (λ i. (read ++ (c, at i) ∷ new.0, new.1))
    ∙ (λ i. (read ++ (sym told i).0, (sym told i).1))
    ∙ before

-- the window's fault comes before the script's
pub first_fault : (refused fault : Option ScriptFault) (ending : Ending) → ending_of_rest (option_or refused fault) ending ≡ ending_of_rest refused (ending_of_rest fault ending)
first_fault None fault ending = refl
first_fault (Some f) fault ending = refl

-- a command other than a run is the window's
not_run : {V : Type 0} (j : Meaning V) (i : ℕ) (w : WindowState) (c : Command) (line : ℕ) (go : ℕ → WindowState → Outcome) → c ≢ Run → on_command j i w c line go ≡ unless_refused (refusal_of j.accepts w c) line (go i (window_after w c))
not_run j i w (Bucket records) line go other = refl
not_run j i w (Drop n) line go other = refl
not_run j i w (Late place more) line go other = refl
not_run j i w (File name) line go other = refl
not_run j i w (Remove name) line go other = refl
not_run j i w (Edit at del ins) line go other = refl
not_run j i w (Load records) line go other = refl
not_run j i w Run line go other = absurd (other refl)

-- a command other than a run: carried out by the window, or refused
module _ {V : Type 0} (j : Meaning V) (w : WindowState) (c : Command) (other : c ≢ Run) (i line : ℕ) (go : ℕ → WindowState → Outcome) where
  pub carried : refusal_of j.accepts w c ≡ None → on_command j i w c line go ≡ go i (window_after w c)
  carried none = not_run j i w c line go other ∙ ap (λ o. unless_refused o line (go i (window_after w c))) none

  pub refused : (fault : WindowFault) → refusal_of j.accepts w c ≡ Some fault → on_command j i w c line go ≡ ([], ended_by line fault)
  refused fault is = not_run j i w c line go other ∙ ap (λ o. unless_refused o line (go i (window_after w c))) is

-- a walk from the start over all commands of a script is its outcome
pub whole_walk : {V : Type 0} (j : Meaning V) (w : WindowState) (walk : PlainWalk) (commands : List (Command × ℕ)) (ending : Ending) (script : Script) → walk.run ≡ 1 → walk.window ≡ w → walk.written.items ≡ [] → (commands, ending) ≡ script → walked_from j walk commands ending ≡ outcome_of j w script
unfolding outcome_of
whole_walk j w walk commands ending script run window written is = λ i. after_bytes (written i) (outcome_from j (run i) (window i) (is i).0 (is i).1)

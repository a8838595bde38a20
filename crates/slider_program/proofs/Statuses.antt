-- What each status says about the script that was served, and about the line that sums one up.
use Rattle.std.proofs.Common.{◌≡◌, ◌≢◌, ℕ, List, [], refl, sym, ◌∙◌, append-nil, inl, inr, ◌⊎◌}
use Rattle.std.specs.Prelude.{Option}
use Rattle.definitions.specs.Limits.{most_script}
use Rattle.definitions.specs.Outside.{Rose, Told, GainsPrefix}
use Rattle.definitions.proofs.ToldBytes.{told_same, told_with}
use Rattle.job_laws.specs.Meanings.{Meaning}
use Rattle.record_text.specs.declared.script_fault.Why.{Why}
use Rattle.record_text.specs.Lines.{whole_lines}
use Rattle.record_text.specs.Script.{commands}
use Rattle.window_manager.specs.Windows.{WindowState}
use Rattle.slider_session.specs.Devices.{DeviceView}
use Rattle.slider_session.specs.Output.{output_of}
use Rattle.slider_session.specs.Serving.{Writes, Whole, AtFault, OfTaken, WritesPrefix}
use Rattle.slider_program.specs.Program.{Seen, SumsUp, ScriptAnswered}

module _ {V : Type 0} (j : Meaning V) (w : WindowState) (old new : Seen) where
  -- a whole output is a prefix of itself
  prefix_of : (script : List ℕ) → Writes j w most_script script old.out.bytes new.out.bytes → WritesPrefix j w most_script script old.out.bytes new.out.bytes
  prefix_of script written = told_with old.out.bytes new.out.bytes _ (GainsPrefix (output_of j w (commands most_script script))) written
      (λ x y c d wrote. (output_of j w (commands most_script script), ([], sym (append-nil (output_of j w (commands most_script script)))), wrote))

  -- the script was served to its end
  pub done_answered : Told old.source.bytes new.source.bytes (λ script after. Whole j w most_script script after old.out.bytes new.out.bytes) → ScriptAnswered j w old new 0
  done_answered served = record {
    done = λ e. served;
    fault = λ e. cc;
    read = λ e. cc;
    write = λ e. cc;
    prefix = told_with old.source.bytes new.source.bytes _ (λ script after. WritesPrefix j w most_script script old.out.bytes new.out.bytes) served (λ script after a b at. prefix_of script at.2);
    known = inl refl;
  }

  -- the script was served to its fault
  module _ (status line : ℕ) (why : Why) (served : Told old.source.bytes new.source.bytes (λ script after. AtFault j w most_script line why script old.out.bytes new.out.bytes)) where
    neither : {A : Type 0} (n : ℕ) → (n ≢ 3) → (n ≢ 6) → (status ≡ 3) ⊎ (status ≡ 6) → status ≡ n → A
    neither n a b (inl is) e = absurd (a (sym e ∙ is))
    neither n a b (inr is) e = absurd (b (sym e ∙ is))

    some_status : (status ≡ 3) ⊎ (status ≡ 6) → (status ≡ 0) ⊎ (status ≡ 3) ⊎ (status ≡ 4) ⊎ (status ≡ 5) ⊎ (status ≡ 6)
    some_status (inl is) = inr (inl is)
    some_status (inr is) = inr (inr (inr (inr is)))

    pub fault_answered : (status ≡ 3) ⊎ (status ≡ 6) → ScriptAnswered j w old new status
    fault_answered known = record {
      done = λ e. neither 0 (λ h. cc) (λ h. cc) known e;
      fault = λ e. (line, why, served);
      read = λ e. neither 4 (λ h. cc) (λ h. cc) known e;
      write = λ e. neither 5 (λ h. cc) (λ h. cc) known e;
      prefix = told_with old.source.bytes new.source.bytes _ (λ script after. WritesPrefix j w most_script script old.out.bytes new.out.bytes) served (λ script after a b at. prefix_of script at.1);
      known = some_status known;
    }

  -- a read failed
  pub read_answered : Rose old.source.faults new.source.faults → Told old.source.bytes new.source.bytes (λ script after. OfTaken j w most_script script after old.out.bytes new.out.bytes) → ScriptAnswered j w old new 4
  read_answered rose served = record {
    done = λ e. cc;
    fault = λ e. cc;
    read = λ e. (rose, served);
    write = λ e. cc;
    prefix = told_with old.source.bytes new.source.bytes _ (λ script after. WritesPrefix j w most_script script old.out.bytes new.out.bytes) served (λ script after a b at.
        told_with old.out.bytes new.out.bytes _ (GainsPrefix (output_of j w (commands most_script script))) at.written (λ x y c d wrote. (output_of j w (commands most_script (whole_lines at.bytes)), at.prefix, wrote)));
    known = inr (inr (inl refl));
  }

  module _ (prefix : Told old.source.bytes new.source.bytes (λ script after. WritesPrefix j w most_script script old.out.bytes new.out.bytes)) where
    -- a write failed
    pub write_answered : Rose old.out.faults new.out.faults → ScriptAnswered j w old new 5
    write_answered rose = record {
      done = λ e. cc;
      fault = λ e. cc;
      read = λ e. cc;
      write = λ e. rose;
      prefix = prefix;
      known = inr (inr (inr (inl refl)));
    }

    -- memory ran out
    pub memory_answered : ScriptAnswered j w old new 6
    memory_answered = record {
      done = λ e. cc;
      fault = λ e. cc;
      read = λ e. cc;
      write = λ e. cc;
      prefix = prefix;
      known = inr (inr (inr (inr refl)));
    }

-- memory ran out before anything was touched
pub untouched_answered : {V : Type 0} (j : Meaning V) (w : WindowState) (old : Seen) → ScriptAnswered j w old old 6
untouched_answered j w old = memory_answered j w old old (told_same old.source.bytes (λ script after. WritesPrefix j w most_script script old.out.bytes old.out.bytes) (λ script.
    told_same old.out.bytes (GainsPrefix (output_of j w (commands most_script script))) (λ z. ([], (output_of j w (commands most_script script), refl), sym (append-nil z)))))

-- nothing was gained of a line
pub nothing_gained : (line : List ℕ) (bytes : Option (List ℕ)) → Told bytes bytes (GainsPrefix line)
nothing_gained line bytes = told_same bytes (GainsPrefix line) (λ z. ([], (line, refl), sym (append-nil z)))

-- nothing was gained of a summary
pub nothing_summed : (line : List ℕ) (before : DeviceView) → SumsUp line before before 6
nothing_summed line before = record {
  done = λ e. cc;
  write = λ e. cc;
  prefix = nothing_gained line before.bytes;
  known = inr (inr refl);
}

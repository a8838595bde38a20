-- A walk over commands, by steps and as a whole.
use Rattle.std.specs.Prelude.{◌≡◌, ℕ, List, Option}
use Rattle.std.specs.declared.option.Option.TheVariants.{Some, None}
use Rattle.record_text.specs.declared.command.Command.{Command}
use Rattle.record_text.specs.declared.script_fault.ScriptFault.{ScriptFault}
use Rattle.record_text.specs.Script.{Ending, Faulty}
use Rattle.window_manager.specs.Windows.{WindowState}
use Rattle.job_laws.specs.Meanings.{Meaning}
use Rattle.slider_session.specs.Output.{Outcome, after_bytes, on_command, outcome_from}
use Rattle.plain_program.specs.declared.walk.PlainWalk.{PlainWalk}

module _ {V : Type 0} (j : Meaning V) where
  -- What was written, and what the commands to come write, over the window as it is.
  abbrev pub walked_from : PlainWalk → List (Command × ℕ) → Ending → Outcome
  walked_from walk commands ending = after_bytes walk.written.items (outcome_from j walk.run walk.window commands ending)

  -- A command on a line was carried out, or refused.
  abbrev pub Walks : PlainWalk → PlainWalk → Command → ℕ → Option ScriptFault → Type 0
  Walks old new c line None = (go : ℕ → WindowState → Outcome) → after_bytes old.written.items (on_command j old.run old.window c line go) ≡ after_bytes new.written.items (go new.run new.window)
  Walks old new c line (Some fault) = (go : ℕ → WindowState → Outcome) → after_bytes old.written.items (on_command j old.run old.window c line go) ≡ (new.written.items, Faulty fault.line fault.why)

-- The line that sums up what is written for a script.
use Rattle.std.specs.Prelude.{ℕ, ◌+◌, List, [], ◌∷◌, ◌++◌, length, codes, decimal}
use Rattle.hex.specs.Hex.{encode_lower}
use Rattle.sha2.specs.Sha256.{sha256}
use Rattle.record_text.specs.declared.command.Command.{Command}
use Rattle.record_text.specs.declared.command.Command.TheVariants.{Run}
use Rattle.record_text.specs.Script.{Script, commands}
use Rattle.window_manager.specs.Windows.{WindowState}
use Rattle.job_laws.specs.Meanings.{Meaning}
use Rattle.slider_session.specs.Output.{output_of}
use Rattle.definitions.specs.Limits.{most_script}

-- How many runs a command is: one or none.
abbrev pub runs_in : Command → ℕ
runs_in Run = 1
runs_in c = 0

-- How many of these commands are runs.
abbrev pub runs_among : List (Command × ℕ) → ℕ
runs_among [] = 0
runs_among (c ∷ cs) = runs_in c.0 + runs_among cs

-- How many runs a script has.
abbrev pub runs_of : Script → ℕ
runs_of script = runs_among script.0

-- The summary of an output, with the number of runs: its length and its SHA-256.
abbrev pub summary_line : ℕ → List ℕ → List ℕ
summary_line runs output = codes "runs " ++ decimal runs ++ (codes " bytes " ++ decimal (length output) ++ (codes " sha256 " ++ encode_lower (sha256 output) ++ codes "\n"))

-- The summary of what is written for a script, over a job and from a window on.
abbrev pub summary_of : {V : Type 0} → Meaning V → WindowState → List ℕ → List ℕ
summary_of j w script = summary_line (runs_of (commands most_script script)) (output_of j w (commands most_script script))

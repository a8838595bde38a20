-- What the records of a leaf are mapped to.
use Rattle.std.specs.Prelude.{ℕ, List}
use Rattle.definitions.specs.Answer.{pairs_of}
use Rattle.definitions.specs.Tables.{table_of}
use Rattle.job_laws.specs.Meanings.{meaning_at}
use Rattle.job_laws.specs.declared.job.Job as Jobs
use Rattle.sheets.specs.Sheets.{SheetOf}
use Rattle.sheets.specs.Parts.{IsMapped, in_part}
use Rattle.map_tasks.specs.Inputs.{InputView}

module _ {J V M : Type 0} (job : Jobs.Ghosts J V M) where
  -- The sheets are those that the input's records are mapped to.
  abbrev pub AreSheetsOf : InputView → List (SheetOf V) → Type 0
  AreSheetsOf input sheets = IsMapped (meaning_at job input.setting) input.setting input.parts input.text sheets

  -- The sheet of a part has the part's entries in the table of the pairs that the input's records emit.
  abbrev pub sheet_for : InputView → ℕ → SheetOf V
  sheet_for input part = record { setting = input.setting; entries = in_part input.parts part (table_of (job.joined input.setting) (pairs_of (job.emits input.setting) input.text)) }

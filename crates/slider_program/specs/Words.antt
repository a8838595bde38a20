-- The lines that are written to `err` at the end of a script.
use Rattle.std.specs.Prelude.{ℕ, List, [], ◌++◌, codes, decimal}
use Rattle.record_text.specs.declared.script_fault.Why.{Why}
use Rattle.record_text.specs.declared.script_fault.Why.TheVariants.{Unknown, BadNumber, BadName, ShortInput, LongLine, LongScript, NotHere, TooMany, BadRecord, WindowLarge, Read, Mem}
use Rattle.record_text.specs.Script.{Ending, Done, Faulty}

-- The word of a fault. A fault of a script is neither a failed read nor out of memory.
abbrev pub fault_word : Why → List ℕ
fault_word Unknown = codes "unknown"
fault_word BadNumber = codes "number"
fault_word BadName = codes "name"
fault_word ShortInput = codes "short"
fault_word LongLine = codes "long"
fault_word LongScript = codes "script"
fault_word NotHere = codes "nothere"
fault_word TooMany = codes "many"
fault_word BadRecord = codes "record"
fault_word WindowLarge = codes "window"
fault_word Read = codes "read"
fault_word Mem = codes "memory"

-- The line for a script's fault.
abbrev pub fault_line : ℕ → Why → List ℕ
fault_line line why = codes "fault " ++ decimal line ++ (codes " " ++ fault_word why ++ codes "\n")

-- The line for the end of a script, if any.
abbrev pub end_line : Ending → List ℕ
end_line Done = []
end_line (Faulty line why) = fault_line line why

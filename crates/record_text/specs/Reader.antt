-- What a clause sees of a reader: how far it is, and its source.
use Rattle.std.specs.Borrow.{MutBor}
use Rattle.record_text.specs.declared.reading.Reading.{Reading}
use Rattle.record_text.specs.declared.script_reader.ScriptReader.{ScriptReader}

-- How far a reader is.
abbrev pub reading_of : {S : Type 0} → ScriptReader S → Reading
reading_of reader = reader.reading

-- The source that it reads.
abbrev pub source_of : {S : Type 0} → ScriptReader S → MutBor S
source_of reader = reader.source

-- The limits of the program, each with its unit. `crates/definitions/src/lib.rt` has the same numbers for code.
use Rattle.std.specs.Prelude.{ℕ}

-- The bytes of a record.
abbrev pub most_record : ℕ
most_record = 65535

-- The bytes of text in a window, and in the record lines of one command, each line with its LF.
abbrev pub most_text : ℕ
most_text = 268435456

-- The buckets of a window that has no places.
abbrev pub most_buckets : ℕ
most_buckets = 65536

-- The files of a window.
abbrev pub most_files : ℕ
most_files = 65536

-- One more than the bytes of a script.
abbrev pub most_script : ℕ
most_script = 4294967296

-- The parts into which keys are divided.
abbrev pub most_parts : ℕ
most_parts = 16

-- The places of a circle of buckets.
abbrev pub most_places : ℕ
most_places = 4096

-- The members of a group that the job topk keeps.
abbrev pub most_members : ℕ
most_members = 1000

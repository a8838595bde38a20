-- The line for arguments that are refused.
use Rattle.std.specs.Prelude.{◌≡◌, List, ℕ, ◌++◌, codes, Result, Err}
use Rattle.program_words.specs.declared.plan.Plan.{Plan}
use Rattle.program_words.specs.declared.plan.Field.{Field}
use Rattle.program_words.specs.declared.plan.Field.TheVariants.{Words, Job, K, Tree, Buckets, Parts, Workers, Shards, Keep, Gen}
use Rattle.program_words.specs.declared.usage.WordsFault.{WordsFault}
use Rattle.program_words.specs.declared.usage.WordsFault.TheVariants.{Usage, Mem}

-- The word of a field.
abbrev pub usage_word : Field → List ℕ
usage_word Words = codes "words"
usage_word Job = codes "job"
usage_word K = codes "k"
usage_word Tree = codes "tree"
usage_word Buckets = codes "buckets"
usage_word Parts = codes "parts"
usage_word Workers = codes "workers"
usage_word Shards = codes "shards"
usage_word Keep = codes "keep"
usage_word Gen = codes "gen"

-- The line for a field.
abbrev pub line_for : Field → List ℕ
line_for field = codes "usage " ++ usage_word field ++ codes "\n"

-- A refusal is the first one in order; out of memory may come at any time.
abbrev pub IsRefusalOf : Result Plan Field → WordsFault → Type 0
IsRefusalOf asked (Usage field) = asked ≡ Err field
IsRefusalOf asked Mem = Unit {0}

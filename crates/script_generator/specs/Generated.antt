-- Scripts made from a number. Each definition here says how a draft of a script goes on.
use Rattle.std.specs.Prelude.{ℕ, zero, suc, ◌+◌, Bool, false, nat_lt, if◌then◌else◌, List, [], ◌++◌, codes, decimal}
use Rattle.program_words.specs.declared.plan.JobName.{JobName}
use Rattle.program_words.specs.declared.plan.JobName.TheVariants as jobs
use Rattle.program_words.specs.declared.plan.TreeName.{TreeName}
use Rattle.program_words.specs.declared.plan.TreeName.TheVariants as trees
use Rattle.script_generator.specs.Draws.{next_state, drawn}

-- The text written so far, the state from which the next draw begins, and the number of records written.
pub record Draft : Type 0 where
  pub text : List ℕ
  pub state : ℕ
  pub records : ℕ

-- A draft goes on by a step.
infixl 10 ◌▷◌
abbrev pub ◌▷◌ : Draft → (Draft → Draft) → Draft
d ▷ step = step d

-- A draft goes on by a step n times.
unfoldable pub times : ℕ → (Draft → Draft) → Draft → Draft
times zero step d = d
times (suc n) step d = times n step d ▷ step

-- Bytes are written.
abbrev pub with_bytes : List ℕ → Draft → Draft
with_bytes bytes d = record { text = d.text ++ bytes; state = d.state; records = d.records }

-- A number below m is drawn and written.
abbrev pub with_drawn : ℕ → Draft → Draft
with_drawn m d = record { text = d.text ++ decimal (drawn m d.state); state = next_state d.state; records = d.records }

-- A field: these bytes, and a drawn number after them.
unfoldable pub with_field : List ℕ → ℕ → Draft → Draft
with_field prefix m d = d ▷ with_bytes prefix ▷ with_drawn m

-- Eight words, with a space between.
unfoldable pub with_words : Draft → Draft
with_words d = d ▷ with_field (codes "w") 5000 ▷ times 7 (with_field (codes " w") 5000)

-- The fields of a record of a job, by its draws from left to right; a record of `index` begins with its number.
unfoldable pub with_fields : JobName → Draft → Draft
with_fields jobs.Count d = d ▷ with_words
with_fields jobs.Index d = d ▷ with_bytes (decimal d.records) ▷ with_bytes (codes "\t") ▷ with_words
with_fields jobs.Latest d = d ▷ with_field (codes "k") 2000 ▷ with_field (codes "\tv") 1000000
with_fields jobs.TopK d = d ▷ with_field (codes "g") 50 ▷ with_field (codes "\t") 100000 ▷ with_field (codes "\ti") 2000

-- The end of a record's line: there is one record more.
abbrev pub with_end : Draft → Draft
with_end d = record { text = d.text ++ codes "\n"; state = d.state; records = d.records + 1 }

-- A record and its LF.
unfoldable pub with_record : JobName → Draft → Draft
with_record job d = d ▷ with_fields job ▷ with_end

-- Whether a round begins by dropping the oldest bucket: with a folding tree each one after the 24th.
abbrev pub drops : TreeName → ℕ → Bool
drops trees.Folding round = nat_lt 24 round
drops tree round = false

-- A bucket of 2000 records and a run.
unfoldable pub with_bucket : JobName → Draft → Draft
with_bucket job d = d ▷ with_bytes (codes "bucket 2000\n") ▷ times 2000 (with_record job) ▷ with_bytes (codes "run\n")

-- A round: possibly the oldest bucket is dropped, then a bucket comes, then a run.
unfoldable pub with_round : JobName → TreeName → ℕ → Draft → Draft
with_round job tree round d = (if drops tree round then d ▷ with_bytes (codes "drop 1\n") else d) ▷ with_bucket job

-- The rounds from 1 to n.
unfoldable pub with_rounds : JobName → TreeName → ℕ → Draft → Draft
with_rounds job tree zero d = d
with_rounds job tree (suc n) d = with_rounds job tree n d ▷ with_round job tree (suc n)

-- A document of 40000 records and a run.
unfoldable pub with_load : JobName → Draft → Draft
with_load job d = d ▷ with_bytes (codes "load 40000\n") ▷ times 40000 (with_record job) ▷ with_bytes (codes "run\n")

-- At a drawn place 20 records are replaced by 20 others, then a run comes.
unfoldable pub with_edit : JobName → Draft → Draft
with_edit job d = d ▷ with_field (codes "edit ") 39981 ▷ with_bytes (codes " 20 20\n") ▷ times 20 (with_record job) ▷ with_bytes (codes "run\n")

-- The whole script: a document and 39 edits for a random tree, 40 rounds of buckets for the others.
unfoldable pub with_script : JobName → TreeName → Draft → Draft
with_script job trees.Random d = d ▷ with_load job ▷ times 39 (with_edit job)
with_script job tree d = d ▷ with_rounds job tree 40

-- Nothing is written yet, and the first state is the seed plus 1.
abbrev pub blank : ℕ → Draft
blank seed = record { text = []; state = seed + 1; records = 0 }

-- The script of a job and a tree that is made from a seed.
unfoldable pub generated : JobName → TreeName → ℕ → List ℕ
generated job tree seed = (blank seed ▷ with_script job tree).text

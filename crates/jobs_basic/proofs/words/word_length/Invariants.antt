use Rattle.std.proofs.Common.{◌≡◌, ◌++◌, ℕ, List, take, drop}
use Rattle.definitions.specs.Records.{words_behind}
use Rattle.jobs_basic.proofs.words.word_length.Given as goal

abbrev pub invariant-bytes : goal.invariant-bytes
invariant-bytes l = (prefix : List ℕ) → words_behind prefix l.text ≡ words_behind (prefix ++ take l.i l.text) (drop l.i l.text)

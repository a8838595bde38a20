use Rattle.std.proofs.Common.{◌≡◌, ◌≤◌, length}
use Rattle.definitions.specs.Records.{words_of}
use Rattle.jobs_basic.proofs.words.next_word.Given as goal

abbrev pub invariant-gap : goal.invariant-gap
invariant-gap l = record {
  words : words_of l.rest ≡ words_of l.text;
  within : length l.rest ≤ length l.text;
}

abbrev pub decreases-gap : goal.decreases-gap
decreases-gap l = length l.rest

use Rattle.std.proofs.Common.{◌≤◌, length, map}
use Rattle.definitions.specs.Records.{words_of}
use Rattle.jobs_basic.specs.Count.{once, count_emits}
use Rattle.job_laws.proofs.Gains.{Emitted}
use Rattle.jobs_basic.proofs.count.emit_words.Given as goal

abbrev pub invariant-words : goal.invariant-words
invariant-words l = record {
  emitted : Emitted (count_emits l.r) l.initial.out l.out (map once (words_of l.rest));
  within : length l.rest ≤ length l.r;
}

abbrev pub decreases-words : goal.decreases-words
decreases-words l = length l.rest

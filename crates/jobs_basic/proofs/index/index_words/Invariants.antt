use Rattle.std.proofs.Common.{◌≤◌, length, map}
use Rattle.definitions.specs.Records.{words_of}
use Rattle.jobs_basic.specs.Index.{in_document}
use Rattle.job_laws.proofs.Gains.{Emitted}
use Rattle.jobs_basic.proofs.index.index_words.Given as goal

abbrev pub invariant-words : goal.invariant-words
invariant-words l = record {
  emitted : Emitted (map (in_document l.doc) (words_of l.text)) l.initial.out l.out (map (in_document l.doc) (words_of l.rest));
  within : length l.rest ≤ length l.text;
}

abbrev pub decreases-words : goal.decreases-words
decreases-words l = length l.rest

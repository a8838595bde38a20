use Rattle.std.proofs.Common.{◌≡◌, ◌++◌, take}
use Rattle.jobs_basic.specs.Index.{index_encoded}
use Rattle.jobs_basic.proofs.index.IndexJob.encode.Given as goal

abbrev pub invariant-docs : goal.invariant-docs
invariant-docs g l = l.out.items ≡ l.initial.out.items ++ index_encoded (take l.doc-index l.v)

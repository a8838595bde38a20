use Rattle.std.proofs.Common.{◌≡◌, ◌++◌, take}
use Rattle.jobs_basic.specs.Index.{behind_commas}
use Rattle.jobs_basic.proofs.index.put_behind.Given as goal

abbrev pub invariant-docs : goal.invariant-docs
invariant-docs l = l.out.items ≡ l.initial.out.items ++ behind_commas (take l.doc-index l.docs)

use Rattle.std.proofs.Common.{◌≡◌, ◌+◌, ◌++◌, length}
use Rattle.jobs_basic.specs.Index.{union}
use Rattle.jobs_basic.proofs.docs.Docs.union.Given as goal

abbrev pub invariant-both : goal.invariant-both
invariant-both l = l.docs.items ++ union l.left l.right ≡ union l.self l.other

abbrev pub decreases-both : goal.decreases-both
decreases-both l = length l.left + length l.right

use Rattle.std.proofs.Common.{◌≡◌, ◌↔◌, length}
use Rattle.job_topk.proofs.topk.TopKJob.same.Given as goal

abbrev pub invariant-both : goal.invariant-both
invariant-both g l = (l.left ≡ l.right) ↔ (l.a ≡ l.b)

abbrev pub decreases-both : goal.decreases-both
decreases-both g l = length l.left

use Rattle.std.proofs.Common.{◌≡◌, ◌++◌, take}
use Rattle.job_topk.specs.TopK.{topk_encoded}
use Rattle.job_topk.proofs.topk.TopKJob.encode.Given as goal

abbrev pub invariant-members : goal.invariant-members
invariant-members g l = l.out.items ≡ l.initial.out.items ++ topk_encoded (take l.member-index l.v)

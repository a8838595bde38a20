use Rattle.std.proofs.Common.{◌≡◌, take}
use Rattle.job_topk.proofs.members.Members.copy.Given as goal

abbrev pub invariant-members : goal.invariant-members
invariant-members l = l.copied ≡ take l.member-index l.self

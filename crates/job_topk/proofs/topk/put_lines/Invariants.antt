use Rattle.std.proofs.Common.{◌≡◌, ◌++◌, take}
use Rattle.job_topk.specs.TopK.{topk_text}
use Rattle.job_topk.proofs.topk.put_lines.Given as goal

abbrev pub invariant-members : goal.invariant-members
invariant-members l = l.out.items ≡ l.initial.out.items ++ topk_text l.group (take l.member-index l.members)

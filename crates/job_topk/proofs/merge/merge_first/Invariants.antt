use Rattle.std.proofs.Common.{◌≡◌, ◌-◌, ◌++◌, take}
use Rattle.job_topk.specs.Merging.{in_order}
use Rattle.job_topk.specs.TopK.{member_cmp}
use Rattle.job_topk.proofs.merge.merge_first.Given as goal

abbrev pub invariant-kept : goal.invariant-kept
invariant-kept l = l.merged ++ take (l.most - l.i) (in_order member_cmp l.left l.right) ≡ take l.most (in_order member_cmp l.a l.b)

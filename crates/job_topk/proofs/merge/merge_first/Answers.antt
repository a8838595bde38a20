use Rattle.std.proofs.Common.{◌≡◌, ◌≤◌, ◌<◌, ◌+◌, ◌-◌, ◌++◌, [], ◌∷◌, suc, take, drop, length, sym, subst, ◌∙◌, true, false, arith, rules}
use Rattle.std.specs.Ordering.{is_gt}
use Rattle.job_topk.specs.Merging.{in_order}
use Rattle.job_topk.specs.TopK.{member_cmp}
use Rattle.job_topk.proofs.Ranked.{left_alone, right_alone, left_first, right_first}
use Rattle.job_topk.proofs.merge.merge_first.Goals as goal
use Rattle.job_topk.proofs.merge.merge_first.Goals.{in-empty-len1-up+in_ok-push-in-empty-len1-up, in-len1-up-empty+in_ok-push-in-len1-up-empty, in-len1-up-len1-up+then-is_behind+in_ok-push-in-len1-up-len1-up, in-len1-up-len1-up+else-is_behind+in_ok-push-in-len1-up-len1-up-2}

pub kept-preserved : goal.kept-preserved
kept-preserved c =
    let m = c.kept.merged in
    let n = c.args.most - c.kept.i in
    let k = c.args.most - (c.kept.i + 1) in
    let more : n ≡ suc k = omega arith in
    let total = take c.args.most (in_order member_cmp c.args.a.now c.args.b.now) in
    let t = c.kept.left.now in
    let u = c.kept.right.now in
    elim c.if-left-lt1.branch [
      | in-empty-len1-up+in_ok-push-in-empty-len1-up w ↦ (
          let none : length t < 1 = search rules in
          let some : 1 ≤ length u = search rules in
          let pushed : w.push.new.self ≡ m ++ w.y-item.result ∷ [] = w.in_ok-push-in-empty-len1-up.ensures.ok in
          rw (w.merged-is, w.left-is, w.right-is) (subst (λ l. l ++ take k (in_order member_cmp t (take (length u - 1) (drop 1 u))) ≡ total) (sym pushed) (right_alone m n k more total t u w.y-item.result none some w.y-item.is c.kept.invariant)))
      | in-len1-up-empty+in_ok-push-in-len1-up-empty w ↦ (
          let some : 1 ≤ length t = search rules in
          let none : length u < 1 = search rules in
          let pushed : w.push-in-len1-up-empty.new.self ≡ m ++ w.x-item.result ∷ [] = w.in_ok-push-in-len1-up-empty.ensures.ok in
          rw (w.merged-is, w.left-is, w.right-is) (subst (λ l. l ++ take k (in_order member_cmp (take (length t - 1) (drop 1 t)) u) ≡ total) (sym pushed) (left_alone m n k more total t u w.x-item.result some none w.x-item.is c.kept.invariant)))
      | in-len1-up-len1-up+then-is_behind+in_ok-push-in-len1-up-len1-up w ↦ (
          let some : 1 ≤ length t = search rules in
          let others : 1 ≤ length u = search rules in
          let order : is_gt (member_cmp w.x-item-in-kept.result w.y-item-in-kept.result) ≡ true = sym w.is_behind.ensures ∙ w.if-is_behind.true in
          let pushed : w.push-then-is_behind.new.self ≡ m ++ w.y-item-in-kept.result ∷ [] = w.in_ok-push-in-len1-up-len1-up.ensures.ok in
          rw (w.merged-is, w.left-is, w.right-is) (subst (λ l. l ++ take k (in_order member_cmp t (take (length u - 1) (drop 1 u))) ≡ total) (sym pushed) (right_first m n k more total t u w.x-item-in-kept.result w.y-item-in-kept.result some others w.x-item-in-kept.is w.y-item-in-kept.is order c.kept.invariant)))
      | in-len1-up-len1-up+else-is_behind+in_ok-push-in-len1-up-len1-up-2 w ↦ (
          let some : 1 ≤ length t = search rules in
          let others : 1 ≤ length u = search rules in
          let order : is_gt (member_cmp w.x-item-in-kept.result w.y-item-in-kept.result) ≡ false = sym w.is_behind.ensures ∙ w.if-is_behind.false in
          let pushed : w.push-else-is_behind.new.self ≡ m ++ w.x-item-in-kept.result ∷ [] = w.in_ok-push-in-len1-up-len1-up-2.ensures.ok in
          rw (w.merged-is, w.left-is, w.right-is) (subst (λ l. l ++ take k (in_order member_cmp (take (length t - 1) (drop 1 t)) u) ≡ total) (sym pushed) (left_first m n k more total t u w.x-item-in-kept.result w.y-item-in-kept.result some others w.x-item-in-kept.is w.y-item-in-kept.is order c.kept.invariant)))
    ]

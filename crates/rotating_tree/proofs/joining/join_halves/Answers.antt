use Rattle.std.proofs.Common.{arith, subst}
use Rattle.std.specs.Prelude.{IfSome, option_copied}
use Rattle.definitions.specs.Tables.{common_keys}
use Rattle.job_laws.proofs.CountLaws.{rose_more}
use Rattle.tree_laws.specs.Trees.{IsLeaf, IsWithin, distinct_keys}
use Rattle.tree_laws.proofs.KeyCounts.{common-within}
use Rattle.rotating_tree.proofs.joining.join_halves.Goals as goal

pub returns-in-Ok-clause-counted : goal.returns-in-Ok-clause-counted
returns-in-Ok-clause-counted g c = λ ts within.
    let a = c.in-Some-Some.left.now in
    let b = c.in-Some-Some.right.now in
    let leaf = subst (λ o. IfSome (option_copied o) (IsLeaf g.J.Job.good (g.J.Job.setting c.args.job.now))) c.in-Some-Some.is-0 c.requires.left in
    let inside = subst (λ o. IfSome (option_copied o) (λ s. IsWithin s.entries ts)) c.in-Some-Some.is-0 within in
    rose_more 0 1 (common_keys a.entries b.entries) 0 1 (distinct_keys ts) _ _ (omega arith) (omega arith) (common-within a.entries b.entries ts leaf.rising inside) c.merge_through.ensures.counted

pub returns-in-Err-clause-counted : goal.returns-in-Err-clause-counted
returns-in-Err-clause-counted g c = λ ts within.
    let a = c.in-Some-Some.left.now in
    let b = c.in-Some-Some.right.now in
    let leaf = subst (λ o. IfSome (option_copied o) (IsLeaf g.J.Job.good (g.J.Job.setting c.args.job.now))) c.in-Some-Some.is-0 c.requires.left in
    let inside = subst (λ o. IfSome (option_copied o) (λ s. IsWithin s.entries ts)) c.in-Some-Some.is-0 within in
    rose_more 0 1 (common_keys a.entries b.entries) 0 1 (distinct_keys ts) _ _ (omega arith) (omega arith) (common-within a.entries b.entries ts leaf.rising inside) c.merge_through.ensures.counted

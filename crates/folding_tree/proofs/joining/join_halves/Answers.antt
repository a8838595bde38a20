use Rattle.std.proofs.Common.{◌*◌, Some, arith, sym, subst}
use Rattle.std.specs.Prelude.{IfSome, option_copied}
use Rattle.definitions.specs.Tables.{common_keys}
use Rattle.job_laws.specs.Counted.{RoseBy}
use Rattle.job_laws.proofs.CountLaws.{rose_more, rose_none}
use Rattle.tree_laws.specs.Trees.{IsLeaf, IsWithin, distinct_keys}
use Rattle.tree_laws.proofs.KeyCounts.{common-within}
use Rattle.folding_tree.specs.Levels.{merges_by}
use Rattle.folding_tree.proofs.joining.join_halves.Goals as goal

pub returns-in-Some-None-clause-counted : goal.returns-in-Some-None-clause-counted
returns-in-Some-None-clause-counted g c = λ ts within. rose_more 0 0 0 0 (merges_by (option_copied c.args.a) (option_copied c.args.b)) (merges_by (option_copied c.args.a) (option_copied c.args.b) * distinct_keys ts) _ _ (omega arith) (omega arith) (omega arith) (rose_none _)

pub returns-in-None-Some-clause-counted : goal.returns-in-None-Some-clause-counted
returns-in-None-Some-clause-counted g c = λ ts within. rose_more 0 0 0 0 (merges_by (option_copied c.args.a) (option_copied c.args.b)) (merges_by (option_copied c.args.a) (option_copied c.args.b) * distinct_keys ts) _ _ (omega arith) (omega arith) (omega arith) (rose_none _)

pub returns-in-Ok-clause-counted : goal.returns-in-Ok-clause-counted
returns-in-Ok-clause-counted g c = λ ts within.
    let a = c.in-Some-Some.left.now in
    let b = c.in-Some-Some.right.now in
    let leaf = subst (λ o. IfSome (option_copied o) (IsLeaf g.J.Job.good (g.J.Job.setting c.args.job.now))) c.in-Some-Some.is-0 c.requires.left in
    let inside = subst (λ o. IfSome (option_copied o) (λ s. IsWithin s.entries ts)) c.in-Some-Some.is-0 within in
    let few = common-within a.entries b.entries ts leaf.rising inside in
    let rose = rose_more 0 1 (common_keys a.entries b.entries) 0 1 (1 * distinct_keys ts) _ _ (omega arith) (omega arith) (omega (arith, few)) c.merge_through.ensures.counted in
    subst (λ x. RoseBy 0 (merges_by (option_copied x) (option_copied c.args.b)) (merges_by (option_copied x) (option_copied c.args.b) * distinct_keys ts) (g.J.Meter.Meter.counts c.args.m.now) (g.J.Meter.Meter.counts c.merge_through.new.m)) (sym c.in-Some-Some.is-0)
    (subst (λ y. RoseBy 0 (merges_by (Some a) (option_copied y)) (merges_by (Some a) (option_copied y) * distinct_keys ts) (g.J.Meter.Meter.counts c.args.m.now) (g.J.Meter.Meter.counts c.merge_through.new.m)) (sym c.in-Some-Some.is-1) rose)

pub returns-in-Err-clause-counted : goal.returns-in-Err-clause-counted
returns-in-Err-clause-counted g c = λ ts within.
    let a = c.in-Some-Some.left.now in
    let b = c.in-Some-Some.right.now in
    let leaf = subst (λ o. IfSome (option_copied o) (IsLeaf g.J.Job.good (g.J.Job.setting c.args.job.now))) c.in-Some-Some.is-0 c.requires.left in
    let inside = subst (λ o. IfSome (option_copied o) (λ s. IsWithin s.entries ts)) c.in-Some-Some.is-0 within in
    let few = common-within a.entries b.entries ts leaf.rising inside in
    let rose = rose_more 0 1 (common_keys a.entries b.entries) 0 1 (1 * distinct_keys ts) _ _ (omega arith) (omega arith) (omega (arith, few)) c.merge_through.ensures.counted in
    subst (λ x. RoseBy 0 (merges_by (option_copied x) (option_copied c.args.b)) (merges_by (option_copied x) (option_copied c.args.b) * distinct_keys ts) (g.J.Meter.Meter.counts c.args.m.now) (g.J.Meter.Meter.counts c.merge_through.new.m)) (sym c.in-Some-Some.is-0)
    (subst (λ y. RoseBy 0 (merges_by (Some a) (option_copied y)) (merges_by (Some a) (option_copied y) * distinct_keys ts) (g.J.Meter.Meter.counts c.args.m.now) (g.J.Meter.Meter.counts c.merge_through.new.m)) (sym c.in-Some-Some.is-1) rose)

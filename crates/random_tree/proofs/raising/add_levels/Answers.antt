use Rattle.std.proofs.Common.{refl, arith, vec_len}
use Rattle.random_tree.proofs.RaiseLaws.{adds-none, adds-more, enough-more}
use Rattle.random_tree.proofs.raising.add_levels.Goals as goal

pub levels-init : goal.levels-init
levels-init g c = adds-none c.args.levels.now.items c.args.levels.now.items refl

pub levels-preserved : goal.levels-preserved
levels-preserved g c = adds-more c.args.levels.now.items c.levels.levels.items c.push.new.self.items c.new.result c.levels.invariant c.in_ok-push.ensures.items c.new.ensures.groups c.new.ensures.undrafted

pub returns-in_err-push-clause-adds : goal.returns-in_err-push-clause-adds
returns-in_err-push-clause-adds g c = rw c.in_err-push.ensures.items c.levels.invariant

pub returns-clause-enough : goal.returns-clause-enough
returns-clause-enough g c = enough-more c.args.leaves c.levels_over-needed.result (vec_len c.levels.levels) c.levels_over-needed.ensures.enough (let t = c.levels-test.false in let n = c.len.ensures in omega (arith, t, n))

use Rattle.std.proofs.Common.{◌≡◌, ◌-◌, length, take, refl, ap, ◌∙◌, arith}
use Rattle.pin_table.proofs.Covering.{covered-right, balanced-beside}
use Rattle.tree_laws.specs.Pairs.{pair_digest}
use Rattle.random_tree.specs.Levels.{groups_pins, now_of, fresh_of}
use Rattle.random_tree.proofs.reverting.revert.Goals as goal

pub drop_last-requires-clause-covered : goal.drop_last-requires-clause-covered
drop_last-requires-clause-covered g c =
    let d = pair_digest g.J.Job.encoded in
    let l = c.args.level.now in
    covered-right c.args.caller.now (groups_pins d (now_of l)) (groups_pins d (fresh_of l)) c.requires.covered

pub drop_last-requires-clause-within : goal.drop_last-requires-clause-within
drop_last-requires-clause-within g c = let n = c.len-count.ensures in let ok = c.args.level.now.draft.fresh.ok.0 in omega (arith, n, ok)

pub returns-clause-undrafted : goal.returns-clause-undrafted
returns-clause-undrafted g c =
    let n = c.len-count.ensures in
    let ok = c.args.level.now.draft.fresh.ok.0 in
    let none : length c.args.level.now.draft.fresh.items - c.len-count.result ≡ 0 = omega (arith, n, ok) in
    (refl, refl, c.drop_last.ensures.items ∙ ap (λ k. take k c.args.level.now.draft.fresh.items) none)

pub returns-clause-balanced : goal.returns-clause-balanced
returns-clause-balanced g c =
    let d = pair_digest g.J.Job.encoded in
    let l = c.args.level.now in
    balanced-beside c.args.caller.now c.drop_last.new.caller (groups_pins d (now_of l)) (groups_pins d (fresh_of l)) (groups_pins d c.drop_last.new.groups.items) c.drop_last.ensures.balanced

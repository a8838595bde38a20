use Rattle.std.proofs.Common.{◌≡◌, true, false, []}
use Rattle.pin_table.proofs.Covering.{balanced-same}
use Rattle.tree_laws.specs.Pairs.{pair_digest}
use Rattle.tree_laws.specs.Holds.{all_pins}
use Rattle.tree_laws.proofs.LeafLaws.{rose-still}
use Rattle.tree_laws.proofs.GetLaws.{gets-none, gets-covered, gets-undone}
use Rattle.coalescing_tree.proofs.growing.draft_over.Goals as goal

pub returns-then-standing-leaves-clause-got : goal.returns-then-standing-leaves-clause-got
returns-then-standing-leaves-clause-got g c = gets-none c.args.caller.now

pub returns-then-standing-leaves-clause-loose : goal.returns-then-standing-leaves-clause-loose
returns-then-standing-leaves-clause-loose g c = λ h. absurd (let no : false ≡ true = h in cc)

pub returns-then-standing-leaves-clause-counted : goal.returns-then-standing-leaves-clause-counted
returns-then-standing-leaves-clause-counted g c = rose-still _ _ (g.J.Meter.Meter.counts c.args.m.now)

pub returns-in-Err-clause-err : goal.returns-in-Err-clause-err
returns-in-Err-clause-err g c = balanced-same c.args.caller.now []

pub returns-in-Err-clause-counted : goal.returns-in-Err-clause-counted
returns-in-Err-clause-counted g c = rose-still _ _ (g.J.Meter.Meter.counts c.args.m.now)

pub let_all_go-requires-clause-covered : goal.let_all_go-requires-clause-covered
let_all_go-requires-clause-covered g c =
    gets-covered c.args.caller.now c.grow.new.caller (all_pins (pair_digest g.J.Job.encoded) c.grow.new.made.items) c.grow.ensures.got

pub returns-in-Err-grow-clause-err : goal.returns-in-Err-grow-clause-err
returns-in-Err-grow-clause-err g c =
    gets-undone c.args.caller.now c.grow.new.caller c.let_all_go.new.caller (all_pins (pair_digest g.J.Job.encoded) c.grow.new.made.items) c.grow.ensures.got c.let_all_go.ensures

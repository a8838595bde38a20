use Rattle.std.proofs.Common.{◌++◌, subst}
use Rattle.pin_table.specs.Covers.{Balanced}
use Rattle.tree_laws.specs.Pairs.{pair_digest}
use Rattle.rotating_tree.specs.Nodes.{draft_pins}
use Rattle.rotating_tree.proofs.reverting.drop_draft.Goals as goal

pub returns-clause-balanced : goal.returns-clause-balanced
returns-clause-balanced g c = λ ps. subst (λ x. Balanced c.args.caller.now (draft_pins (pair_digest g.J.Job.encoded) x ++ ps) c.let_part_go.new.caller ps) c.in-New.ensures.value (c.let_part_go.ensures ps)

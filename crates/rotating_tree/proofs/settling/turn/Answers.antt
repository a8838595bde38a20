use Rattle.std.proofs.Common.{◌++◌, [], sym, subst}
use Rattle.pin_table.specs.Covers.{Covered, Balanced}
use Rattle.pin_table.proofs.Covering.{covered-left}
use Rattle.tree_laws.specs.Pairs.{pair_digest}
use Rattle.rotating_tree.specs.Nodes.{part_pins, draft_pins}
use Rattle.rotating_tree.proofs.PinLaws.{turn-balanced}
use Rattle.rotating_tree.proofs.settling.turn.Goals as goal

pub let_part_go-requires-clause-covered : goal.let_part_go-requires-clause-covered
let_part_go-requires-clause-covered g c =
    let d = pair_digest g.J.Job.encoded in
    subst (λ p. Covered c.args.caller.now (part_pins d p)) (sym c.replace-old.ensures.value) (covered-left c.args.caller.now (part_pins d c.args.now.now) (draft_pins d c.args.draft.now) c.requires.covered)

pub returns-clause-balanced : goal.returns-clause-balanced
returns-clause-balanced g c =
    let d = pair_digest g.J.Job.encoded in
    let u = c.args.caller.now in
    let w = c.let_part_go.new.caller in
    let new = part_pins d c.in-New.part in
    subst (λ p. Balanced u (part_pins d c.args.now.now ++ draft_pins d c.args.draft.now) w (part_pins d p ++ draft_pins d c.replace.new.dest)) (sym c.replace-old.ensures.after)
    (subst (λ x. Balanced u (part_pins d c.args.now.now ++ draft_pins d c.args.draft.now) w (new ++ draft_pins d x)) (sym c.replace.ensures.after)
    (subst (λ x. Balanced u (part_pins d c.args.now.now ++ draft_pins d x) w (new ++ [])) c.in-New.ensures.value
    (subst (λ p. Balanced u (part_pins d p ++ new) w (new ++ [])) c.replace-old.ensures.value (turn-balanced u w (part_pins d c.replace-old.result) new c.let_part_go.ensures))))

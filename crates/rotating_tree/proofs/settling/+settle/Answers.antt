use Rattle.std.proofs.Common.{rules, ◌++◌, sym, ◌∙◌, subst}
use Rattle.pin_table.specs.Covers.{Covered, Balanced}
use Rattle.pin_table.proofs.Covering.{covered-left}
use Rattle.tree_laws.specs.Pairs.{pair_digest}
use Rattle.rotating_tree.specs.Nodes.{IsMarked, part_pins, draft_pins, node_pins}
use Rattle.rotating_tree.proofs.NodeLaws.{at-fork, stays-taken, marked-below}
use Rattle.tree_laws.proofs.TradeLaws.{covered-rest}
use Rattle.rotating_tree.proofs.PinLaws.{balanced-three}
use Rattle.rotating_tree.proofs.settling.+settle.Goals as goal

pub settle-returns-then-stays-clause-taken : goal.settle-returns-then-stays-clause-taken
settle-returns-then-stays-clause-taken g t c = stays-taken c.args.node.now c.requires.marked (sym c.stays.ensures ∙ c.if-stays.true)

pub settle-turn-requires-clause-covered : goal.settle-turn-requires-clause-covered
settle-turn-requires-clause-covered g t c = subst (λ m. Covered c.args.caller.now (node_pins (pair_digest g.J.Job.encoded) m)) c.in-Leaf.is c.requires.covered

pub settle-settle_fork-requires : goal.settle-settle_fork-requires
settle-settle_fork-requires g t c κs within =
    let d = pair_digest g.J.Job.encoded in
    let u = c.args.caller.now in
    let l = c.deref_mut.result.now in
    let r = c.deref_mut-in-Fork.result.now in
    let is = at-fork c.args.node.now c.in-Fork.left.value c.in-Fork.right.value l r _ _ c.in-Fork.now c.in-Fork.draft c.in-Fork.is c.deref_mut.ensures.value c.deref_mut-in-Fork.ensures.value in
    let marked = marked-below c.in-Fork.draft l r (subst IsMarked is c.requires.marked) in
    let covered = subst (λ m. Covered u (node_pins d m)) is c.requires.covered in
    (search rules, (search rules, (search rules, (search rules, (search rules, (c.requires.of, (covered, marked)))))))

pub settle-returns-in-Leaf-clause-balanced : goal.settle-returns-in-Leaf-clause-balanced
settle-returns-in-Leaf-clause-balanced g t c =
    let d = pair_digest g.J.Job.encoded in
    subst (λ m. Balanced c.args.caller.now (node_pins d m) c.turn.new.caller (part_pins d c.turn.new.now ++ draft_pins d c.turn.new.draft)) (sym c.in-Leaf.is) c.turn.ensures.balanced

pub settle-returns-in-Fork-clause-balanced : goal.settle-returns-in-Fork-clause-balanced
settle-returns-in-Fork-clause-balanced g t c =
    let d = pair_digest g.J.Job.encoded in
    let u = c.args.caller.now in
    let w = c.settle_fork.new.caller in
    let l = c.deref_mut.result.now in
    let r = c.deref_mut-in-Fork.result.now in
    let is = at-fork c.args.node.now c.in-Fork.left.value c.in-Fork.right.value l r _ _ c.in-Fork.now c.in-Fork.draft c.in-Fork.is c.deref_mut.ensures.value c.deref_mut-in-Fork.ensures.value in
    subst (λ m. Balanced u (node_pins d m) w (node_pins d c.settle_fork.new.left ++ (node_pins d c.settle_fork.new.right ++ (part_pins d c.settle_fork.new.now ++ draft_pins d c.settle_fork.new.draft)))) (sym is) c.settle_fork.ensures.balanced

pub settle_fork-settle-requires : goal.settle_fork-settle-requires
settle_fork-settle-requires g t c κs within =
    let d = pair_digest g.J.Job.encoded in
    let own = part_pins d c.args.now.now ++ draft_pins d c.args.draft.now in
    let covered = covered-left c.args.caller.now (node_pins d c.args.left.now) (node_pins d c.args.right.now ++ own) c.requires.covered in
    (search rules, (search rules, (search rules, (search rules, (search rules, (c.requires.of, (covered, c.requires.marked.0)))))))

pub settle_fork-settle-requires-2 : goal.settle_fork-settle-requires-2
settle_fork-settle-requires-2 g t c κs within =
    let d = pair_digest g.J.Job.encoded in
    let own = part_pins d c.args.now.now ++ draft_pins d c.args.draft.now in
    let u = c.args.caller.now in
    let v = c.settle.new.caller in
    let rest = covered-rest u v (node_pins d c.args.left.now) (node_pins d c.args.right.now ++ own) (node_pins d c.settle.new.node) c.requires.covered c.settle.ensures.balanced in
    let covered = covered-left v (node_pins d c.args.right.now) own rest in
    (search rules, (search rules, (search rules, (search rules, (search rules, (c.settle.ensures.balanced.later.locks ∙ c.requires.of, (covered, c.requires.marked.1)))))))

pub settle_fork-turn-requires-clause-covered : goal.settle_fork-turn-requires-clause-covered
settle_fork-turn-requires-clause-covered g t c =
    let d = pair_digest g.J.Job.encoded in
    let own = part_pins d c.args.now.now ++ draft_pins d c.args.draft.now in
    let u = c.args.caller.now in
    let v = c.settle.new.caller in
    let rest = covered-rest u v (node_pins d c.args.left.now) (node_pins d c.args.right.now ++ own) (node_pins d c.settle.new.node) c.requires.covered c.settle.ensures.balanced in
    covered-rest v c.settle-2.new.caller (node_pins d c.args.right.now) own (node_pins d c.settle-2.new.node) rest c.settle-2.ensures.balanced

pub settle_fork-returns-clause-balanced : goal.settle_fork-returns-clause-balanced
settle_fork-returns-clause-balanced g t c =
    let d = pair_digest g.J.Job.encoded in
    balanced-three c.args.caller.now c.settle.new.caller c.settle-2.new.caller c.turn.new.caller (node_pins d c.args.left.now) (node_pins d c.args.right.now) (part_pins d c.args.now.now ++ draft_pins d c.args.draft.now) (node_pins d c.settle.new.node) (node_pins d c.settle-2.new.node) (part_pins d c.turn.new.now ++ draft_pins d c.turn.new.draft)
    c.settle.ensures.balanced c.settle-2.ensures.balanced c.turn.ensures.balanced

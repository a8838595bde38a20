use Rattle.std.proofs.Common.{rules, ◌++◌, sym, ◌∙◌, subst}
use Rattle.pin_table.specs.Covers.{Covered, Balanced}
use Rattle.pin_table.proofs.Covering.{covered-left, covered-right}
use Rattle.tree_laws.specs.Pairs.{pair_digest}
use Rattle.rotating_tree.specs.Nodes.{IsMarked, part_pins, draft_pins, node_pins}
use Rattle.rotating_tree.proofs.NodeLaws.{at-fork, stays-undrafted, marked-below}
use Rattle.tree_laws.proofs.TradeLaws.{covered-rest}
use Rattle.rotating_tree.proofs.PinLaws.{between-balanced, between-covered, balanced-three, drop-balanced, drop-alone}
use Rattle.rotating_tree.proofs.reverting.+revert.Goals as goal

pub revert-returns-then-stays-clause-undrafted : goal.revert-returns-then-stays-clause-undrafted
revert-returns-then-stays-clause-undrafted g t c = stays-undrafted c.args.node.now c.requires.marked (sym c.stays.ensures ∙ c.if-stays.true)

pub revert-drop_draft-requires-clause-covered : goal.revert-drop_draft-requires-clause-covered
revert-drop_draft-requires-clause-covered g t c =
    let d = pair_digest g.J.Job.encoded in
    covered-right c.args.caller.now (part_pins d c.in-Leaf.field-0) (draft_pins d c.in-Leaf.draft) (subst (λ m. Covered c.args.caller.now (node_pins d m)) c.in-Leaf.is c.requires.covered)

pub revert-revert_fork-requires : goal.revert-revert_fork-requires
revert-revert_fork-requires g t c κs within =
    let d = pair_digest g.J.Job.encoded in
    let u = c.args.caller.now in
    let l = c.deref_mut.result.now in
    let r = c.deref_mut-in-Fork.result.now in
    let is = at-fork c.args.node.now c.in-Fork.left.value c.in-Fork.right.value l r _ _ c.in-Fork.field-2 c.in-Fork.draft c.in-Fork.is c.deref_mut.ensures.value c.deref_mut-in-Fork.ensures.value in
    let marked = marked-below c.in-Fork.draft l r (subst IsMarked is c.requires.marked) in
    let covered = between-covered u (node_pins d l) (node_pins d r) (part_pins d c.in-Fork.field-2) (draft_pins d c.in-Fork.draft) (subst (λ m. Covered u (node_pins d m)) is c.requires.covered) in
    (search rules, (search rules, (search rules, (search rules, (search rules, (c.requires.of, (covered, marked)))))))

pub revert-returns-in-Leaf-clause-balanced : goal.revert-returns-in-Leaf-clause-balanced
revert-returns-in-Leaf-clause-balanced g t c =
    let d = pair_digest g.J.Job.encoded in
    let u = c.args.caller.now in
    let w = c.drop_draft.new.caller in
    let own = part_pins d c.in-Leaf.field-0 in
    subst (λ m. Balanced u (node_pins d m) w (own ++ draft_pins d c.drop_draft.new.draft)) (sym c.in-Leaf.is)
    (subst (λ x. Balanced u (own ++ draft_pins d c.in-Leaf.draft) w (own ++ draft_pins d x)) (sym c.drop_draft.ensures.draft)
    (drop-balanced u w own (draft_pins d c.in-Leaf.draft) c.drop_draft.ensures.balanced))

pub revert-returns-in-Fork-clause-balanced : goal.revert-returns-in-Fork-clause-balanced
revert-returns-in-Fork-clause-balanced g t c =
    let d = pair_digest g.J.Job.encoded in
    let u = c.args.caller.now in
    let w = c.revert_fork.new.caller in
    let l = c.deref_mut.result.now in
    let r = c.deref_mut-in-Fork.result.now in
    let own = part_pins d c.in-Fork.field-2 in
    let is = at-fork c.args.node.now c.in-Fork.left.value c.in-Fork.right.value l r _ _ c.in-Fork.field-2 c.in-Fork.draft c.in-Fork.is c.deref_mut.ensures.value c.deref_mut-in-Fork.ensures.value in
    let l1 = node_pins d c.revert_fork.new.left in
    let r1 = node_pins d c.revert_fork.new.right in
    let d1 = draft_pins d c.revert_fork.new.draft in
    subst (λ m. Balanced u (node_pins d m) w (l1 ++ (r1 ++ (own ++ d1)))) (sym is)
    (between-balanced u w (node_pins d l) (node_pins d r) own (draft_pins d c.in-Fork.draft) l1 r1 d1 c.revert_fork.ensures.balanced)

pub revert_fork-revert-requires : goal.revert_fork-revert-requires
revert_fork-revert-requires g t c κs within =
    let d = pair_digest g.J.Job.encoded in
    let covered = covered-left c.args.caller.now (node_pins d c.args.left.now) (node_pins d c.args.right.now ++ draft_pins d c.args.draft.now) c.requires.covered in
    (search rules, (search rules, (search rules, (search rules, (search rules, (c.requires.of, (covered, c.requires.marked.0)))))))

pub revert_fork-revert-requires-2 : goal.revert_fork-revert-requires-2
revert_fork-revert-requires-2 g t c κs within =
    let d = pair_digest g.J.Job.encoded in
    let u = c.args.caller.now in
    let v = c.revert.new.caller in
    let rest = covered-rest u v (node_pins d c.args.left.now) (node_pins d c.args.right.now ++ draft_pins d c.args.draft.now) (node_pins d c.revert.new.node) c.requires.covered c.revert.ensures.balanced in
    let covered = covered-left v (node_pins d c.args.right.now) (draft_pins d c.args.draft.now) rest in
    (search rules, (search rules, (search rules, (search rules, (search rules, (c.revert.ensures.balanced.later.locks ∙ c.requires.of, (covered, c.requires.marked.1)))))))

pub revert_fork-drop_draft-requires-clause-covered : goal.revert_fork-drop_draft-requires-clause-covered
revert_fork-drop_draft-requires-clause-covered g t c =
    let d = pair_digest g.J.Job.encoded in
    let u = c.args.caller.now in
    let v = c.revert.new.caller in
    let rest = covered-rest u v (node_pins d c.args.left.now) (node_pins d c.args.right.now ++ draft_pins d c.args.draft.now) (node_pins d c.revert.new.node) c.requires.covered c.revert.ensures.balanced in
    covered-rest v c.revert-2.new.caller (node_pins d c.args.right.now) (draft_pins d c.args.draft.now) (node_pins d c.revert-2.new.node) rest c.revert-2.ensures.balanced

pub revert_fork-returns-clause-balanced : goal.revert_fork-returns-clause-balanced
revert_fork-returns-clause-balanced g t c =
    let d = pair_digest g.J.Job.encoded in
    let w = c.revert-2.new.caller in
    let x = c.drop_draft.new.caller in
    let ds = draft_pins d c.args.draft.now in
    let last : Balanced w ds x (draft_pins d c.drop_draft.new.draft) = subst (λ y. Balanced w ds x (draft_pins d y)) (sym c.drop_draft.ensures.draft) (drop-alone w x ds c.drop_draft.ensures.balanced) in
    balanced-three c.args.caller.now c.revert.new.caller w x (node_pins d c.args.left.now) (node_pins d c.args.right.now) ds (node_pins d c.revert.new.node) (node_pins d c.revert-2.new.node) (draft_pins d c.drop_draft.new.draft)
    c.revert.ensures.balanced c.revert-2.ensures.balanced last

use Rattle.std.proofs.Common.{◌≡◌, inl, true, ap, ◌∙◌, sym, subst}
use Rattle.pin_table.specs.Covers.{AreGiven}
use Rattle.pin_table.proofs.Covering.{balanced-then, covered-then, all-given-later, later-then}
use Rattle.tree_laws.specs.Pairs.{pair_digest}
use Rattle.rotating_tree.specs.Nodes.{taken, node_pins, node_loose}
use Rattle.rotating_tree.proofs.NodeLaws.{settled-taken}
use Rattle.rotating_tree.proofs.circle.advance.Goals as goal

pub returns-in-Ok-clause-ok : goal.returns-in-Ok-clause-ok
returns-in-Ok-clause-ok g c = record {
  same = c.redraft.ensures.kept;
  sound = c.in-Ok.ensures.sound;
  leaves_are = c.redraft.ensures.leaves;
  slots_are = c.in-Ok.ensures.slots;
  rest = c.redraft.ensures.rest;
  marked = c.redraft.ensures.marked;
}

pub returns-in-Ok-clause-given : goal.returns-in-Ok-clause-given
returns-in-Ok-clause-given g c = c.redraft.ensures.given c.requires.covered.given

pub revert-requires-clause-of : goal.revert-requires-clause-of
revert-requires-clause-of g c = c.redraft.ensures.balanced.later.locks ∙ c.requires.of

pub revert-requires-clause-covered : goal.revert-requires-clause-covered
revert-requires-clause-covered g c =
    let d = pair_digest g.J.Job.encoded in
    covered-then c.args.caller.now c.redraft.new.caller (node_pins d c.args.node.now) (node_pins d c.redraft.new.node) c.requires.covered c.redraft.ensures.balanced (c.redraft.ensures.given c.requires.covered.given)

pub returns-in-Err-clause-err : goal.returns-in-Err-clause-err
returns-in-Err-clause-err g c = c.revert.ensures.undrafted ∙ c.redraft.ensures.kept

pub returns-in-Err-clause-balanced : goal.returns-in-Err-clause-balanced
returns-in-Err-clause-balanced g c =
    let d = pair_digest g.J.Job.encoded in
    balanced-then c.args.caller.now c.redraft.new.caller c.revert.new.caller (node_pins d c.args.node.now) (node_pins d c.redraft.new.node) (node_pins d c.revert.new.node) c.redraft.ensures.balanced c.revert.ensures.balanced

pub returns-in-Err-clause-given : goal.returns-in-Err-clause-given
returns-in-Err-clause-given g c =
    let d = pair_digest g.J.Job.encoded in
    subst (λ m. AreGiven c.revert.new.caller (node_pins d m)) (sym (c.revert.ensures.undrafted ∙ c.redraft.ensures.kept))
    (all-given-later c.args.caller.now c.revert.new.caller (node_pins d c.args.node.now) (later-then c.args.caller.now c.redraft.new.caller c.revert.new.caller c.redraft.ensures.balanced.later c.revert.ensures.balanced.later) c.requires.covered.given)

pub returns-in-Err-clause-loose : goal.returns-in-Err-clause-loose
returns-in-Err-clause-loose g c = λ e. inl (subst (λ m. node_loose m ≡ true) (ap taken (c.revert.ensures.undrafted ∙ c.redraft.ensures.kept) ∙ settled-taken c.args.node.now c.requires.settled) e)

use Rattle.std.proofs.Common.{arith, ◌≡◌, Some, drop, length, ap, ◌∙◌, sym, subst}
use Rattle.std.proofs.lemmas.List.{drop-set-lt}
use Rattle.tree_laws.specs.Trees.{IsLeaf}
use Rattle.rotating_tree.specs.Nodes.{AllSome, taken, places}
use Rattle.rotating_tree.specs.Circles.{slots}
use Rattle.rotating_tree.proofs.NodeLaws.{length-places, size-taken}
use Rattle.rotating_tree.proofs.SlotLaws.{set_slots}
use Rattle.rotating_tree.proofs.FoundLaws.{all-set}
use Rattle.rotating_tree.proofs.circle.put_in_turn.Goals as goal

pub put-requires-clause-within : goal.put-requires-clause-within
put-requires-clause-within g c = omega (arith, c.place_of.ensures.0)

pub returns-clause-step : goal.returns-clause-step
returns-clause-step g c = record {
  kept = c.put.ensures.kept;
  rest = ap (drop c.args.n) c.put.ensures.places ∙ drop-set-lt c.args.n (places (taken c.args.node.now)) c.place_of.result (Some c.args.sheet) c.place_of.ensures.0;
  staged = c.put.ensures.staged;
  few = c.put.ensures.drafts.0;
  pins = c.put.ensures.pins;
  loose = c.put.ensures.loose;
}

pub returns-clause-slots : goal.returns-clause-slots
returns-clause-slots g c =
    let long : length (places (taken c.args.node.now)) ≡ c.args.width = length-places _ ∙ size-taken _ ∙ sym c.requires.width.0 in
    ap (slots c.args.n c.args.start) c.put.ensures.places ∙ set_slots c.args.n c.args.start c.args.at c.place_of.result (places (taken c.args.node.now)) (Some c.args.sheet) (omega arith) c.requires.width.2 c.requires.width.3 c.place_of.ensures

pub returns-clause-leaves : goal.returns-clause-leaves
returns-clause-leaves g c = λ setting leaf all. subst (AllSome (IsLeaf g.J.Job.good setting)) (sym c.put.ensures.places) (all-set (IsLeaf g.J.Job.good setting) (places (taken c.args.node.now)) c.place_of.result c.args.sheet all leaf)

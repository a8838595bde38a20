use Rattle.std.proofs.Common.{◌≡◌, List, ◌++◌, [], map, take, drop, length, ap, subst, ◌∙◌}
use Rattle.std.specs.List.{All}
use Rattle.pin_table.specs.Covers.{PinName}
use Rattle.tree_laws.specs.Pairs.{pair_digest}
use Rattle.tree_laws.specs.Trees.{IsLeaf}
use Rattle.folding_tree.specs.declared.part.Part.TheVariants.{Shared}
use Rattle.folding_tree.specs.Levels.{parts_pins}
use Rattle.folding_tree.proofs.BuildLaws.{leaves-at, shared-pins}
use Rattle.folding_tree.proofs.beginning.begin.Goals as goal

pub returns-clause-changed : goal.returns-clause-changed
returns-clause-changed g c = c.in_ok-changed.ensures.parts ∙ ap (map Shared) (c.split_at.ensures.front ∙ ap (λ k. take k c.args.news.now) c.len.ensures.count)

pub returns-clause-fresh : goal.returns-clause-fresh
returns-clause-fresh g c = c.in_ok-fresh.ensures.parts ∙ ap (map Shared) (c.split_at.ensures.back ∙ ap (λ k. drop k c.args.news.now) c.len.ensures.count)

pub returns-clause-leaves : goal.returns-clause-leaves
returns-clause-leaves g c = λ setting same.
    leaves-at g.J.Job.good setting (length c.args.changed.now) c.args.news.now
    (subst (All (λ s. IsLeaf g.J.Job.good s.setting s)) (c.split_at.ensures.front ∙ ap (λ k. take k c.args.news.now) c.len.ensures.count) c.in_ok-changed.ensures.leaves)
    (subst (All (λ s. IsLeaf g.J.Job.good s.setting s)) (c.split_at.ensures.back ∙ ap (λ k. drop k c.args.news.now) c.len.ensures.count) c.in_ok-fresh.ensures.leaves) same

pub returns-clause-pins : goal.returns-clause-pins
returns-clause-pins g c =
    let d = pair_digest g.J.Job.encoded in
    let a : parts_pins {J = g.row.J.Denot} {V = g.row.J-Val.Denot} {M = g.row.J-Meter.Denot} d c.in_ok-changed.changed.items ≡ [] = ap (parts_pins d) c.in_ok-changed.ensures.parts ∙ shared-pins g.row.J.Denot g.row.J-Val.Denot g.row.J-Meter.Denot d c.split_at.result.0.now in
    let b : parts_pins {J = g.row.J.Denot} {V = g.row.J-Val.Denot} {M = g.row.J-Meter.Denot} d c.in_ok-fresh.fresh.items ≡ [] = ap (parts_pins d) c.in_ok-fresh.ensures.parts ∙ shared-pins g.row.J.Denot g.row.J-Val.Denot g.row.J-Meter.Denot d c.split_at.result.1.now in
    ap (λ (ps : List PinName). ps ++ parts_pins d c.in_ok-fresh.fresh.items) a ∙ b

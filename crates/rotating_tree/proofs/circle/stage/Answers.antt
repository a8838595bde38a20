use Rattle.std.proofs.Common.{arith, ◌≡◌, ◌+◌, drop, length, ap, ◌∙◌, sym, subst}
use Rattle.std.proofs.lemmas.Result.{on_ok_weaker}
use Rattle.std.specs.Prelude.{All}
use Rattle.sheets.specs.Sheets.{SheetOf}
use Rattle.tree_laws.specs.Pairs.{pair_digest}
use Rattle.rotating_tree.specs.Nodes.{taken, places}
use Rattle.rotating_tree.specs.Circles.{slots, with_fresh}
use Rattle.rotating_tree.proofs.NodeLaws.{even-kept, size-kept}
use Rattle.std.proofs.lemmas.List.Elements.{All-drop}
use Rattle.rotating_tree.proofs.StageLaws.{staged-then, staged-more}
use Rattle.rotating_tree.proofs.circle.stage.Goals as goal

pub returns-in_err-stage_places-clause-step : goal.returns-in_err-stage_places-clause-step
returns-in_err-stage_places-clause-step g c = staged-more (pair_digest g.J.Job.encoded) c.args.n (length c.args.changed.now) (length c.args.news.now) c.args.node.now c.stage_places.new.node (omega arith) c.stage_places.ensures.step

pub stage_fresh-requires-clause-even : goal.stage_fresh-requires-clause-even
stage_fresh-requires-clause-even g c = even-kept _ _ c.stage_places.ensures.step.kept c.requires.even

pub stage_fresh-requires-clause-width : goal.stage_fresh-requires-clause-width
stage_fresh-requires-clause-width g c = (c.requires.width.0 ∙ sym (size-kept _ _ c.stage_places.ensures.step.kept), c.requires.width.1, c.requires.width.2)

pub returns-clause-step : goal.returns-clause-step
returns-clause-step g c =
    let a = length c.args.changed.now in
    let b = length c.split_at.result.1.now in
    staged-more (pair_digest g.J.Job.encoded) c.args.n (a + b) (length c.args.news.now) c.args.node.now c.stage_fresh.new.node (omega (arith, c.split_at.ensures.back_len))
    (staged-then (pair_digest g.J.Job.encoded) c.args.n a b c.args.node.now c.stage_places.new.node c.stage_fresh.new.node c.stage_places.ensures.step c.stage_fresh.ensures.step)

pub returns-clause-slots : goal.returns-clause-slots
returns-clause-slots g c =
    let rest : c.split_at.result.1.now ≡ drop (length c.args.changed.now) c.args.news.now = c.split_at.ensures.back ∙ ap (λ k. drop k c.args.news.now) c.len.ensures.count in
    on_ok_weaker c.stage_fresh.result (λ e. e
    ∙ ap (λ xs. with_fresh c.args.kept xs (slots c.args.n c.args.start (places (taken c.stage_places.new.node)))) rest
    ∙ ap (with_fresh c.args.kept (drop (length c.args.changed.now) c.args.news.now)) c.in_ok-stage_places.ensures.slots) c.stage_fresh.ensures.slots

pub returns-clause-leaves : goal.returns-clause-leaves
returns-clause-leaves g c = λ setting all olds.
    let is : c.split_at.result.1.now ≡ drop (length c.args.changed.now) c.args.news.now = c.split_at.ensures.back ∙ ap (λ k. drop k c.args.news.now) c.len.ensures.count in
    let rest = subst (All (λ (s : SheetOf g.row.J-Val.Denot). s.setting ≡ setting)) (sym is) (All-drop (λ (s : SheetOf g.row.J-Val.Denot). s.setting ≡ setting) (length c.args.changed.now) c.args.news.now all) in
    c.stage_fresh.ensures.leaves setting rest (c.stage_places.ensures.leaves setting all olds)

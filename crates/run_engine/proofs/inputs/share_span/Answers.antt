use Rattle.std.proofs.Common.{rules, ◌≡◌, ◌-◌, ◌<◌, ◌≤◌, List, [], ◌∷◌, ◌++◌, length, take, drop, sym, ap, ◌∙◌, append_assoc}
use Rattle.map_tasks.specs.Inputs.{InputView}
use Rattle.run_engine.proofs.Spans.{span-more}
use Rattle.run_engine.proofs.inputs.share_span.Goals as goal

pub leaves-preserved : goal.leaves-preserved
leaves-preserved c =
    let xs = c.args.leaves.now.items in
    let i = c.leaves.i in
    let x = c.index.result.now in
    let le : c.args.from ≤ i = search rules in
    let lt : i < length xs = search rules in
    let made : c.in_ok-share.field-0 ≡ x = search rules in
    let pushed : c.push.new.self.items ≡ c.leaves.inputs.items ++ c.in_ok-share.field-0 ∷ [] = search rules in
    pushed
    ∙ ap (λ (l : List InputView). l ++ c.in_ok-share.field-0 ∷ []) c.leaves.invariant
    ∙ append_assoc c.args.inputs.now.items (take (i - c.args.from) (drop c.args.from xs)) (c.in_ok-share.field-0 ∷ [])
    ∙ ap (λ (y : InputView). c.args.inputs.now.items ++ (take (i - c.args.from) (drop c.args.from xs) ++ y ∷ [])) (made ∙ c.index.ensures)
    ∙ ap (λ (l : List InputView). c.args.inputs.now.items ++ l) (sym (span-more xs c.args.from i x le lt))

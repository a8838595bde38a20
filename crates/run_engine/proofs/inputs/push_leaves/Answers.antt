use Rattle.std.proofs.Common.{rules, ◌≡◌, ℕ, ◌-◌, ◌<◌, ◌≤◌, List, [], ◌++◌, length, map, take, drop, sym, ap, ◌∙◌, arith, append-nil}
use Rattle.std.specs.Prelude.{slice_index_or}
use Rattle.window_manager.specs.Windows.{Leaf}
use Rattle.run_engine.specs.Inputs.{input_for}
use Rattle.run_engine.proofs.Spans.{span-more, pushed-more}
use Rattle.run_engine.proofs.inputs.push_leaves.Goals as goal

pub leaves-init : goal.leaves-init
leaves-init c =
    let z : c.args.from - c.args.from ≡ 0 = omega arith in
    sym (append-nil c.args.inputs.now.items) ∙ ap (λ (n : ℕ). c.args.inputs.now.items ++ map (input_for c.args.parts c.args.setting) (take n (drop c.args.from c.args.window.now.window.leaves))) (sym z)

pub leaves-preserved : goal.leaves-preserved
leaves-preserved c =
    let xs = c.args.window.now.window.leaves in
    let i = c.leaves.i in
    let le : c.args.from ≤ i = search rules in
    let lt : i < length xs = search rules in
    let x = slice_index_or xs i [] in
    let more = span-more xs c.args.from i [] le lt in
    let made : c.new.result ≡ input_for c.args.parts c.args.setting x = search rules in
    pushed-more (input_for c.args.parts c.args.setting) c.args.inputs.now.items (take (i - c.args.from) (drop c.args.from xs)) c.leaves.inputs.items c.push.new.self.items x c.new.result c.leaves.invariant (search rules) made
    ∙ ap (λ (l : List Leaf). c.args.inputs.now.items ++ map (input_for c.args.parts c.args.setting) l) (sym more)

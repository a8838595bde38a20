use Rattle.std.proofs.Common.{◌++◌, length, append-nil, refl, ap, ◌∙◌, arith}
use Rattle.std.proofs.lemmas.List.{length_push}
use Rattle.tree_laws.specs.Pairs.{pair_digest}
use Rattle.folding_tree.specs.declared.level.Level.{Level}
use Rattle.folding_tree.specs.Folding.{rows_of, levels_pins}
use Rattle.folding_tree.specs.Levels.{parts_pins}
use Rattle.folding_tree.proofs.LevelLaws.{rows-push, levels-push}
use Rattle.folding_tree.proofs.deepening.deepen.Goals as goal

pub levels-init : goal.levels-init
levels-init g c = record { more = omega arith; rows = λ k. refl; pins = refl }

pub levels-preserved : goal.levels-preserved
levels-preserved g c =
    let d = pair_digest g.J.Job.encoded in
    let olds = c.levels.levels.items in
    let level : Level g.row.J.Denot g.row.J-Val.Denot g.row.J-Meter.Denot = record { low = 0; nodes = c.new.result } in
    let is = c.in-Ok.ensures.items in
    let inv = c.levels.invariant in
    let more = inv.more in
    record {
      more = (let n = ap length is in let m = length_push olds level in omega (arith, n, m, more));
      rows = λ k. ap (λ ls. rows_of ls k) is ∙ rows-push olds level (ap (λ ps. record { low = 0; parts = ps }) c.new.ensures.items) k ∙ inv.rows k;
      pins = ap (levels_pins d) is ∙ levels-push d olds level ∙ ap (λ ps. levels_pins d olds ++ parts_pins d ps) c.new.ensures.items ∙ append-nil (levels_pins d olds) ∙ inv.pins;
    }

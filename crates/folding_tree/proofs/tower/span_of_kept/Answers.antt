use Rattle.std.proofs.Common.{◌+◌, sym, ◌∙◌, arith}
use Rattle.folding_tree.proofs.SpanLaws.{kept-some, kept-none}
use Rattle.folding_tree.proofs.tower.span_of_kept.Goals as goal

pub returns-then-gone-count-clause-shape : goal.returns-then-gone-count-clause-shape
returns-then-gone-count-clause-shape c =
    let lt = c.if-gone-count.true in
    c.fold.ensures.shape ∙ sym (kept-some c.args.gone (record { height = c.args.at.height; low = c.args.low; high = c.args.low + c.args.count }) (omega (arith, lt)))

pub returns-then-gone-count-clause-count : goal.returns-then-gone-count-clause-count
returns-then-gone-count-clause-count c =
    let lt = c.if-gone-count.true in
    let m = c.fold.ensures.moved in
    let a = m.1 in
    let b = m.2 in
    omega (arith, lt, a, b)

pub returns-then-gone-count-clause-moved : goal.returns-then-gone-count-clause-moved
returns-then-gone-count-clause-moved c = λ some. (c.fold.ensures.moved.0, c.fold.ensures.moved.1)

pub returns-clause-shape : goal.returns-clause-shape
returns-clause-shape c =
    let le = c.if-gone-count.false in
    sym (kept-none c.args.gone (record { height = c.args.at.height; low = c.args.low; high = c.args.low + c.args.count }) (omega (arith, le)))

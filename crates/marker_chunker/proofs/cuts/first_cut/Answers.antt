use Rattle.std.proofs.Common.{sym, ◌∙◌, arith}
use Rattle.marker_chunker.proofs.Parts.{begins, grows, ends_at, ends_last}
use Rattle.marker_chunker.proofs.cuts.first_cut.Goals as goal

pub grow-init : goal.grow-init
grow-init c = (omega arith, begins c.args.records.now c.args.from c.is_marker-marks.result c.get-first.result.now (omega arith) c.get-first.ensures.value c.is_marker-marks.ensures c.get-first.ensures.record.0)

pub returns-then-ends_before : goal.returns-then-ends_before
returns-then-ends_before c =
    ends_at c.args.records.now c.args.from c.grow.to c.grow.marks c.grow.size c.get-next.result.now c.grow.invariant.1 c.grow.invariant.0 (omega arith) c.get-next.ensures.value
    (sym c.ends_before.ensures ∙ c.if-ends_before.true)

pub grow-preserved : goal.grow-preserved
grow-preserved c = (
  omega arith,
  grows c.args.records.now c.args.from c.grow.to c.grow.marks c.grow.size c.get-next.result.now c.is_marker-marks-in-grow.result c.grow.invariant.1 c.grow.invariant.0 (omega arith) c.get-next.ensures.value
      c.is_marker-marks-in-grow.ensures (sym c.ends_before.ensures ∙ c.if-ends_before.false),
)

pub returns : goal.returns
returns c =
    let h = ends_last c.args.records.now c.args.from c.grow.to c.grow.marks c.grow.size c.grow.invariant.1 c.grow.invariant.0 (omega arith) in
    omega arith

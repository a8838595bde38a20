use Rattle.std.proofs.Common.{◌∙◌, sym, refl, arith, ◌+◌, ◌*◌}
use Rattle.folding_tree.proofs.SpanLaws.{moved-twice}
use Rattle.folding_tree.proofs.span.fold.Goals as goal

pub halves-init : goal.halves-init
halves-init c = record {
  wide = c.requires.wide;
  some = c.requires.some;
  fits = c.requires.fits;
  shape = refl;
  lower = omega arith;
  moved = (0, omega arith, omega arith);
}

pub halves-preserved : goal.halves-preserved
halves-preserved c =
    let h = c.in-Some.ensures.half in
    let m = c.halves.invariant.moved in
    let t = h.moved in
    let lower = c.halves.invariant.lower in
    let up = h.lower in
    record {
      wide = h.wide;
      some = h.some;
      fits = h.fits;
      shape = sym h.shape ∙ c.halves.invariant.shape;
      lower = omega (arith, lower, up);
      moved = (
        t.0 + 2 * m.0,
        moved-twice m.0 t.0 c.in-Some.half.height c.halves.span.height c.in-Some.half.low c.halves.span.low up t.1 c.args.span.low m.1,
        moved-twice m.0 t.0 c.in-Some.half.height c.halves.span.height c.in-Some.half.high c.halves.span.high up t.2 c.args.span.high m.2,
      );
    }

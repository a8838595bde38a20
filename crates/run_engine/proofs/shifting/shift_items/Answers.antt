use Rattle.std.proofs.Common.{◌≡◌, ◌+◌, ◌-◌, ◌≤◌, vec_len, sym, subst, arith}
use Rattle.record_text.specs.Shifts.{shifted}
use Rattle.record_text.specs.declared.shift.Shift.{Shift}
use Rattle.run_engine.specs.Inputs.{FitsList}
use Rattle.run_engine.proofs.ShiftSteps.{spliced}
use Rattle.run_engine.proofs.shifting.shift_items.Goals as goal

pub returns-in-Splice : goal.returns-in-Splice
returns-in-Splice g c =
    let s = c.in-Splice in
    let old = c.args.items.now in
    let fits : s.first + s.gone ≤ vec_len old = subst (λ (h : Shift). FitsList h (vec_len old) (vec_len c.args.fresh)) s.is c.requires.fits in
    subst (λ (h : Shift). c.rotate_left-in-Splice.new.self.items ≡ shifted h c.args.fresh.items old.items) (sym s.is)
    (spliced old.items c.args.fresh.items c.rotate_left.new.self.items c.truncate.new.self.items c.append_all-in-Splice.new.items.items c.rotate_left-in-Splice.new.self.items s.first s.gone (c.len.result - (s.first + s.gone))
    (omega (arith, fits, old.ok.0)) (omega (arith, fits, old.ok.0, c.len.ensures)) c.rotate_left.ensures.items c.truncate.ensures.items c.append_all-in-Splice.ensures c.rotate_left-in-Splice.ensures.items)

use Rattle.std.proofs.Common.{arith, sym, ap, subst, Bool, ℕ, List, length}
use Rattle.record_text.specs.Reading.{IsLine}
use Rattle.record_text.proofs.ScriptLaws.{no_line, long, cut_short, whole, last}
use Rattle.record_text.proofs.reading.look.Goals as goal

pub returns-then-end-gt-MOST_RECORD-clause-found : goal.returns-then-end-gt-MOST_RECORD-clause-found
returns-then-end-gt-MOST_RECORD-clause-found c = let e = c.line_end-end.ensures in long c.args.ahead.now c.line_end-end.result e.within e.before e.found c.if-end-gt-MOST_RECORD.true

pub returns-then-end-len-clause-found : goal.returns-then-end-len-clause-found
returns-then-end-len-clause-found c = let e = c.line_end-end.ensures in whole c.args.ahead.now c.line_end-end.result e.within e.before e.found c.args.ended (omega (arith, c.if-end-len.true, c.len.ensures, ap (λ (l : List ℕ). length l) e.same)) (omega (arith, c.if-end-gt-MOST_RECORD.false))

pub returns-then-ended-clause-found : goal.returns-then-ended-clause-found
returns-then-ended-clause-found c = let e = c.line_end-end.ensures in subst (λ (b : Bool). IsLine b c.args.ahead.now c.line_end-end.result c.line_end-end.result) (sym c.if-ended.true) (last c.args.ahead.now c.line_end-end.result e.within e.before e.found (omega (arith, c.if-end-len.false, c.len.ensures, ap (λ (l : List ℕ). length l) e.same)) (omega (arith, c.if-end-gt-MOST_RECORD.false)) c.if-end-eq0.false)

pub returns-then-room-eq0-clause-found : goal.returns-then-room-eq0-clause-found
returns-then-room-eq0-clause-found c = let e = c.line_end-end.ensures in (c.if-room-eq0.true, cut_short c.args.ahead.now c.line_end-end.result e.within e.before e.found (omega (arith, c.if-end-len.false, c.len.ensures, ap (λ (l : List ℕ). length l) e.same)) (omega (arith, c.if-end-gt-MOST_RECORD.false)))

pub returns-clause-found : goal.returns-clause-found
returns-clause-found c =
    let e = c.line_end-end.ensures in
    let all = ap (λ (l : List ℕ). length l) e.same in (
      c.if-ended.false,
      omega (arith, c.if-room-eq0.false),
      no_line c.args.ahead.now c.line_end-end.result e.within e.before e.found (omega (arith, c.if-end-len.false, c.len.ensures, all)),
      cut_short c.args.ahead.now c.line_end-end.result e.within e.before e.found (omega (arith, c.if-end-len.false, c.len.ensures, all)) (omega (arith, c.if-end-gt-MOST_RECORD.false)),
    )

use Rattle.std.proofs.Common.{◌≡◌, ◌+◌, ◌-◌, [], ◌∷◌, ◌++◌, length, take, List, ℕ, arith, refl, ap, ◌∙◌}
use Rattle.record_text.specs.declared.reading.Reading.{Reading}
use Rattle.record_text.proofs.SpanLaws.{length_push}
use Rattle.record_text.specs.Reading.{RecordsLack}
use Rattle.record_text.proofs.ReadLaws.{uses_more, uses_then, uses_line, taken_record, taken_line, count_line, sound_line, short, stops, reads_line, large, fits_not, fits_all}
use Rattle.record_text.proofs.script_reader.ScriptReader.read_records.Goals as goal

pub returns-in-Ok-None-clause-reads : goal.returns-in-Ok-None-clause-reads
returns-in-Ok-None-clause-reads g c =
    let bytes = c.lines.invariant.0 in let inv = c.lines.invariant.1 in
    let s0 = c.args.self.now.reading in let s1 = c.lines.self.reading in let s2 = c.next_line.new.self.reading in
    let l0 = g.S.Source.left c.args.self.now.source.now in let l1 = g.S.Source.left c.lines.self.source.now in let l2 = g.S.Source.left c.next_line.new.self.source.now in
    let e = c.in-Ok-None.ensures in (
      bytes,
      uses_more s0 s1 s2 l0 l1 l2 bytes inv.used e.used,
      short s0.line c.args.n (c.args.n - c.lines.counter) s1 s2 c.lines.got bytes l1 l2 inv.reads e.used e.place (omega (arith, c.lines-test.true)) (rw c.in-Ok-None.field-0-is at e.line),
    )

pub returns-in-Err-clause-reads : goal.returns-in-Err-clause-reads
returns-in-Err-clause-reads g c =
    let bytes = c.lines.invariant.0 in let inv = c.lines.invariant.1 in
    let s0 = c.args.self.now.reading in let s1 = c.lines.self.reading in let s2 = c.next_line.new.self.reading in
    let l0 = g.S.Source.left c.args.self.now.source.now in let l1 = g.S.Source.left c.lines.self.source.now in let l2 = g.S.Source.left c.next_line.new.self.source.now in
    let e = c.in-Err.ensures in (
      bytes,
      uses_more s0 s1 s2 l0 l1 l2 bytes inv.used e.used,
      stops s0.line c.args.n (c.args.n - c.lines.counter) s1 s2 c.lines.got bytes l1 l2 inv.reads e.used e.place (omega (arith, c.lines-test.true)) c.in-Err.fault e.line,
    )

pub returns-then-text_len-clause-reads : goal.returns-then-text_len-clause-reads
returns-then-text_len-clause-reads g c =
    let bytes = c.lines.invariant.0 in let inv = c.lines.invariant.1 in
    let s0 = c.args.self.now.reading in let s1 = c.lines.self.reading in let s2 = c.next_line.new.self.reading in
    let l0 = g.S.Source.left c.args.self.now.source.now in let l1 = g.S.Source.left c.lines.self.source.now in let l2 = g.S.Source.left c.next_line.new.self.source.now in
    let e = c.in-Ok-Some.ensures in
    let len = c.in-Ok-Some.line.0 in let skip = c.in-Ok-Some.line.1 in
    let is = rw c.in-Ok-Some.field-0-is at e.line in
    let t : Reading = record s2 { ahead = c.skip.new.self; line = s2.line + 1 } in
    let pushed : c.push.new.self ≡ c.lines.got ++ take len s2.ahead ∷ [] = c.in-Ok.ensures.ok ∙ ap (λ (l : List ℕ). c.lines.got ++ l ∷ []) c.prefix.ensures in (
      bytes ++ take skip s2.ahead,
      uses_then s0 s2 t l0 l2 l2 bytes (take skip s2.ahead) (uses_more s0 s1 s2 l0 l1 l2 bytes inv.used e.used) (uses_line s2 t l2 len skip is c.skip.ensures refl refl),
      large s0.line c.args.n (c.args.n - c.lines.counter) s1 s2 c.lines.got bytes l1 l2 inv.reads e.used e.place (omega (arith, c.lines-test.true)) t len skip is c.skip.ensures refl refl refl c.push.new.self pushed
          (fits_not c.push.new.self c.text_len.result c.text_len.ensures c.if-text_len.true),
    )

pub lines-preserved : goal.lines-preserved
lines-preserved g c =
    let bytes = c.lines.invariant.0 in let inv = c.lines.invariant.1 in
    let s0 = c.args.self.now.reading in let s1 = c.lines.self.reading in let s2 = c.next_line.new.self.reading in
    let l0 = g.S.Source.left c.args.self.now.source.now in let l1 = g.S.Source.left c.lines.self.source.now in let l2 = g.S.Source.left c.next_line.new.self.source.now in
    let e = c.in-Ok-Some.ensures in
    let len = c.in-Ok-Some.line.0 in let skip = c.in-Ok-Some.line.1 in
    let is = rw c.in-Ok-Some.field-0-is at e.line in
    let t : Reading = record s2 { ahead = c.skip.new.self; line = s2.line + 1 } in
    let pushed : c.push.new.self ≡ c.lines.got ++ take len s2.ahead ∷ [] = c.in-Ok.ensures.ok ∙ ap (λ (l : List ℕ). c.lines.got ++ l ∷ []) c.prefix.ensures in (
      bytes ++ take skip s2.ahead,
      record {
        same = e.same ∙ inv.same;
        used = uses_then s0 s2 t l0 l2 l2 bytes (take skip s2.ahead) (uses_more s0 s1 s2 l0 l1 l2 bytes inv.used e.used) (uses_line s2 t l2 len skip is c.skip.ensures refl refl);
        reads = reads_line s0.line c.args.n (c.args.n - c.lines.counter) s1 s2 c.lines.got bytes l1 l2 inv.reads e.used e.place (omega (arith, c.lines-test.true)) t len skip is c.skip.ensures refl refl refl c.push.new.self pushed
            (c.args.n - (c.lines.counter + 1)) (omega arith) (fits_all c.push.new.self c.text_len.result c.text_len.ensures c.if-text_len.false);
        touch = taken_line (RecordsLack s0.line c.args.n) c.args.self.now.source.now c.next_line.new.self.source.now s0 s2 t bytes skip refl c.skip.ensures
            (taken_record s0.line c.args.n (c.args.n - c.lines.counter) c.args.self.now.source.now c.lines.self.source.now c.next_line.new.self.source.now s0 s1 s2 c.lines.got bytes inv.reads (omega (arith, c.lines-test.true)) inv.touch e.touch);
        sound = sound_line s2 t l2 len skip is c.skip.ensures refl refl e.sound refl;
        count = omega (arith, inv.count, e.used.count, e.place.line, count_line s2 t l2 len skip is c.skip.ensures refl refl refl);
        on = omega (arith, inv.on, e.place.line);
        many = ap (λ (r : List (List ℕ)). length r) pushed ∙ length_push c.lines.got (take len s2.ahead) ∙ ap (λ (m : ℕ). m + 1) inv.many;
        last = e.place.last ∙ inv.last;
        fault = e.place.fault ∙ inv.fault;
        later = omega (arith, inv.later, e.later);
      },
    )

pub returns-in-Ok-None-clause-touch : goal.returns-in-Ok-None-clause-touch
returns-in-Ok-None-clause-touch g c =
    let bytes = c.lines.invariant.0 in let inv = c.lines.invariant.1 in
    let s0 = c.args.self.now.reading in let s1 = c.lines.self.reading in let s2 = c.next_line.new.self.reading in
    let l0 = g.S.Source.left c.args.self.now.source.now in let l1 = g.S.Source.left c.lines.self.source.now in let l2 = g.S.Source.left c.next_line.new.self.source.now in
    let e = c.in-Ok-None.ensures in (
      bytes,
      uses_more s0 s1 s2 l0 l1 l2 bytes inv.used e.used,
      taken_record s0.line c.args.n (c.args.n - c.lines.counter) c.args.self.now.source.now c.lines.self.source.now c.next_line.new.self.source.now s0 s1 s2 c.lines.got bytes inv.reads (omega (arith, c.lines-test.true)) inv.touch e.touch,
    )

pub returns-in-Err-clause-touch : goal.returns-in-Err-clause-touch
returns-in-Err-clause-touch g c =
    let bytes = c.lines.invariant.0 in let inv = c.lines.invariant.1 in
    let s0 = c.args.self.now.reading in let s1 = c.lines.self.reading in let s2 = c.next_line.new.self.reading in
    let l0 = g.S.Source.left c.args.self.now.source.now in let l1 = g.S.Source.left c.lines.self.source.now in let l2 = g.S.Source.left c.next_line.new.self.source.now in
    let e = c.in-Err.ensures in (
      bytes,
      uses_more s0 s1 s2 l0 l1 l2 bytes inv.used e.used,
      taken_record s0.line c.args.n (c.args.n - c.lines.counter) c.args.self.now.source.now c.lines.self.source.now c.next_line.new.self.source.now s0 s1 s2 c.lines.got bytes inv.reads (omega (arith, c.lines-test.true)) inv.touch e.touch,
    )

pub returns-then-text_len-clause-touch : goal.returns-then-text_len-clause-touch
returns-then-text_len-clause-touch g c =
    let bytes = c.lines.invariant.0 in let inv = c.lines.invariant.1 in
    let s0 = c.args.self.now.reading in let s1 = c.lines.self.reading in let s2 = c.next_line.new.self.reading in
    let l0 = g.S.Source.left c.args.self.now.source.now in let l1 = g.S.Source.left c.lines.self.source.now in let l2 = g.S.Source.left c.next_line.new.self.source.now in
    let e = c.in-Ok-Some.ensures in
    let len = c.in-Ok-Some.line.0 in let skip = c.in-Ok-Some.line.1 in
    let is = rw c.in-Ok-Some.field-0-is at e.line in
    let t : Reading = record s2 { ahead = c.skip.new.self; line = s2.line + 1 } in (
      bytes ++ take skip s2.ahead,
      uses_then s0 s2 t l0 l2 l2 bytes (take skip s2.ahead) (uses_more s0 s1 s2 l0 l1 l2 bytes inv.used e.used) (uses_line s2 t l2 len skip is c.skip.ensures refl refl),
      taken_line (RecordsLack s0.line c.args.n) c.args.self.now.source.now c.next_line.new.self.source.now s0 s2 t bytes skip refl c.skip.ensures
          (taken_record s0.line c.args.n (c.args.n - c.lines.counter) c.args.self.now.source.now c.lines.self.source.now c.next_line.new.self.source.now s0 s1 s2 c.lines.got bytes inv.reads (omega (arith, c.lines-test.true)) inv.touch e.touch),
    )

pub returns-clause-touch : goal.returns-clause-touch
returns-clause-touch g c = let inv = c.lines.invariant.1 in (c.lines.invariant.0, inv.used, inv.touch)

pub returns-in-Err-push-clause-touch : goal.returns-in-Err-push-clause-touch
returns-in-Err-push-clause-touch g c =
    let bytes = c.lines.invariant.0 in let inv = c.lines.invariant.1 in
    let s0 = c.args.self.now.reading in let s1 = c.lines.self.reading in let s2 = c.next_line.new.self.reading in
    let l0 = g.S.Source.left c.args.self.now.source.now in let l1 = g.S.Source.left c.lines.self.source.now in let l2 = g.S.Source.left c.next_line.new.self.source.now in
    let e = c.in-Ok-Some.ensures in (
      bytes,
      uses_more s0 s1 s2 l0 l1 l2 bytes inv.used e.used,
      taken_record s0.line c.args.n (c.args.n - c.lines.counter) c.args.self.now.source.now c.lines.self.source.now c.next_line.new.self.source.now s0 s1 s2 c.lines.got bytes inv.reads (omega (arith, c.lines-test.true)) inv.touch e.touch,
    )

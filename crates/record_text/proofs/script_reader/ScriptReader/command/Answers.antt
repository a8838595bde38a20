use Rattle.std.proofs.Common.{◌+◌, [], ◌++◌, take, arith, refl, sym, ap, ◌∙◌, subst}
use Rattle.std.specs.Prelude.{Ok}
use Rattle.std.specs.declared.option.Option.TheVariants.{Some}
use Rattle.record_text.specs.Reading.{CommandIs, NeedsMore, RecordsLack}
use Rattle.record_text.specs.Table.{asked, RefusesForm}
use Rattle.record_text.specs.declared.command.Command.{Command}
use Rattle.record_text.specs.declared.reading.Reading.{Reading}
use Rattle.record_text.proofs.ReadLaws.{uses_then, uses_line, taken_then, taken_same, taken_line, taken_command, needs_records, count_line, command_stops, refuses, command_is, records_stop}
use Rattle.record_text.proofs.script_reader.ScriptReader.command.Goals as goal

pub returns-in-Err-clause-reads : goal.returns-in-Err-clause-reads
returns-in-Err-clause-reads g c =
    let r = c.args.self.now.reading in let s = c.next_line.new.self.reading in
    let e = c.in-Err.ensures in
    ([], e.used, command_stops r s s (g.S.Source.left c.args.self.now.source.now) (g.S.Source.left c.next_line.new.self.source.now) e.used e.place s.last c.in-Err.fault e.line)

pub returns-in-Refuses-clause-reads : goal.returns-in-Refuses-clause-reads
returns-in-Refuses-clause-reads g c =
    let r = c.args.self.now.reading in let s = c.next_line.new.self.reading in
    let lr = g.S.Source.left c.args.self.now.source.now in let ls = g.S.Source.left c.next_line.new.self.source.now in
    let e = c.in-Ok-Some.ensures in
    let len = c.in-Ok-Some.line.0 in let skip = c.in-Ok-Some.line.1 in
    let is = rw c.in-Ok-Some.field-0-is at e.line in
    let t : Reading = record s { ahead = c.skip.new.self; line = s.line + 1 } in
    let asks = sym (c.in-Ok.ensures.asked ∙ ap asked c.prefix.ensures) ∙ c.in-Refuses.is in (
      take skip s.ahead,
      uses_then r s t lr ls ls [] (take skip s.ahead) e.used (uses_line s t ls len skip is c.skip.ensures refl refl),
      refuses r s t lr ls e.used e.place len skip is c.skip.ensures refl refl refl s.last c.in-Refuses.why asks (subst RefusesForm c.in-Refuses.is c.in-Ok.ensures.form),
    )

pub returns-in-Ok-read_records-clause-reads : goal.returns-in-Ok-read_records-clause-reads
returns-in-Ok-read_records-clause-reads g c =
    let r = c.args.self.now.reading in let s = c.next_line.new.self.reading in let u = c.read_records.new.self.reading in
    let lr = g.S.Source.left c.args.self.now.source.now in let ls = g.S.Source.left c.next_line.new.self.source.now in let lu = g.S.Source.left c.read_records.new.self.source.now in
    let e = c.in-Ok-Some.ensures in
    let len = c.in-Ok-Some.line.0 in let skip = c.in-Ok-Some.line.1 in
    let is = rw c.in-Ok-Some.field-0-is at e.line in
    let t : Reading = record s { ahead = c.skip.new.self; line = s.line + 1 } in
    let asks = sym (c.in-Ok.ensures.asked ∙ ap asked c.prefix.ensures) ∙ c.in-Asks.is in
    let reads = c.in-Ok-read_records.ensures.reads in let used = reads.0 in
    let first = uses_then r s t lr ls ls [] (take skip s.ahead) e.used (uses_line s t ls len skip is c.skip.ensures refl refl) in
    let all = uses_then r t u lr ls lu (take skip s.ahead) used first reads.1 in (
      take skip s.ahead ++ used,
      record { bytes = all.bytes; count = all.count },
      subst (λ (x : Command). CommandIs r.line u.line t.line u.ended u.room (take skip s.ahead ++ used) u.ahead (Ok (Some x))) (sym c.command.ensures)
          (command_is r s t lr ls e.used e.place len skip is c.skip.ensures refl refl refl c.in-Asks.head c.in-Asks.n asks u lu used reads.1 c.in-Ok-read_records.got reads.2),
    )

pub returns-in-Err-read_records-clause-reads : goal.returns-in-Err-read_records-clause-reads
returns-in-Err-read_records-clause-reads g c =
    let r = c.args.self.now.reading in let s = c.next_line.new.self.reading in let u = c.read_records.new.self.reading in
    let lr = g.S.Source.left c.args.self.now.source.now in let ls = g.S.Source.left c.next_line.new.self.source.now in let lu = g.S.Source.left c.read_records.new.self.source.now in
    let e = c.in-Ok-Some.ensures in
    let len = c.in-Ok-Some.line.0 in let skip = c.in-Ok-Some.line.1 in
    let is = rw c.in-Ok-Some.field-0-is at e.line in
    let t : Reading = record s { ahead = c.skip.new.self; line = s.line + 1 } in
    let asks = sym (c.in-Ok.ensures.asked ∙ ap asked c.prefix.ensures) ∙ c.in-Asks.is in
    let reads = c.in-Err-read_records.ensures.reads in let used = reads.0 in
    let first = uses_then r s t lr ls ls [] (take skip s.ahead) e.used (uses_line s t ls len skip is c.skip.ensures refl refl) in (
      take skip s.ahead ++ used,
      uses_then r t u lr ls lu (take skip s.ahead) used first reads.1,
      records_stop r s t lr ls e.used e.place len skip is c.skip.ensures refl refl refl c.in-Asks.head c.in-Asks.n asks u lu used reads.1 u.last c.in-Err-read_records.fault reads.2,
    )

pub returns-in-Refuses-clause-count : goal.returns-in-Refuses-clause-count
returns-in-Refuses-clause-count g c =
    let s = c.next_line.new.self.reading in
    let e = c.in-Ok-Some.ensures in
    let len = c.in-Ok-Some.line.0 in let skip = c.in-Ok-Some.line.1 in
    let is = rw c.in-Ok-Some.field-0-is at e.line in
    let t : Reading = record s { ahead = c.skip.new.self; line = s.line + 1 } in
    omega (arith, e.used.count, e.place.line, count_line s t (g.S.Source.left c.next_line.new.self.source.now) len skip is c.skip.ensures refl refl refl)

pub returns-in-Ok-read_records-clause-count : goal.returns-in-Ok-read_records-clause-count
returns-in-Ok-read_records-clause-count g c =
    let s = c.next_line.new.self.reading in
    let e = c.in-Ok-Some.ensures in
    let len = c.in-Ok-Some.line.0 in let skip = c.in-Ok-Some.line.1 in
    let is = rw c.in-Ok-Some.field-0-is at e.line in
    let t : Reading = record s { ahead = c.skip.new.self; line = s.line + 1 } in
    omega (arith, e.used.count, e.place.line, count_line s t (g.S.Source.left c.next_line.new.self.source.now) len skip is c.skip.ensures refl refl refl, c.read_records.ensures.count)

pub returns-in-Err-read_records-clause-count : goal.returns-in-Err-read_records-clause-count
returns-in-Err-read_records-clause-count g c =
    let s = c.next_line.new.self.reading in
    let e = c.in-Ok-Some.ensures in
    let len = c.in-Ok-Some.line.0 in let skip = c.in-Ok-Some.line.1 in
    let is = rw c.in-Ok-Some.field-0-is at e.line in
    let t : Reading = record s { ahead = c.skip.new.self; line = s.line + 1 } in
    omega (arith, e.used.count, e.place.line, count_line s t (g.S.Source.left c.next_line.new.self.source.now) len skip is c.skip.ensures refl refl refl, c.read_records.ensures.count)

pub returns-in-Ok-None-clause-touch : goal.returns-in-Ok-None-clause-touch
returns-in-Ok-None-clause-touch g c = let e = c.in-Ok-None.ensures in ([], e.used, taken_command c.args.self.now.source.now c.next_line.new.self.source.now c.args.self.now.reading c.next_line.new.self.reading e.touch)

pub returns-in-Err-clause-touch : goal.returns-in-Err-clause-touch
returns-in-Err-clause-touch g c = let e = c.in-Err.ensures in ([], e.used, taken_command c.args.self.now.source.now c.next_line.new.self.source.now c.args.self.now.reading c.next_line.new.self.reading e.touch)

pub returns-in-Refuses-clause-touch : goal.returns-in-Refuses-clause-touch
returns-in-Refuses-clause-touch g c =
    let r = c.args.self.now.reading in let s = c.next_line.new.self.reading in
    let a = c.args.self.now.source.now in let b = c.next_line.new.self.source.now in
    let lr = g.S.Source.left a in let ls = g.S.Source.left b in
    let e = c.in-Ok-Some.ensures in
    let len = c.in-Ok-Some.line.0 in let skip = c.in-Ok-Some.line.1 in
    let is = rw c.in-Ok-Some.field-0-is at e.line in
    let t : Reading = record s { ahead = c.skip.new.self; line = s.line + 1 } in
    let first = uses_then r s t lr ls ls [] (take skip s.ahead) e.used (uses_line s t ls len skip is c.skip.ensures refl refl) in
    let taken = taken_line (NeedsMore r.line) a b r s t [] skip refl c.skip.ensures (taken_command a b r s e.touch) in (take skip s.ahead, first, taken)

pub returns-in-Ok-read_records-clause-touch : goal.returns-in-Ok-read_records-clause-touch
returns-in-Ok-read_records-clause-touch g c =
    let r = c.args.self.now.reading in let s = c.next_line.new.self.reading in
    let a = c.args.self.now.source.now in let b = c.next_line.new.self.source.now in
    let lr = g.S.Source.left a in let ls = g.S.Source.left b in
    let e = c.in-Ok-Some.ensures in
    let len = c.in-Ok-Some.line.0 in let skip = c.in-Ok-Some.line.1 in
    let is = rw c.in-Ok-Some.field-0-is at e.line in
    let t : Reading = record s { ahead = c.skip.new.self; line = s.line + 1 } in
    let first = uses_then r s t lr ls ls [] (take skip s.ahead) e.used (uses_line s t ls len skip is c.skip.ensures refl refl) in
    let taken = taken_line (NeedsMore r.line) a b r s t [] skip refl c.skip.ensures (taken_command a b r s e.touch) in
    let u = c.read_records.new.self.reading in let d = c.read_records.new.self.source.now in let lu = g.S.Source.left d in
    let asks = sym (c.in-Ok.ensures.asked ∙ ap asked c.prefix.ensures) ∙ c.in-Asks.is in
    let touch = c.in-Ok-read_records.ensures.touch in let used = touch.0 in
    let all = uses_then r t u lr ls lu (take skip s.ahead) used first touch.1 in (
      take skip s.ahead ++ used,
      record { bytes = all.bytes; count = all.count },
      taken_same (NeedsMore r.line) a d r u (record u { last = t.line }) (take skip s.ahead ++ used) refl refl
          (taken_then (NeedsMore r.line) a b d r t (take skip s.ahead) (RecordsLack t.line c.in-Asks.n) u used
          (needs_records r s t lr ls e.used e.place len skip is c.skip.ensures refl refl refl c.in-Asks.head c.in-Asks.n asks u lu used touch.1) taken touch.2),
    )

pub returns-in-Err-read_records-clause-touch : goal.returns-in-Err-read_records-clause-touch
returns-in-Err-read_records-clause-touch g c =
    let r = c.args.self.now.reading in let s = c.next_line.new.self.reading in
    let a = c.args.self.now.source.now in let b = c.next_line.new.self.source.now in
    let lr = g.S.Source.left a in let ls = g.S.Source.left b in
    let e = c.in-Ok-Some.ensures in
    let len = c.in-Ok-Some.line.0 in let skip = c.in-Ok-Some.line.1 in
    let is = rw c.in-Ok-Some.field-0-is at e.line in
    let t : Reading = record s { ahead = c.skip.new.self; line = s.line + 1 } in
    let first = uses_then r s t lr ls ls [] (take skip s.ahead) e.used (uses_line s t ls len skip is c.skip.ensures refl refl) in
    let taken = taken_line (NeedsMore r.line) a b r s t [] skip refl c.skip.ensures (taken_command a b r s e.touch) in
    let u = c.read_records.new.self.reading in let d = c.read_records.new.self.source.now in let lu = g.S.Source.left d in
    let asks = sym (c.in-Ok.ensures.asked ∙ ap asked c.prefix.ensures) ∙ c.in-Asks.is in
    let touch = c.in-Err-read_records.ensures.touch in let used = touch.0 in
    let all = uses_then r t u lr ls lu (take skip s.ahead) used first touch.1 in (
      take skip s.ahead ++ used,
      record { bytes = all.bytes; count = all.count },
      taken_then (NeedsMore r.line) a b d r t (take skip s.ahead) (RecordsLack t.line c.in-Asks.n) u used
          (needs_records r s t lr ls e.used e.place len skip is c.skip.ensures refl refl refl c.in-Asks.head c.in-Asks.n asks u lu used touch.1) taken touch.2,
    )

pub returns-in-Err-ask-clause-touch : goal.returns-in-Err-ask-clause-touch
returns-in-Err-ask-clause-touch g c = let e = c.in-Ok-Some.ensures in ([], e.used, taken_command c.args.self.now.source.now c.next_line.new.self.source.now c.args.self.now.reading c.next_line.new.self.reading e.touch)

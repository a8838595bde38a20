use Rattle.std.proofs.Common.{◌∙◌}
use Rattle.record_text.proofs.TellLaws.{told_ok, told_fault, is_none}
use Rattle.record_text.proofs.script_reader.ScriptReader.next.Goals as goal

pub returns-in-Ok-clause-told : goal.returns-in-Ok-clause-told
returns-in-Ok-clause-told g c =
    let r = c.args.self.now.reading in let s = c.command.new.self.reading in
    let clear = is_none r.fault c.in_default.not-Some in
    let reads = c.in-Ok.ensures.reads in
    told_ok r s (g.S.Source.left c.args.self.now.source.now) (g.S.Source.left c.command.new.self.source.now) reads.0 reads.1 c.command.ensures.sound clear c.in-Ok.found (c.command.ensures.fault ∙ clear) reads.2

pub returns-in-Err-clause-told : goal.returns-in-Err-clause-told
returns-in-Err-clause-told g c =
    let r = c.args.self.now.reading in let s = c.command.new.self.reading in
    let clear = is_none r.fault c.in_default.not-Some in
    let reads = c.in-Err.ensures.reads in
    told_fault r s (g.S.Source.left c.args.self.now.source.now) (g.S.Source.left c.command.new.self.source.now) reads.0 reads.1 c.command.ensures.sound clear c.in-Err.fault s.last reads.2

use Rattle.std.proofs.Common.{ℕ, ◌<◌, ◌^◌, sym, subst, All, refl, arith}
use Rattle.std.proofs.lemmas.List.Elements.{All-push}
use Rattle.record_text.specs.declared.command.Command.{Command}
use Rattle.record_text.specs.Reading.{to_come}
use Rattle.record_text.specs.Reader.{reading_of, source_of}
use Rattle.record_text.specs.Script.{commands}
use Rattle.plain_program.proofs.ScriptSteps.{one_more}
use Rattle.plain_program.proofs.reading.plain_commands.Goals as goal

pub commands-preserved : goal.commands-preserved
commands-preserved c =
    let inv = c.commands.invariant in
    let e = c.in-Ok-Some.ensures in
    let told = rw c.in-Ok-Some.field-0-is at e.told in
    let behind = (rw c.in-Ok-Some.field-0-is at e.behind) refl in
    let size = e.sound.size in
    let at = c.line-line.ensures in
    let line : c.line-line.result < 2 ^ 62 = omega (arith, behind, size, at) in
    let items = c.in_ok-push-in-Ok-Some.ensures.items in
    record {
      sound = e.sound;
      clear = e.clear;
      lines = subst (All (λ (p : Command × ℕ). p.1 < 2 ^ 62)) (sym items) (All-push (λ (p : Command × ℕ). p.1 < 2 ^ 62) c.commands.commands.items (c.in-Ok-Some.command, c.line-line.result) inv.lines line);
      told = one_more c.commands.commands.items c.push.new.self.items c.in-Ok-Some.command c.line-line.result (reading_of c.next.new.self).last (to_come (reading_of c.commands.reader) (source_of c.commands.reader).now) (to_come (reading_of c.next.new.self) (source_of c.next.new.self).now) (commands c.args.most (source_of c.new-reader.result).now) items at told inv.told;
    }

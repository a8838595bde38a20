use Rattle.std.proofs.Common.{◌≡◌, ◌++◌, ◌-◌, ◌<◌, ◌^◌, All, None}
use Rattle.std.specs.Prelude.{Some}
use Rattle.record_text.specs.Reading.{Sound, to_come}
use Rattle.record_text.specs.Reader.{reading_of, source_of}
use Rattle.record_text.specs.Script.{commands}
use Rattle.plain_program.proofs.reading.plain_commands.Given as goal

abbrev pub invariant-commands : goal.invariant-commands
invariant-commands l = record {
  sound : Sound (reading_of l.reader) (Some (source_of l.reader).now);
  clear : (reading_of l.reader).fault ≡ None;
  lines : All (λ c. c.1 < 2 ^ 62) l.commands.items;
  told : (l.commands.items ++ (to_come (reading_of l.reader) (source_of l.reader).now).0, (to_come (reading_of l.reader) (source_of l.reader).now).1) ≡ commands l.most (source_of l.initial.reader).now;
}

abbrev pub decreases-commands : goal.decreases-commands
decreases-commands l = 2 ^ 62 - (reading_of l.reader).line

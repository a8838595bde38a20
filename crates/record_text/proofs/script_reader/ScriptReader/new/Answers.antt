use Rattle.std.proofs.Common.{ℕ, List, ◌++◌, take, sym, ap, ◌∙◌, length}
use Rattle.std.specs.Prelude.{nat_le}
use Rattle.record_text.specs.Script.{from_line, ACommand}
use Rattle.record_text.proofs.ScriptLaws.{commands-is}
use Rattle.record_text.proofs.script_reader.ScriptReader.new.Goals as goal

pub returns-clause-commands : goal.returns-clause-commands
returns-clause-commands g c script =
    let most = c.args.most in
    ap (λ (l : List ℕ). from_line (nat_le most (length script)) ACommand 1 (l ++ take most script)) c.new.ensures
    ∙ sym (commands-is most script)

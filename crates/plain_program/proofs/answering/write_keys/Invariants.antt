use Rattle.std.proofs.Common.{◌≡◌, ◌++◌, length}
use Rattle.definitions.specs.Tables.{reduced, tabulate}
use Rattle.definitions.specs.Answer.{lines_of}
use Rattle.plain_program.proofs.answering.write_keys.Given as goal

abbrev pub invariant-keys : goal.invariant-keys
invariant-keys g l =
    let s = g.J.Job.setting l.job in
    l.out.items ++ lines_of (g.J.Job.text s) (tabulate (reduced (g.J.Job.joined s) l.pairs) l.rest) ≡ l.initial.out.items ++ lines_of (g.J.Job.text s) (tabulate (reduced (g.J.Job.joined s) l.pairs) l.keys)

abbrev pub decreases-keys : goal.decreases-keys
decreases-keys g l = length l.rest

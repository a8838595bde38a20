use Rattle.std.proofs.Common.{◌≡◌, IfSome, take}
use Rattle.definitions.specs.Tables.{reduced}
use Rattle.plain_program.proofs.reducing.plain_reduced.Given as goal

abbrev pub invariant-pairs : goal.invariant-pairs
invariant-pairs g l =
    let s = g.J.Job.setting l.job in
    record {
      value : l.value ≡ reduced (g.J.Job.joined s) (take l.i l.pairs) l.key;
      good : IfSome l.value (g.J.Job.good s);
    }

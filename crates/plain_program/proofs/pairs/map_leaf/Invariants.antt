use Rattle.std.proofs.Common.{◌≡◌, ◌++◌, take}
use Rattle.definitions.specs.Answer.{pairs_of}
use Rattle.plain_program.proofs.pairs.map_leaf.Given as goal

abbrev pub invariant-records : goal.invariant-records
invariant-records g l = l.out ≡ l.initial.out ++ pairs_of (g.J.Job.emits (g.J.Job.setting l.job)) (take l.i l.leaf)

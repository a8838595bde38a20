use Rattle.std.proofs.Common.{◌≡◌, ◌++◌, ◌-◌, take, drop}
use Rattle.plain_program.proofs.records.append_part.Given as goal

abbrev pub invariant-records : goal.invariant-records
invariant-records l = l.into ≡ l.initial.into ++ take (l.i - l.from) (drop l.from l.records)

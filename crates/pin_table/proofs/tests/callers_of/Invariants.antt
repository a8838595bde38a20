use Rattle.std.proofs.Common.{◌≡◌, ◌+◌, All, vec_len}
use Rattle.pin_table.specs.Covers.{Covered, names_of}
use Rattle.pin_table.proofs.tests.callers_of.Given as goal

abbrev pub invariant-desks : goal.invariant-desks
invariant-desks g l = record {
  count : vec_len l.callers + vec_len l.desks ≡ vec_len l.initial.desks;
  of : All (λ c. c.locks ≡ l.memo.locks) l.callers.items;
  seated : All (λ d. (d.caller.locks ≡ l.memo.locks) × Covered d.caller (names_of g.R.Recipe.digest_of d.pins.items)) l.desks.items;
}

abbrev pub decreases-desks : goal.decreases-desks
decreases-desks g l = vec_len l.desks

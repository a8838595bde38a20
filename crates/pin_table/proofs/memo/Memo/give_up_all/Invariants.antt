use Rattle.std.proofs.Common.{◌≡◌, vec_len}
use Rattle.pin_table.specs.Covers.{Covered, Balanced, names_of}
use Rattle.pin_table.proofs.memo.Memo.give_up_all.Given as goal

abbrev pub invariant-pins : goal.invariant-pins
invariant-pins g l = record {
  of : l.caller.locks ≡ l.self.locks;
  covered : Covered l.caller (names_of g.R.Recipe.digest_of l.pins.items);
  balanced : Balanced l.initial.caller (names_of g.R.Recipe.digest_of l.initial.pins.items) l.caller (names_of g.R.Recipe.digest_of l.pins.items);
}

abbrev pub decreases-pins : goal.decreases-pins
decreases-pins g l = vec_len l.pins

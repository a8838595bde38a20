use Rattle.std.proofs.Common.{◌≡◌, List, ◌++◌, vec_len}
use Rattle.pin_table.specs.Covers.{PinName, Covered, Balanced}
use Rattle.tree_laws.specs.Pairs.{pair_digest}
use Rattle.tree_laws.specs.Holds.{all_pins}
use Rattle.tree_laws.proofs.letting_go.let_all_go.Given as goal

abbrev pub invariant-holds : goal.invariant-holds
invariant-holds g l = record {
  of : l.caller.locks ≡ l.memo.locks;
  covered : Covered l.caller (all_pins (pair_digest g.J.Job.encoded) l.holds.items);
  balanced : (ps : List PinName) → Balanced l.initial.caller (all_pins (pair_digest g.J.Job.encoded) l.initial.holds.items ++ ps) l.caller (all_pins (pair_digest g.J.Job.encoded) l.holds.items ++ ps);
}

abbrev pub decreases-holds : goal.decreases-holds
decreases-holds g l = vec_len l.holds

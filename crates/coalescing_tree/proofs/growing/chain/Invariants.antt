use Rattle.std.proofs.Common.{◌≡◌, ℕ, ◌+◌, ◌*◌, List, take, true, vec_len, vec_capacity}
use Rattle.std.specs.List.{All}
use Rattle.job_laws.specs.Counted.{RoseBy}
use Rattle.pin_table.specs.OwnEvents.{Met}
use Rattle.tree_laws.specs.Pairs.{pair_digest}
use Rattle.tree_laws.specs.Holds.{some_loose, all_pins}
use Rattle.tree_laws.specs.Trees.{IsWithin, distinct_keys}
use Rattle.tree_laws.specs.Trades.{Gets}
use Rattle.coalescing_tree.specs.Growing.{last_of, IsTop}
use Rattle.coalescing_tree.proofs.growing.chain.Given as goal

abbrev pub invariant-fresh : goal.invariant-fresh
invariant-fresh g l = record {
  of : l.caller.locks ≡ l.memo.locks;
  room : vec_capacity l.made ≡ vec_capacity l.initial.made;
  count : vec_len l.made + 1 ≡ l.i;
  top : IsTop g.J.Job.joined (g.J.Job.setting l.job) (take l.i l.fresh) (last_of l.made.items);
  got : Gets l.initial.caller (all_pins (pair_digest g.J.Job.encoded) l.made.items) l.caller;
  loose : some_loose (last_of l.made.items) ≡ true → Met l.initial.caller l.caller;
  counted : (ts : List (List (List ℕ × g.row.J-Val.Denot))) → All (λ s. IsWithin s.entries ts) l.fresh → RoseBy 0 (vec_len l.made) (vec_len l.made * distinct_keys ts) (g.J.Meter.Meter.counts l.initial.m) (g.J.Meter.Meter.counts l.m);
}

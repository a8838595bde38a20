use Rattle.std.proofs.Common.{◌≡◌, ℕ, ◌≤◌, ◌<◌, ◌++◌, get_or, All, length, take, drop, map, vec_len}
use mathlib.Core.Option.{some}
use lib.ListN.{get_elem?}
use Rattle.atomic_table.specs.Seated.{TableId}
use Rattle.turn_lock.specs.Views.{unplayed}
use Rattle.pin_table.specs.Views.{with_lock}
use Rattle.pin_table.proofs.making.hand_out.Given as goal

abbrev pub invariant-passes : goal.invariant-passes
invariant-passes g l = record {
  count : vec_len l.passes ≤ length l.initial.all.items;
  length : vec_len l.all ≡ vec_len l.initial.all;
  prefix : (i : ℕ) (d : _) → i < vec_len l.passes → get_or l.all.items i d ≡ get_or l.initial.all.items i d;
  fresh : (i : ℕ) (p : _) → get_elem? l.passes.items i ≡ some p → p ≡ unplayed p.lock i;
  locks : (id : TableId) → All (λ p. p.lock ≡ id) l.initial.passes.items → All (λ p. p.lock ≡ id) l.passes.items;
  callers : (id : TableId) → All (λ p. p.lock ≡ id) l.initial.passes.items → l.all.items ≡ take (vec_len l.passes) l.initial.all.items ++ map (with_lock id) (drop (vec_len l.passes) l.initial.all.items);
}

abbrev pub decreases-passes : goal.decreases-passes
decreases-passes g l = vec_len l.passes

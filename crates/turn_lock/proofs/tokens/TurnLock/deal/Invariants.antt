use Rattle.std.proofs.Common.{◌≡◌, ℕ, ◌+◌, ◌-◌, [], vec_len, vec_capacity, All}
use mathlib.Core.Option.{some}
use lib.ListN.{get_elem?}
use Rattle.turn_lock.specs.Views.{unplayed}
use Rattle.turn_lock.specs.Rule.{dealt}
use Rattle.turn_lock.proofs.tokens.TurnLock.deal.Given as goal

abbrev pub invariant-loop-number : goal.invariant-loop-number
invariant-loop-number g l = record {
  table : l.first.table_id ≡ l.initial.first.table_id;
  first : l.first.me ≡ (dealt l.callers (l.callers - l.number), []);
  passes : All (λ p. p.lock ≡ l.self.id) l.passes.items;
  count : vec_len l.passes + 1 ≡ l.number;
  numbers : (i : ℕ) (p : _) → get_elem? l.passes.items i ≡ some p → p ≡ unplayed l.self.id (i + 1);
  room : vec_capacity l.passes ≡ vec_capacity l.initial.passes;
}

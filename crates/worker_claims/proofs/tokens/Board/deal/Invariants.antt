use Rattle.std.proofs.Common.{◌≡◌, ◌+◌, ◌-◌, [], vec_len, vec_capacity, All}
use Rattle.worker_claims.specs.Rule.{newcomer}
use Rattle.worker_claims.specs.Views.{fresh}
use Rattle.worker_claims.proofs.tokens.Board.deal.Given as goal

abbrev pub invariant-loop-number : goal.invariant-loop-number
invariant-loop-number g l = record {
  table : l.first.table_id ≡ l.self.id;
  first : l.first.me ≡ (newcomer l.self.tasks (l.hands + 1 - l._number), []);
  hands : All (λ h. h ≡ fresh l.self.id l.self.tasks) l.made.items;
  count : vec_len l.made + 1 ≡ l._number;
  room : vec_capacity l.made ≡ vec_capacity l.initial.made;
}

use Rattle.std.proofs.Common.{◌≡◌, ◌+◌, ℕ, ◌++◌, vec_len, All}
use mathlib.Core.Option.{some}
use lib.ListN.{get_elem?}
use Rattle.worker_claims.specs.Hands.{IsHandOf, HasEnded, Gave, times, times_by}
use Rattle.worker_claims.proofs.tokens.Board.close.Given as goal

abbrev pub invariant-hands : goal.invariant-hands
invariant-hands g l = record {
  table : l.kept.table_id ≡ l.self.id;
  ended : HasEnded l.kept.me.0.doing;
  count : l.kept.me.0.parts + vec_len l.hands ≡ l.self.hands;
  hands : All (λ h. IsHandOf l.self h × HasEnded h.doing) l.hands.items;
  rest : (others : _) × (l.fn.hands.items ≡ l.hands.items ++ others);
  from : (i k : ℕ) (t : _) → get_elem? l.kept.me.0.given i ≡ some (k, t) → Gave l.fn.hands.items k t;
  number : (k : ℕ) → times k l.kept.me.0.given + times_by k l.hands.items ≡ times_by k l.fn.hands.items;
}

abbrev pub decreases-hands : goal.decreases-hands
decreases-hands g l = goal.left-hands g l

use Rattle.std.proofs.Common.{◌≡◌, [], ◌∷◌, ◌++◌, map, All}
use Rattle.turn_lock.specs.declared.knowledge.Stage.TheVariants.{Idle}
use Rattle.turn_lock.proofs.tokens.TurnLock.close.Given as goal

abbrev pub invariant-passes : goal.invariant-passes
invariant-passes g l = record {
  table : l.kept.table_id ≡ l.self.id;
  idle : l.kept.me.0.stage ≡ Idle;
  passes : All (λ p. p.lock ≡ l.self.id) l.passes.items;
  known : map (λ p. p.known) l.fn.passes.items ≡ map (λ p. p.known) l.passes.items ++ (l.kept.me.0.ended ++ l.kept.me.0.own ∷ []);
}

abbrev pub decreases-passes : goal.decreases-passes
decreases-passes g l = goal.left-passes g l

use Rattle.std.proofs.Common.{◌≡◌, ℕ, [], ◌++◌, List, All, map, vec_len}
use Rattle.pin_table.specs.Views.{CallerView}
use Rattle.pin_table.specs.Known.{known_at}
use Rattle.run_engine.specs.Engines.{bare_lane}
use Rattle.run_engine.proofs.making.lanes_of.Given as goal

abbrev pub invariant-callers : goal.invariant-callers
invariant-callers g l = record {
  rest : List CallerView;
  are : l.fn.callers.items ≡ l.callers.items ++ rest;
  lanes : map (λ s. s.lane) l.lanes.items ≡ map bare_lane rest;
  empty : All (λ s. (s.fresh.items ≡ []) × (s.gone.items ≡ [])) l.lanes.items;
  unused : All (λ c. (s : ℕ) → (known_at s c).mine ≡ []) l.callers.items;
}

abbrev pub decreases-callers : goal.decreases-callers
decreases-callers g l = vec_len l.callers

use Rattle.std.proofs.Common.{◌≡◌, [], ◌++◌, List, All, map, vec_len}
use Rattle.pin_table.specs.Views.{CallerView}
use Rattle.tree_laws.specs.Trees.{bare}
use Rattle.run_engine.proofs.making.parts_of.Given as goal

abbrev pub invariant-callers : goal.invariant-callers
invariant-callers g l = record {
  rest : List CallerView;
  are : l.fn.callers.items ≡ l.callers.items ++ rest;
  callers : map (λ s. s.caller) l.parts.items ≡ rest;
  trees : All (λ s. (g.T.Tree.pins s.tree ≡ []) × (g.T.Tree.view s.tree ≡ bare l.setting l.places) × (s.fresh.items ≡ [])) l.parts.items;
}

abbrev pub decreases-callers : goal.decreases-callers
decreases-callers g l = vec_len l.callers

use Rattle.std.proofs.Common.{[], ◌∷◌, ◌++◌, List, refl, ap, ◌∙◌, append_assoc}
use Rattle.pin_table.specs.Views.{CallerView}
use Rattle.tree_laws.specs.Trees.{bare}
use Rattle.run_engine.proofs.MakeLoops.{callers-more, trees-more}
use Rattle.run_engine.proofs.making.parts_of.Goals as goal

pub callers-preserved : goal.callers-preserved
callers-preserved g c =
    let i = c.callers.invariant in
    record {
      rest = c.in-Some.caller ∷ i.rest;
      are = i.are ∙ ap (λ (l : List CallerView). l ++ i.rest) c.in-Some.ensures.items ∙ append_assoc c.pop.new.self.items (c.in-Some.caller ∷ []) i.rest;
      callers = callers-more c.callers.parts.items c.insert.new.self.items _ i.rest c.in-Some.caller c.in_ok-insert.ensures.items refl i.callers;
      trees = trees-more g.T.Tree.view g.T.Tree.pins (bare c.args.setting c.args.places) c.callers.parts.items c.insert.new.self.items _ c.in_ok-insert.ensures.items c.in_ok-fresh.ensures.pins c.in_ok-fresh.ensures.view c.new.ensures.items i.trees;
    }

use Rattle.std.proofs.Common.{rules, true≢false, ap, ◌∙◌}
use Rattle.tree_laws.specs.Trees.{IsDrafted, reverted}
use Rattle.run_engine.proofs.PartSteps.{undrafted, drafted-kept}
use Rattle.run_engine.proofs.part_worker.advance_part.Goals as goal

pub returns-in-Ok : goal.returns-in-Ok
returns-in-Ok g c =
    let drafted : IsDrafted g.T.Tree.shaped c.args.worker.now.shift.now c.args.seat.now.fresh.items (g.T.Tree.view c.args.seat.now.tree) (g.T.Tree.view c.advance.new.self) = search rules in
    record {
      drafted = λ _. drafted;
      kept = drafted-kept g.T.Tree.shaped c.args.worker.now.shift.now c.args.seat.now.fresh.items (g.T.Tree.view c.args.seat.now.tree) (g.T.Tree.view c.advance.new.self) c.requires.no_draft drafted;
      covered = c.advance.ensures.covered;
      balanced = c.advance.ensures.balanced;
      loose = c.advance.ensures.loose;
      counted = search rules;
      tightly = search rules;
    }

pub returns-in-Err : goal.returns-in-Err
returns-in-Err g c = record {
  drafted = λ is. absurd (true≢false is);
  kept = ap reverted c.in-Err.ensures.err ∙ undrafted (g.T.Tree.view c.args.seat.now.tree) c.requires.no_draft;
  covered = c.advance.ensures.covered;
  balanced = c.advance.ensures.balanced;
  loose = c.advance.ensures.loose;
  counted = search rules;
  tightly = search rules;
}

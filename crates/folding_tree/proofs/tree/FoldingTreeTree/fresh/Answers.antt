use Rattle.std.proofs.Common.{List, [], ◌∷◌, ◌++◌, None, refl, sym, ap, subst, ◌∙◌}
use Rattle.tree_laws.specs.Pairs.{pair_digest}
use Rattle.folding_tree.specs.declared.standing.Standing.{Standing}
use Rattle.folding_tree.specs.declared.level.Level.{Level}
use Rattle.folding_tree.specs.declared.draft.Draft.{Draft}
use Rattle.folding_tree.specs.Folding.{IsFolding, seen_of, levels_pins, drafts_pins}
use Rattle.folding_tree.specs.Levels.{parts_pins}
use Rattle.folding_tree.proofs.SeenLaws.{folding-bare, seen-bare}
use Rattle.folding_tree.proofs.tree.FoldingTreeTree.fresh.Goals as goal

abbrev start : Standing
start = record { first = 0; height = 0; width = 1 }

pub invariant_of-result : goal.invariant_of-result
invariant_of-result g c =
    let level : Level g.row.J.Denot g.row.J-Val.Denot g.row.J-Meter.Denot = record { low = 0; nodes = c.new.result } in
    let pushed = c.in_ok-push.ensures.items ∙ ap (λ ls. ls ++ level ∷ []) c.new-levels.ensures.items in
    subst (λ (ls : List (Level g.row.J.Denot g.row.J-Val.Denot g.row.J-Meter.Denot)). IsFolding g.J.Job.good g.J.Job.joined c.args.setting start None ls c.new-2.result.items) (sym pushed)
    (subst (λ (ds : List (Draft g.row.J.Denot g.row.J-Val.Denot g.row.J-Meter.Denot)). IsFolding g.J.Job.good g.J.Job.joined c.args.setting start None (level ∷ []) ds) (sym c.new-2.ensures.items)
    (folding-bare g.J.Job.good g.J.Job.joined (pair_digest g.J.Job.encoded) c.args.setting c.args.places start level refl refl refl c.new.ensures.items))

pub returns-clause-view : goal.returns-clause-view
returns-clause-view g c =
    let d = pair_digest g.J.Job.encoded in
    let level : Level g.row.J.Denot g.row.J-Val.Denot g.row.J-Meter.Denot = record { low = 0; nodes = c.new.result } in
    let pushed = c.in_ok-push.ensures.items ∙ ap (λ ls. ls ++ level ∷ []) c.new-levels.ensures.items in
    ap (λ (ls : List (Level g.row.J.Denot g.row.J-Val.Denot g.row.J-Meter.Denot)). (seen_of d c.args.setting c.args.places start None ls c.new-2.result.items).tree) pushed
    ∙ seen-bare g.J.Job.good g.J.Job.joined d c.args.setting c.args.places start level refl refl refl c.new.ensures.items

pub returns-clause-pins : goal.returns-clause-pins
returns-clause-pins g c =
    let d = pair_digest g.J.Job.encoded in
    let level : Level g.row.J.Denot g.row.J-Val.Denot g.row.J-Meter.Denot = record { low = 0; nodes = c.new.result } in
    let pushed = c.in_ok-push.ensures.items ∙ ap (λ ls. ls ++ level ∷ []) c.new-levels.ensures.items in
    ap (λ (ls : List (Level g.row.J.Denot g.row.J-Val.Denot g.row.J-Meter.Denot)). levels_pins d ls ++ drafts_pins d c.new-2.result.items) pushed
    ∙ ap (λ ps. (parts_pins d ps ++ []) ++ drafts_pins d c.new-2.result.items) c.new.ensures.items
    ∙ ap (drafts_pins d) c.new-2.ensures.items

use Rattle.std.proofs.Common.{◌≡◌, Some, None, length, refl, sym, ap, subst, ◌∙◌, arith}
use Rattle.std.specs.List.{slice_get}
use Rattle.std.specs.Option.{option_map}
use Rattle.std.proofs.lemmas.Option.{slice_get_read, slice_get_past}
use Rattle.tree_laws.specs.Pairs.{pair_digest}
use Rattle.tree_laws.specs.Trees.{IsRoot}
use Rattle.folding_tree.specs.Levels.{part_sheet}
use Rattle.folding_tree.specs.Folding.{rows_of}
use Rattle.folding_tree.proofs.LevelLaws.{rows-read}
use Rattle.folding_tree.proofs.SeenLaws.{seen-root}
use Rattle.folding_tree.proofs.tree.FoldingTreeTree.root.Goals as goal

pub index-requires : goal.index-requires
index-requires g c =
    let s = c.self.inside in
    let deep = c.self.invariant.deep in
    let ok = s.levels.ok.0 in
    omega (arith, deep, ok)

pub returns-in-Some : goal.returns-in-Some
returns-in-Some g c =
    let s = c.self.inside in
    let level = c.index.result.now in
    let part = c.in-Some.part.now in
    let row = rows-read s.levels.items s.at.height level c.self.invariant.deep c.index.ensures in
    let at : slice_get level.nodes.items 0 ≡ Some part = slice_get_read level.nodes.items (length level.nodes.items) 0 part refl c.in-Some.ensures.item.3.0 c.in-Some.ensures.lookup in
    let is : option_map part_sheet (slice_get (rows_of s.levels.items s.at.height).parts 0) ≡ Some c.sheet.result.now = ap (λ r. option_map part_sheet (slice_get r.parts 0)) row ∙ ap (option_map part_sheet) at ∙ ap Some (sym c.sheet.ensures) in
    subst (IsRoot g.J.Job.joined c.args.self.now.tree) is (seen-root g.J.Job.good g.J.Job.joined (pair_digest g.J.Job.encoded) s.setting s.places s.at s.draft s.levels.items s.drafts.items c.self.invariant c.args.self.now c.self.view_is (g.met.J.Job.join_laws s.setting))

pub returns-in-None : goal.returns-in-None
returns-in-None g c =
    let s = c.self.inside in
    let level = c.index.result.now in
    let row = rows-read s.levels.items s.at.height level c.self.invariant.deep c.index.ensures in
    let is : option_map part_sheet (slice_get (rows_of s.levels.items s.at.height).parts 0) ≡ None = ap (λ r. option_map part_sheet (slice_get r.parts 0)) row ∙ ap (option_map part_sheet) (slice_get_past level.nodes.items 0 c.in-None.ensures.item.3) in
    subst (IsRoot g.J.Job.joined c.args.self.now.tree) is (seen-root g.J.Job.good g.J.Job.joined (pair_digest g.J.Job.encoded) s.setting s.places s.at s.draft s.levels.items s.drafts.items c.self.invariant c.args.self.now c.self.view_is (g.met.J.Job.join_laws s.setting))

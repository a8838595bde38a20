use Rattle.std.proofs.Common.{Option, sym, subst}
use Rattle.sheets.specs.Sheets.{SheetOf}
use Rattle.tree_laws.specs.Trees.{Seen, IsMergeOver}
use Rattle.rotating_tree.specs.Nodes.{now_of}
use Rattle.rotating_tree.proofs.CircleLaws.{circle-root}
use Rattle.rotating_tree.proofs.tree.RotatingTreeTree.root.Goals as goal

pub returns : goal.returns
returns g c =
    let s = c.self.inside in
    let over = circle-root g.J.Job.good g.J.Job.joined s.setting s.n s.width (g.met.J.Job.join_laws s.setting) (g.met.J.Swaps.joined_comm s.setting) s.at s.draft s.root c.self.invariant in
    subst (λ (o : Option (SheetOf g.row.J-Val.Denot)). IsMergeOver g.J.Job.joined c.args.self.now.tree.setting c.args.self.now.tree.leaves.tables o) (sym c.now.ensures)
    (subst (λ (t : Seen g.row.J-Val.Denot). IsMergeOver g.J.Job.joined t.tree.setting t.tree.leaves.tables (now_of s.root)) c.self.view_is over)

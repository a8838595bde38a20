use Rattle.std.proofs.Common.{map, subst}
use Rattle.std.specs.Option.{option_copied}
use Rattle.tree_laws.specs.Trees.{Seen, IsRoot}
use Rattle.random_tree.specs.Levels.{now_of}
use Rattle.random_tree.specs.Steps.{IsRootOf}
use Rattle.random_tree.proofs.CallLaws.{root-read}
use Rattle.random_tree.proofs.tree.RandomTreeTree.root.Goals as goal

pub returns : goal.returns
returns g c =
    let s = c.self.inside in
    let root = option_copied c.root_of.result in
    let over = subst (λ ls. IsRootOf g.J.Job.good g.J.Job.joined g.J.Job.encoded (map now_of ls) root) c.as_slice.ensures.value c.root_of.ensures in
    subst (λ (t : Seen g.row.J-Val.Denot). IsRoot g.J.Job.joined t.tree root) c.self.view_is
    (root-read g.J.Job.good g.J.Job.joined g.J.Job.encoded s.setting s.places s.levels.items s.drafted root c.self.invariant over)

use Rattle.std.proofs.Common.{◌≤◌, ◌-◌, ◌*◌, Bool, length, sym, ap, subst, ◌∙◌}
use Rattle.pin_table.proofs.Covering.{balanced-same}
use Rattle.tree_laws.specs.Pairs.{pair_digest}
use Rattle.tree_laws.specs.Trees.{Seen, distinct_keys}
use Rattle.tree_laws.proofs.LeafLaws.{rose-still}
use Rattle.random_tree.specs.Levels.{seen_of, IsSound}
use Rattle.random_tree.proofs.SeenLaws.{no-draft}
use Rattle.random_tree.proofs.CallLaws.{few-pins}
use Rattle.random_tree.proofs.tree.RandomTreeTree.ahead.Goals as goal

pub returns-clause-balanced : goal.returns-clause-balanced
returns-clause-balanced g c = balanced-same c.args._caller.now c.args.self.now.pins

pub returns-clause-few : goal.returns-clause-few
returns-clause-few g c =
    let s = c.self.inside in
    let d = pair_digest g.J.Job.encoded in
    let off = no-draft s.drafted s.levels.items (ap (λ (t : Seen g.row.J-Val.Denot). t.tree.draft) c.self.view_is ∙ c.requires.no_draft) in
    let is = ap (λ (b : Bool). seen_of d s.setting s.places s.levels.items b) (sym off) ∙ c.self.view_is in
    let sound = subst (λ (b : Bool). IsSound g.J.Job.good g.J.Job.joined g.J.Job.encoded s.setting s.levels.items b) off c.self.invariant in
    subst (λ (t : Seen g.row.J-Val.Denot). length t.pins ≤ length t.tree.leaves.tables - 1) is (few-pins g.J.Job.good g.J.Job.joined g.J.Job.encoded s.setting s.places s.levels.items sound)

pub returns-clause-counted : goal.returns-clause-counted
returns-clause-counted g c = rose-still 0 (0 * distinct_keys c.args.self.now.tree.leaves.tables) (g.J.Meter.Meter.counts c.args._m.now)

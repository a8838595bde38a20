use Rattle.std.proofs.Common.{◌≡◌, ◌+◌, ℕ, List, subst}
use Rattle.map_tasks.specs.Texts.{used_of, gone_of}
use Rattle.map_tasks.specs.Table.{texts_in}
use Rattle.map_tasks.specs.Lanes.{LaneView}
use Rattle.map_tasks.proofs.lane.Lane.left.Goals as goal

pub returns : goal.returns
returns g c =
    let inside : c.left.result + gone_of c.args.bundle.now (texts_in c.self.inside.texts.rows) ≡ used_of c.args.bundle.now (texts_in c.self.inside.texts.rows) = subst (λ (t : List (List ℕ)). c.left.result + gone_of t (texts_in c.self.inside.texts.rows) ≡ used_of t (texts_in c.self.inside.texts.rows)) c.records-records.ensures c.left.ensures in
    subst (λ (v : LaneView). c.left.result + gone_of c.args.bundle.now v.texts ≡ used_of c.args.bundle.now v.texts) c.self.view_is inside

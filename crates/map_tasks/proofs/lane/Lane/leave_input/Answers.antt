use Rattle.std.proofs.Common.{List, ℕ, refl, ap, subst, ◌∙◌}
use Rattle.pin_table.specs.Covers.{names_of}
use Rattle.map_tasks.specs.Texts.{Leaves, Changes, with_gone, digest_of_input, StayPinned}
use Rattle.map_tasks.specs.Table.{texts_in}
use Rattle.map_tasks.specs.Lanes.{LaneView, StayMappedSo}
use Rattle.map_tasks.proofs.Totals.{change-leaves, change-mapped, change-pinned}
use Rattle.map_tasks.proofs.LaneSteps.{backed-gone}
use Rattle.map_tasks.proofs.lane.Lane.leave_input.Goals as goal

pub invariant_of-self : goal.invariant_of-self
invariant_of-self g c = backed-gone c.self.inside.caller _ (texts_in c.self.inside.texts.rows) (texts_in c.leave.new.self.rows) (names_of digest_of_input c.self.inside.spare.items) c.leave.ensures c.self.invariant

pub returns : goal.returns
returns g c =
    let same = (c.records.ensures ∙ c.bundle.ensures) in
    let changes : Changes c.args.input.now.text with_gone (texts_in c.self.inside.texts.rows) (texts_in c.leave.new.self.rows) = subst (λ (t : List (List ℕ)). Changes t with_gone (texts_in c.self.inside.texts.rows) (texts_in c.leave.new.self.rows)) same c.leave.ensures in
    record {
      texts = subst (λ (v : LaneView). Leaves c.args.input.now.text v.texts (texts_in c.leave.new.self.rows)) c.self.view_is (change-leaves c.args.input.now.text (texts_in c.self.inside.texts.rows) (texts_in c.leave.new.self.rows) changes);
      mapped = subst (λ (v : LaneView). StayMappedSo v.texts (texts_in c.leave.new.self.rows)) c.self.view_is (change-mapped c.args.input.now.text with_gone (texts_in c.self.inside.texts.rows) (texts_in c.leave.new.self.rows) changes refl);
      pinned = subst (λ (v : LaneView). StayPinned v.texts (texts_in c.leave.new.self.rows)) c.self.view_is (change-pinned c.args.input.now.text with_gone (texts_in c.self.inside.texts.rows) (texts_in c.leave.new.self.rows) changes refl refl);
      same = (ap (λ (v : LaneView). v.caller) c.self.view_is, ap (λ (v : LaneView). v.spare) c.self.view_is);
    }

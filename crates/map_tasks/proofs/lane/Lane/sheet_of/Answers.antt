use Rattle.std.proofs.Common.{◌≡◌, ◌<◌, List, ℕ, None, All, IfOk, sym, ap, subst, ◌∙◌}
use Rattle.map_tasks.specs.Inputs.{InputView}
use Rattle.map_tasks.specs.Leaves.{sheet_for}
use Rattle.map_tasks.specs.Texts.{IsMappedSo, IsHeld}
use Rattle.map_tasks.specs.Table.{IsAt, FindsText, texts_in}
use Rattle.map_tasks.specs.Lanes.{LaneView}
use Rattle.map_tasks.proofs.Totals.{absent-not-held}
use Rattle.map_tasks.proofs.Rows.{absent-rows}
use Rattle.map_tasks.proofs.LaneSteps.{found-input}
use Rattle.map_tasks.proofs.lane.Lane.sheet_of.Goals as goal

pub sheet-requires : goal.sheet-requires
sheet-requires g c =
    let at : IsAt c.args.input.now.text c.self.inside.texts.rows c.in-Some.place = subst (λ (t : List (List ℕ)). IsAt t c.self.inside.texts.rows c.in-Some.place) (c.records.ensures ∙ c.bundle.ensures) c.in-Some.ensures in
    let mapped : All (IsMappedSo c.args.input.now.parts c.args.input.now.setting) (texts_in c.self.inside.texts.rows) = subst (λ (v : LaneView). All (IsMappedSo c.args.input.now.parts c.args.input.now.setting) v.texts) (sym c.self.view_is) c.requires.mapped in
    let same : at.row.1.input ≡ c.args.input.now = found-input c.args.input.now c.self.inside.texts.rows c.in-Some.place at mapped in
    (at.row, at.at, subst (λ (i : InputView). c.args.part < i.parts) (sym same) c.requires.part)

pub returns : goal.returns
returns g c =
    let at : IsAt c.args.input.now.text c.self.inside.texts.rows c.in-Some.place = subst (λ (t : List (List ℕ)). IsAt t c.self.inside.texts.rows c.in-Some.place) (c.records.ensures ∙ c.bundle.ensures) c.in-Some.ensures in
    let mapped : All (IsMappedSo c.args.input.now.parts c.args.input.now.setting) (texts_in c.self.inside.texts.rows) = subst (λ (v : LaneView). All (IsMappedSo c.args.input.now.parts c.args.input.now.setting) v.texts) (sym c.self.view_is) c.requires.mapped in
    let same : at.row.1.input ≡ c.args.input.now = found-input c.args.input.now c.self.inside.texts.rows c.in-Some.place at mapped in
    let is : c.sheet.result.now ≡ sheet_for g.J.Job c.args.input.now c.args.part = c.sheet.ensures at.row at.at ∙ ap (λ (i : InputView). sheet_for g.J.Job i c.args.part) same in
    subst (λ s. IfOk c.share.result (λ x. x ≡ s)) is c.share.ensures.same

pub unreachable-requires : goal.unreachable-requires
unreachable-requires g c =
    let absent : FindsText c.args.input.now.text c.self.inside.texts.rows None = subst (λ (t : List (List ℕ)). FindsText t c.self.inside.texts.rows None) (c.records.ensures ∙ c.bundle.ensures) (λ k d h. c.in-None.ensures k d h) in
    absent-not-held c.args.input.now.text (texts_in c.self.inside.texts.rows) (absent-rows c.args.input.now.text c.self.inside.texts.rows absent)
    (subst (λ (v : LaneView). IsHeld c.args.input.now.text v.texts) (sym c.self.view_is) c.requires.held)

use Rattle.std.proofs.Common.{◌≡◌, ℕ, ◌+◌, List, [], ◌∷◌, ◌++◌, map, take, sym, ap, ◌∙◌, arith, append-nil}
use Rattle.std.proofs.lemmas.List.{take_more, length-map}
use Rattle.map_tasks.specs.Inputs.{InputView, input_digest, lane_at}
use Rattle.map_tasks.specs.Leaves.{sheet_for}
use Rattle.run_engine.specs.declared.lane_seat.LaneSeat.{LaneSeat}
use Rattle.run_engine.proofs.Spans.{pushed-more}
use Rattle.run_engine.proofs.HandSteps.{held-at, parts-at}
use Rattle.run_engine.proofs.handing.push_sheets.Goals as goal

pub inputs-init : goal.inputs-init
inputs-init g c = sym (append-nil c.args.sheets.now.items)

pub index-requires : goal.index-requires
index-requires g c =
    let n = c.requires.count in
    let m = length-map c.args.lanes.now.items (λ (s : LaneSeat _ _ _). s.lane) in
    omega (arith, n, m, c.lane_of-lane.ensures.within, c.args.lanes.now.ok.0)

pub sheet_of-requires-clause-held : goal.sheet_of-requires-clause-held
sheet_of-requires-clause-held g c =
    let lt = c.inputs-test.true in
    let n = c.requires.count in
    let m = length-map c.args.lanes.now.items (λ (s : LaneSeat _ _ _). s.lane) in
    let own : lane_at (input_digest c.index-input.result.now.text) 16 ≡ c.lane_of-lane.result = ap (λ (d : List ℕ). lane_at d 16) (sym c.digest.ensures) ∙ sym c.lane_of-lane.ensures.place in
    (held-at c.args.inputs.now.items c.args.lanes.now.items (c.args.part + 1) c.inputs.i c.lane_of-lane.result c.index-input.result.now c.index.result.now c.requires (omega (arith, lt, c.inputs.auto, c.len-i-end.ensures, c.args.inputs.now.ok.0)) c.index-input.ensures
    (omega (arith, n, m, c.lane_of-lane.ensures.within)) c.index.ensures own).0

pub sheet_of-requires-clause-mapped : goal.sheet_of-requires-clause-mapped
sheet_of-requires-clause-mapped g c =
    let lt = c.inputs-test.true in
    let n = c.requires.count in
    let m = length-map c.args.lanes.now.items (λ (s : LaneSeat _ _ _). s.lane) in
    let own : lane_at (input_digest c.index-input.result.now.text) 16 ≡ c.lane_of-lane.result = ap (λ (d : List ℕ). lane_at d 16) (sym c.digest.ensures) ∙ sym c.lane_of-lane.ensures.place in
    (held-at c.args.inputs.now.items c.args.lanes.now.items (c.args.part + 1) c.inputs.i c.lane_of-lane.result c.index-input.result.now c.index.result.now c.requires (omega (arith, lt, c.inputs.auto, c.len-i-end.ensures, c.args.inputs.now.ok.0)) c.index-input.ensures
    (omega (arith, n, m, c.lane_of-lane.ensures.within)) c.index.ensures own).1

pub sheet_of-requires-clause-part : goal.sheet_of-requires-clause-part
sheet_of-requires-clause-part g c =
    let lt = c.inputs-test.true in
    let p = parts-at c.args.inputs.now.items (map (λ (s : LaneSeat _ _ _). s.lane) c.args.lanes.now.items) (c.args.part + 1) c.inputs.i c.index-input.result.now c.requires (omega (arith, lt, c.inputs.auto, c.len-i-end.ensures, c.args.inputs.now.ok.0)) c.index-input.ensures in
    omega (arith, p)

pub inputs-preserved : goal.inputs-preserved
inputs-preserved g c =
    let lt = c.inputs-test.true in
    let xs = c.args.inputs.now.items in
    let i = c.inputs.i in
    let x = c.index-input.result.now in
    pushed-more (λ (i : InputView). sheet_for g.J.Job i c.args.part) c.args.sheets.now.items (take i xs) c.inputs.sheets.items c.push.new.self.items x c.in_ok-sheet.sheet c.inputs.invariant c.in_ok-push.ensures.items c.in_ok-sheet.ensures
    ∙ ap (λ (l : List InputView). c.args.sheets.now.items ++ map (λ (i : InputView). sheet_for g.J.Job i c.args.part) l)
    (ap (λ (y : InputView). take i xs ++ y ∷ []) c.index-input.ensures ∙ sym (take_more xs i x (omega (arith, lt, c.inputs.auto, c.len-i-end.ensures, c.args.inputs.now.ok.0))))

use Rattle.std.proofs.Common.{rules, ◌+◌, ◌<◌, ◌≤◌, List, length, refl, ap, ◌∙◌, arith}
use Rattle.std.proofs.lemmas.List.{take_all}
use Rattle.map_tasks.specs.Inputs.{InputView}
use Rattle.map_tasks.specs.Texts.{gone_of}
use Rattle.run_engine.specs.NewTexts.{times}
use Rattle.run_engine.specs.Inputs.{texts_of}
use Rattle.run_engine.proofs.BringSteps.{times-more, times-within}
use Rattle.run_engine.proofs.lane_worker.leave_each.Goals as goal

pub gone-init : goal.gone-init
gone-init g c = record {
  caller = refl;
  mapped = λ parts setting all. all;
  used = λ t. refl;
  came = λ t. refl;
  went = λ t. omega arith;
}

pub leave_input-requires : goal.leave_input-requires
leave_input-requires g c =
    let inv = c.gone.invariant in
    let x = c.index.result.now in
    let xs = c.args.gone.now.items in
    let lt : c.gone.i < length xs = search rules in
    let u = inv.used x.text in
    let w = inv.went x.text in
    let may = c.requires x.text in
    let n = times-within xs c.gone.i x lt c.index.ensures in
    omega (arith, u, w, may, n)

pub gone-preserved : goal.gone-preserved
gone-preserved g c =
    let inv = c.gone.invariant in
    let x = c.index.result.now in
    let xs = c.args.gone.now.items in
    let lt : c.gone.i < length xs = search rules in
    record {
      caller = c.leave_input.ensures.same.0 ∙ inv.caller;
      mapped = λ parts setting all. c.leave_input.ensures.mapped parts setting (inv.mapped parts setting all);
      used = λ t. c.leave_input.ensures.texts.used t ∙ inv.used t;
      came = λ t. c.leave_input.ensures.texts.came t ∙ inv.came t;
      went = λ t.
          let p = c.leave_input.ensures.texts.gone t in
          let q = inv.went t in
          let r = times-more t xs c.gone.i x lt c.index.ensures in
          omega (arith, p, q, r);
    }

pub returns : goal.returns
returns g c =
    let inv = c.gone.invariant in
    let xs = c.args.gone.now.items in
    let ge : length xs ≤ c.gone.i = search rules in
    record {
      caller = inv.caller;
      mapped = inv.mapped;
      used = inv.used;
      came = inv.came;
      went = λ t. inv.went t ∙ ap (λ (l : List InputView). gone_of t c.args.lane.now.texts + times t (texts_of l)) (take_all c.gone.i xs ge);
    }

use Rattle.std.proofs.Common.{rules, ◌≡◌, ℕ, ◌+◌, ◌<◌, ◌≤◌, cond, List, ◌∷◌, length, drop, refl, sym, ap, subst, ◌∙◌, arith}
use Rattle.std.specs.Prelude.{slice_index_or}
use Rattle.std.proofs.lemmas.List.{take_all, drop_more}
use Rattle.definitions.specs.Answer.{pairs_of}
use Rattle.job_laws.specs.Meanings.{meaning_of}
use Rattle.job_laws.proofs.CountLaws.{rose_none, rose_then, rose_more}
use Rattle.pin_table.proofs.Covering.{later-same, later-then}
use Rattle.map_tasks.specs.Inputs.{InputView}
use Rattle.map_tasks.specs.Texts.{used_of, came_of, gone_of}
use Rattle.run_engine.specs.NewTexts.{times}
use Rattle.run_engine.specs.Inputs.{texts_of}
use Rattle.run_engine.specs.LaneTasks.{IsInputFor, is_held, new_weight}
use Rattle.run_engine.proofs.BringSteps.{weight-came, weight-first, one-brought, times-more}
use Rattle.run_engine.proofs.lane_worker.bring_each.Goals as goal

pub fresh-init : goal.fresh-init
fresh-init g c = record {
  maps = 0;
  joins = 0;
  rose = rose_none (g.J.Meter.Meter.counts c.args.meter.now);
  maps_left = omega arith;
  joins_left = omega arith;
  later = later-same c.args.lane.now.caller;
  mapped = c.requires.mapped;
  used = λ t. refl;
  went = λ t. refl;
  came = λ t. omega arith;
}

pub bring_input-requires-clause-accepted : goal.bring_input-requires-clause-accepted
bring_input-requires-clause-accepted g c = (subst (IsInputFor (meaning_of g.J.Job c.args.worker.now.job.now) (g.J.Job.setting c.args.worker.now.job.now) c.args.worker.now.parts) (sym c.index.ensures) (c.requires.inputs c.fresh.i c.index.result.now (search rules))).accepted

pub fresh-preserved : goal.fresh-preserved
fresh-preserved g c =
    let inv = c.fresh.invariant in
    let x = c.index.result.now in
    let xs = c.args.fresh.now.items in
    let lt : c.fresh.i < length xs = search rules in
    let read : x ≡ slice_index_or xs c.fresh.i x = c.index.ensures in
    let rest : drop c.fresh.i xs ≡ x ∷ drop (c.fresh.i + 1) xs = drop_more xs c.fresh.i x lt ∙ ap (λ (y : InputView). y ∷ drop (c.fresh.i + 1) xs) (sym read) in
    let held = is_held c.fresh.lane.texts x.text in
    let pairs = λ (t : List (List ℕ)). length (pairs_of (meaning_of g.J.Job c.args.worker.now.job.now).emits t) in
    let a = weight-came length x (drop (c.fresh.i + 1) xs) c.fresh.lane.texts c.bring_input.new.self.texts c.in-Ok.ensures.ok in
    let b = weight-came pairs x (drop (c.fresh.i + 1) xs) c.fresh.lane.texts c.bring_input.new.self.texts c.in-Ok.ensures.ok in
    let d = ap (new_weight length c.fresh.lane.texts) rest in
    let e = ap (new_weight pairs c.fresh.lane.texts) rest in
    let one = one-brought (length x.text) (pairs x.text) x.text c.fresh.lane.texts (g.J.Meter.Meter.counts c.fresh.meter) (g.J.Meter.Meter.counts c.bring_input.new.m) c.bring_input.ensures.held c.bring_input.ensures.counted in
    record {
      maps = inv.maps + cond held 0 (length x.text);
      joins = inv.joins + cond held 0 (pairs x.text);
      rose = rose_then inv.maps 0 inv.joins (cond held 0 (length x.text)) 0 (cond held 0 (pairs x.text)) (g.J.Meter.Meter.counts c.args.meter.now) (g.J.Meter.Meter.counts c.fresh.meter) (g.J.Meter.Meter.counts c.bring_input.new.m) inv.rose one;
      maps_left = let m = inv.maps_left in omega (arith, a, d, m);
      joins_left = let m = inv.joins_left in omega (arith, b, e, m);
      later = later-then c.args.lane.now.caller c.fresh.lane.caller c.bring_input.new.self.caller inv.later c.bring_input.ensures.later;
      mapped = search rules;
      used = λ t. c.in-Ok.ensures.ok.used t ∙ inv.used t;
      went = λ t. c.in-Ok.ensures.ok.gone t ∙ inv.went t;
      came = λ t.
          let p = c.in-Ok.ensures.ok.came t in
          let q = inv.came t in
          let r = times-more t xs c.fresh.i x lt read in
          omega (arith, p, q, r);
    }

pub returns-in-Err : goal.returns-in-Err
returns-in-Err g c =
    let inv = c.fresh.invariant in
    let x = c.index.result.now in
    let xs = c.args.fresh.now.items in
    let lt : c.fresh.i < length xs = search rules in
    let read : x ≡ slice_index_or xs c.fresh.i x = c.index.ensures in
    let rest : drop c.fresh.i xs ≡ x ∷ drop (c.fresh.i + 1) xs = drop_more xs c.fresh.i x lt ∙ ap (λ (y : InputView). y ∷ drop (c.fresh.i + 1) xs) (sym read) in
    let held = is_held c.fresh.lane.texts x.text in
    let pairs = λ (t : List (List ℕ)). length (pairs_of (meaning_of g.J.Job c.args.worker.now.job.now).emits t) in
    let a = weight-first length x (drop (c.fresh.i + 1) xs) c.fresh.lane.texts in
    let b = weight-first pairs x (drop (c.fresh.i + 1) xs) c.fresh.lane.texts in
    let d = ap (new_weight length c.fresh.lane.texts) rest in
    let e = ap (new_weight pairs c.fresh.lane.texts) rest in
    let one = one-brought (length x.text) (pairs x.text) x.text c.fresh.lane.texts (g.J.Meter.Meter.counts c.fresh.meter) (g.J.Meter.Meter.counts c.bring_input.new.m) c.bring_input.ensures.held c.bring_input.ensures.counted in
    let whole = rose_then inv.maps 0 inv.joins (cond held 0 (length x.text)) 0 (cond held 0 (pairs x.text)) (g.J.Meter.Meter.counts c.args.meter.now) (g.J.Meter.Meter.counts c.fresh.meter) (g.J.Meter.Meter.counts c.bring_input.new.m) inv.rose one in
    record {
      later = later-then c.args.lane.now.caller c.fresh.lane.caller c.bring_input.new.self.caller inv.later c.bring_input.ensures.later;
      mapped = search rules;
      used = λ t. ap (used_of t) c.in-Err.ensures.err ∙ inv.used t;
      went = λ t. ap (gone_of t) c.in-Err.ensures.err ∙ inv.went t;
      came = tt;
      counted = rose_more (inv.maps + cond held 0 (length x.text)) 0 (inv.joins + cond held 0 (pairs x.text)) (new_weight length c.args.lane.now.texts xs) 0 (new_weight pairs c.args.lane.now.texts xs) (g.J.Meter.Meter.counts c.args.meter.now) (g.J.Meter.Meter.counts c.bring_input.new.m)
          (let m = inv.maps_left in omega (arith, a, d, m)) (omega arith) (let m = inv.joins_left in omega (arith, b, e, m)) whole;
    }

pub returns : goal.returns
returns g c =
    let inv = c.fresh.invariant in
    let xs = c.args.fresh.now.items in
    let ge : length xs ≤ c.fresh.i = search rules in
    let pairs = λ (t : List (List ℕ)). length (pairs_of (meaning_of g.J.Job c.args.worker.now.job.now).emits t) in
    record {
      later = inv.later;
      mapped = inv.mapped;
      used = inv.used;
      went = inv.went;
      came = λ t. inv.came t ∙ ap (λ (l : List InputView). came_of t c.args.lane.now.texts + times t (texts_of l)) (take_all c.fresh.i xs ge);
      counted = rose_more inv.maps 0 inv.joins (new_weight length c.args.lane.now.texts xs) 0 (new_weight pairs c.args.lane.now.texts xs) (g.J.Meter.Meter.counts c.args.meter.now) (g.J.Meter.Meter.counts c.fresh.meter)
          (let m = inv.maps_left in omega (arith, m)) (omega arith) (let m = inv.joins_left in omega (arith, m)) inv.rose;
    }

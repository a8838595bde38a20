use Rattle.std.proofs.Common.{ℕ, suc, add-one, [], ◌∷◌, ◌++◌, List, length, length-append, drop, vec_len, sym, ap, ◌∙◌, arith}
use Rattle.std.proofs.lemmas.List.{nil_from_length}
use Rattle.run_engine.specs.declared.task.Task.TheVariants.{Sweep}
use Rattle.run_engine.specs.Rows.{row_of}
use Rattle.run_engine.proofs.RowSteps.{works_of, row-split, ends-in, last-is, whole-first, whole-next, works-none}
use Rattle.run_engine.proofs.row.unpacked.Goals as goal

pub unreachable-requires : goal.unreachable-requires
unreachable-requires g c =
    let r = c.requires.row in
    let l = last-is r.items r.meters r.last c.pop.new.self.items c.in-Some-Work.field-0 r.count (sym r.is ∙ c.in-Some-Work.ensures.items) in
    let bad = sym c.in-Some-Work.field-0-is ∙ l.0 in cc

pub unreachable-requires-in-None : goal.unreachable-requires-in-None
unreachable-requires-in-None g c =
    let r = c.requires.row in
    let n = ap (λ (l : List _). length l) (r.is ∙ row-split r.items r.meters r.last r.count) in
    let m = length-append (works_of r.items r.meters) (Sweep r.last ∷ []) in
    let none = c.in-None.ensures.cases.0 in
    omega (arith, n, m, none, c.args.row.ok.0)

pub tasks-init : goal.tasks-init
tasks-init g c =
    let r = c.requires.row in
    let l = last-is r.items r.meters r.last c.pop.new.self.items c.in-Some-Sweep.field-0 r.count (sym r.is ∙ c.in-Some-Sweep.ensures.items) in
    let one = c.in-Some-Sweep.ensures.len in
    let none = nil_from_length c.args.items.now.items (omega (arith, c.requires.items.0, c.args.items.now.ok.0)) in
    record {
      items = r.items;
      meters = r.meters;
      row = l.1;
      whole = r.is ∙ whole-first r.items r.meters c.args.meters.now.items r.last c.in-Some-Sweep.last c.args.items.now.items r.count none
          (let is = sym l.0 ∙ c.in-Some-Sweep.field-0-is in cc);
      front = r.count;
      count = omega (arith, c.requires.items.0);
      others = ap (λ (n : ℕ). drop n c.args.meters.now.items) c.requires.items.0;
      room = (omega (arith, one, c.requires.items), omega (arith, one, c.requires.meters));
    }

pub unreachable-requires-in-Sweep : goal.unreachable-requires-in-Sweep
unreachable-requires-in-Sweep g c =
    let i = c.tasks.invariant in
    let e = ends-in i.items i.meters c.pop-in-tasks.new.self.items c.in-Some.task i.front (sym i.row ∙ c.in-Some.ensures.items) in
    let bad = sym e.task_is ∙ c.in-Sweep.is in cc

pub tasks-preserved : goal.tasks-preserved
tasks-preserved g c =
    let i = c.tasks.invariant in
    let e = ends-in i.items i.meters c.pop-in-tasks.new.self.items c.in-Some.task i.front (sym i.row ∙ c.in-Some.ensures.items) in
    let same = sym e.task_is ∙ c.in-Work.is in
    let one = c.in-Some.ensures.len in let a = c.in-Ok.ensures.len in let b = c.in-Ok-insert.ensures.len in
    let p = c.in-Ok.ensures.capacity in let q = c.in-Ok-insert.ensures.capacity in
    record {
      items = e.items_now;
      meters = e.meters_now;
      row = e.front_is;
      whole = i.whole ∙ whole-next i.items e.items_now e.item c.tasks.items.items c.insert.new.self.items i.meters e.meters_now e.meter c.tasks.meters.items c.insert-in-Some.new.self.items c.in-Some-Sweep.last
          e.items_are e.meters_are (c.in-Ok.ensures.items ∙ ap (λ x. x ∷ c.tasks.items.items) (let s = same in cc)) (c.in-Ok-insert.ensures.items ∙ ap (λ x. x ∷ c.tasks.meters.items) (let s = same in cc));
      front = e.count;
      count = omega (arith, i.count, a, b);
      others = ap (λ (n : ℕ). drop n c.insert-in-Some.new.self.items) (a ∙ add-one (vec_len c.tasks.items)) ∙ ap (drop (suc (vec_len c.tasks.items))) c.in-Ok-insert.ensures.items ∙ i.others;
      room = (omega (arith, one, i.room, a, p), omega (arith, one, i.room, b, q));
    }

pub returns-clause-row : goal.returns-clause-row
returns-clause-row g c =
    let i = c.tasks.invariant in
    let none = c.in_default.ensures.cases.0 in
    let n = ap (λ (l : List _). length l) i.row in
    let fronts = works-none i.items i.meters i.front (let k = nil_from_length (c.tasks.row.items) (omega (arith, none, c.tasks.row.ok.0)) in sym i.row ∙ k) in
    i.whole ∙ ap (λ (x : List _). row_of (x ++ c.tasks.items.items) (i.meters ++ c.tasks.meters.items) c.in-Some-Sweep.last) fronts.0 ∙ ap (λ (x : List _). row_of c.tasks.items.items (x ++ c.tasks.meters.items) c.in-Some-Sweep.last) fronts.1

use Rattle.std.proofs.Common.{◌≡◌, suc, [], ◌∷◌, ◌++◌, length, List, take, drop, vec_len, refl, sym, ap, ◌∙◌, arith, append-nil, append_assoc}
use Rattle.std.specs.Prelude.{slice_index_or}
use Rattle.std.specs.List.{remove}
use Rattle.std.proofs.lemmas.List.{take-append-drop, length-take-le, nil_from_length}
use Rattle.run_engine.specs.declared.task.Task.TheVariants.{Work, Sweep}
use Rattle.run_engine.specs.Rows.{row_of}
use Rattle.run_engine.proofs.RowSteps.{ends-with, middle-read, middle-removed, from-next, row-extra}
use Rattle.run_engine.proofs.row.packed.Goals as goal

pub items-init : goal.items-init
items-init g c =
    let n = vec_len c.args.items.now in
    let none = ap (λ (r : List _). length r) c.requires.empty in
    record {
      items = [];
      meters = [];
      front = take n c.args.meters.now.items;
      others = drop n c.args.meters.now.items;
      are = sym (append-nil c.args.items.now.items);
      from = sym (take-append-drop n c.args.meters.now.items);
      now = sym (take-append-drop n c.args.meters.now.items);
      behind = refl;
      count = length-take-le n c.args.meters.now.items (let h = c.requires.count in omega (arith, h, c.args.meters.now.ok.0));
      as_many = refl;
      row = c.push_reserved.ensures.items ∙ ap (λ r. r ++ Sweep c.args.last ∷ []) c.requires.empty;
      room = omega (arith, none, c.args.row.ok.0, c.push_reserved.ensures.len, c.push_reserved.ensures.capacity, c.requires.room);
      same = (refl, refl);
    }

pub items-preserved : goal.items-preserved
items-preserved g c =
    let i = c.items.invariant in
    let x = c.in-Some.item in
    let n = c.len.result in
    let one = c.in-Some.ensures.len in
    let at = c.len.ensures in
    let e = ends-with i.front n (let k = i.count in omega (arith, k, one, at)) in
    let meters : c.items.meters.items ≡ (e.init ++ e.last ∷ []) ++ i.others = i.now ∙ ap (λ (l : List _). l ++ i.others) e.is in
    let meter : c.remove-meter.result ≡ e.last = c.remove-meter.ensures.value ∙ ap (λ (l : List _). slice_index_or l n c.remove-meter.result) meters ∙ middle-read e.init i.others e.last c.remove-meter.result n e.count in
    record {
      items = x ∷ i.items;
      meters = e.last ∷ i.meters;
      front = e.init;
      others = i.others;
      are = i.are ∙ ap (λ (l : List _). l ++ i.items) c.in-Some.ensures.items ∙ append_assoc c.pop.new.self.items (x ∷ []) i.items;
      from = i.from ∙ ap (λ (l : List _). l ++ (i.meters ++ i.others)) e.is ∙ from-next e.init i.meters i.others e.last;
      now = c.remove-meter.ensures.items ∙ ap (λ (l : List _). remove l n) meters ∙ middle-removed e.init i.others e.last n e.count;
      behind = i.behind;
      count = e.count ∙ at;
      as_many = ap suc i.as_many;
      row = c.in-Ok.ensures.items ∙ ap (λ m. Work x m ∷ c.items.row.items) meter ∙ ap (λ (r : List _). Work x e.last ∷ r) i.row;
      room = let r = i.room in omega (arith, r, one, c.in-Ok.ensures.len, c.in-Ok.ensures.capacity);
      same = let s = i.same in (omega (arith, s, c.in-Some.ensures.capacity), omega (arith, s, c.remove-meter.ensures.capacity));
    }

pub returns-clause-row : goal.returns-clause-row
returns-clause-row g c =
    let i = c.items.invariant in
    let none = c.in_default.ensures.cases.0 in
    let items : c.args.items.now.items ≡ i.items = i.are ∙ ap (λ (l : List _). l ++ i.items) (nil_from_length c.items.items.items (omega (arith, none, c.items.items.ok.0))) in
    let meters : c.args.meters.now.items ≡ i.meters ++ i.others = i.from ∙ ap (λ (l : List _). l ++ (i.meters ++ i.others)) (nil_from_length i.front (let k = i.count in omega (arith, none, k))) in
    i.row ∙ sym (row-extra i.items i.meters i.others c.args.last i.as_many) ∙ sym (ap (λ (l : List _). row_of l (i.meters ++ i.others) c.args.last) items) ∙ sym (ap (λ (l : List _). row_of c.args.items.now.items l c.args.last) meters)

pub returns-clause-meters : goal.returns-clause-meters
returns-clause-meters g c =
    let i = c.items.invariant in
    let none = c.in_default.ensures.cases.0 in
    let s = i.same in
    (i.now ∙ ap (λ (l : List _). l ++ i.others) (nil_from_length i.front (let k = i.count in omega (arith, none, k))) ∙ i.behind, s.1)

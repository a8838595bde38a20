use Rattle.std.proofs.Common.{◌≡◌, ℕ, ◌≤◌, List, length, take, drop, vec_len, sym, ap, subst, ◌∙◌, arith}
use Rattle.std.proofs.lemmas.List.{length-take-le, length-drop}
use Rattle.worker_claims.specs.Hands.{IsWorked, gated}
use Rattle.run_engine.specs.declared.task.Task.{Task as TaskOf}
use Rattle.run_engine.specs.Rows.{row_of}
use Rattle.run_engine.proofs.RowSteps.{worked-row, row-length, row-same, row-take}
use Rattle.run_engine.proofs.row.work_row.Goals as goal

pub work_all-requires-clause-tasks : goal.work_all-requires-clause-tasks
work_all-requires-clause-tasks g c =
    let counts : length c.args.items.now.items ≤ length c.args.meters.now.items = let n = c.requires.count in omega (arith, n, c.args.meters.now.ok.0, c.args.items.now.ok.0) in
    let n = ap (λ (l : List _). length l) c.packed-row.ensures.row ∙ row-length c.args.items.now.items c.args.meters.now.items c.args.last counts in
    let few = c.requires.few in
    omega (arith, n, few, c.packed-row.result.ok.0, c.args.items.now.ok.0)

pub unpacked-last-requires-clause-row : goal.unpacked-last-requires-clause-row
unpacked-last-requires-clause-row g c =
    let xs = c.args.items.now.items in
    let ms = take (length xs) c.args.meters.now.items in
    let counts : length xs ≤ length c.args.meters.now.items = let n = c.requires.count in omega (arith, n, c.args.meters.now.ok.0, c.args.items.now.ok.0) in
    let exact = length-take-le (length xs) c.args.meters.now.items counts in
    let works = gated (g.G.Gate.passed c.args.gate.now) (g.W.Worker.works c.args.worker.now) in
    (worked-row works (λ k x y w. c.requires.kinds k x y w.1) xs ms c.args.last exact c.in-Ok-work_all.row.items
    (subst (λ (r : List (TaskOf _ _ _)). IsWorked works r c.in-Ok-work_all.row.items) (c.packed-row.ensures.row ∙ row-take xs c.args.meters.now.items c.args.last counts) c.in-Ok-work_all.ensures.worked)).0

pub unpacked-last-requires-clause-items : goal.unpacked-last-requires-clause-items
unpacked-last-requires-clause-items g c =
    let counts : length c.args.items.now.items ≤ length c.args.meters.now.items = let n = c.requires.count in omega (arith, n, c.args.meters.now.ok.0, c.args.items.now.ok.0) in
    let n = ap (λ (l : List _). length l) c.packed-row.ensures.row ∙ row-length c.args.items.now.items c.args.meters.now.items c.args.last counts in
    let m = c.in-Ok-work_all.ensures.worked.count in
    let i = c.packed-row.ensures.items in
    (i.0, omega (arith, n, m, i, c.args.items.now.ok, c.in-Ok-work_all.row.ok.0))

pub unpacked-last-requires-clause-meters : goal.unpacked-last-requires-clause-meters
unpacked-last-requires-clause-meters g c =
    let counts : length c.args.items.now.items ≤ length c.args.meters.now.items = let n = c.requires.count in omega (arith, n, c.args.meters.now.ok.0, c.args.items.now.ok.0) in
    let n = ap (λ (l : List _). length l) c.packed-row.ensures.row ∙ row-length c.args.items.now.items c.args.meters.now.items c.args.last counts in
    let m = c.in-Ok-work_all.ensures.worked.count in
    let i = c.packed-row.ensures.meters in
    let d = ap (λ (l : List _). length l) i.0 ∙ length-drop (vec_len c.args.items.now) c.args.meters.now.items in
    let e = i.1 in
    omega (arith, n, m, d, e, counts, c.args.meters.now.ok, c.args.items.now.ok, c.in-Ok-work_all.row.ok.0, c.packed-row.new.meters.ok.0)

pub unpacked-last-requires-in-Err-work_all-clause-row : goal.unpacked-last-requires-in-Err-work_all-clause-row
unpacked-last-requires-in-Err-work_all-clause-row g c =
    let xs = c.args.items.now.items in
    let ms = c.args.meters.now.items in
    let counts : length xs ≤ length ms = let n = c.requires.count in omega (arith, n, c.args.meters.now.ok.0, c.args.items.now.ok.0) in
    record {
      items = xs;
      meters = take (length xs) ms;
      last = c.args.last;
      count = length-take-le (length xs) ms counts;
      is = c.in-Err-work_all.ensures.err ∙ c.packed-row.ensures.row ∙ row-take xs ms c.args.last counts;
    }

pub unpacked-last-requires-in-Err-work_all-clause-items : goal.unpacked-last-requires-in-Err-work_all-clause-items
unpacked-last-requires-in-Err-work_all-clause-items g c =
    let xs = c.args.items.now.items in
    let ms = c.args.meters.now.items in
    let counts : length xs ≤ length ms = let n = c.requires.count in omega (arith, n, c.args.meters.now.ok.0, c.args.items.now.ok.0) in
    let n = ap (λ (l : List _). length l) (c.in-Err-work_all.ensures.err ∙ c.packed-row.ensures.row) ∙ row-length xs ms c.args.last counts in
    let i = c.packed-row.ensures.items in
    (i.0, omega (arith, n, i, c.args.items.now.ok, c.in-Err-work_all.row.ok.0))

pub unpacked-last-requires-in-Err-work_all-clause-meters : goal.unpacked-last-requires-in-Err-work_all-clause-meters
unpacked-last-requires-in-Err-work_all-clause-meters g c =
    let xs = c.args.items.now.items in
    let ms = c.args.meters.now.items in
    let counts : length xs ≤ length ms = let n = c.requires.count in omega (arith, n, c.args.meters.now.ok.0, c.args.items.now.ok.0) in
    let n = ap (λ (l : List _). length l) (c.in-Err-work_all.ensures.err ∙ c.packed-row.ensures.row) ∙ row-length xs ms c.args.last counts in
    let i = c.packed-row.ensures.meters in
    let d = ap (λ (l : List _). length l) i.0 ∙ length-drop (vec_len c.args.items.now) ms in
    let e = i.1 in
    omega (arith, n, d, e, counts, c.args.meters.now.ok, c.args.items.now.ok, c.in-Err-work_all.row.ok.0, c.packed-row.new.meters.ok.0)

pub returns-in-Ok-work_all-clause-ok : goal.returns-in-Ok-work_all-clause-ok
returns-in-Ok-work_all-clause-ok g c =
    let xs = c.args.items.now.items in
    let ms = c.args.meters.now.items in
    let counts : length xs ≤ length ms = let n = c.requires.count in omega (arith, n, c.args.meters.now.ok.0, c.args.items.now.ok.0) in
    let n = ap (λ (l : List _). length l) c.packed-row.ensures.row ∙ row-length xs ms c.args.last counts in
    let m = c.in-Ok-work_all.ensures.worked.count in
    let u = c.unpacked-last in
    let left = ap (λ (l : List _). length l) c.packed-row.ensures.meters.0 ∙ length-drop (vec_len c.args.items.now) ms in
    let now : length u.new.items.items ≤ length u.new.meters.items = let k = u.ensures.count in omega (arith, k, u.new.meters.ok.0, u.new.items.ok.0) in
    let l = ap (λ (l : List _). length l) u.ensures.row ∙ row-length u.new.items.items u.new.meters.items u.result now in
    let as_many : length u.new.items.items ≡ length xs = omega (arith, n, m, l) in
    let works = gated (g.G.Gate.passed c.args.gate.now) (g.W.Worker.works c.args.worker.now) in
    record {
      count = as_many;
      meters_count = let k = u.ensures.count in omega (arith, k, as_many, left, counts, u.new.meters.ok.0, u.new.items.ok.0, c.args.items.now.ok.0, c.packed-row.new.meters.ok.0);
      others = ap (λ (k : ℕ). drop k u.new.meters.items) (let k = u.new.items.ok.0 in let e : length xs ≡ vec_len u.new.items = omega (arith, as_many, k) in e) ∙ u.ensures.others ∙ c.packed-row.ensures.meters.0 ∙ ap (λ (k : ℕ). drop k ms) (let k = c.args.items.now.ok.0 in let e : vec_len c.args.items.now ≡ length xs = omega (arith, k) in e);
      worked = subst (λ (r : List (TaskOf _ _ _)). IsWorked works (row_of xs ms c.args.last) r) u.ensures.row
          (subst (λ (r : List (TaskOf _ _ _)). IsWorked works r c.in-Ok-work_all.row.items) c.packed-row.ensures.row c.in-Ok-work_all.ensures.worked);
    }

pub returns-in-Err-work_all-clause-err : goal.returns-in-Err-work_all-clause-err
returns-in-Err-work_all-clause-err g c =
    let xs = c.args.items.now.items in
    let ms = c.args.meters.now.items in
    let counts : length xs ≤ length ms = let n = c.requires.count in omega (arith, n, c.args.meters.now.ok.0, c.args.items.now.ok.0) in
    let u = c.unpacked-last-in-Err-work_all in
    let now : length u.new.items.items ≤ length u.new.meters.items = let k = u.ensures.count in omega (arith, k, u.new.meters.ok.0, u.new.items.ok.0) in
    row-same xs ms c.args.last u.new.items.items u.new.meters.items u.result counts now
    (ap (λ (k : ℕ). drop k u.new.meters.items) (let k = u.new.items.ok.0 in let e : length u.new.items.items ≡ vec_len u.new.items = omega (arith, k) in e) ∙ u.ensures.others ∙ c.packed-row.ensures.meters.0 ∙ ap (λ (k : ℕ). drop k ms) (let k = c.args.items.now.ok.0 in let e : vec_len c.args.items.now ≡ length xs = omega (arith, k) in e))
    (sym (c.in-Err-work_all.ensures.err ∙ c.packed-row.ensures.row) ∙ u.ensures.row)

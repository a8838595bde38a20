use Rattle.std.proofs.Common.{◌≤◌, ◌++◌, length, [], ◌∷◌, ap, ◌∙◌, arith, rules}
use Rattle.definitions.specs.Tables.{merge_in_order}
use Rattle.sheets.proofs.MergeSteps.{rest_of, good_rest, joins_step, takes_right_step, ties-joins, ties-takes_right}
use Rattle.sheets.proofs.merging.merge_entries.Goals as goal

pub entries-preserved-in-Equal : goal.entries-preserved-in-Equal
entries-preserved-in-Equal g c =
    let join = g.J.Job.joined (g.J.Job.setting c.args.job.now) in
    let t = c.entries.left.now in
    let u = c.entries.right.now in
    let e = c.e-item-in-entries.result in
    let f = c.f-item-in-entries.result in
    let some_left : 1 ≤ length t = search rules in
    let some_right : 1 ≤ length u = search rules in
    record {
      left = good_rest (g.J.Job.good (g.J.Job.setting c.args.job.now)) t c.entries.invariant.left;
      right = good_rest (g.J.Job.good (g.J.Job.setting c.args.job.now)) u c.entries.invariant.right;
      rest =
          ap (λ es. es ++ merge_in_order join (rest_of t) (rest_of u)) (c.in_ok-push-in-Equal.ensures.items ∙ ap (λ v. c.entries.out.items ++ v ∷ []) c.in_ok-join_entries-in-Equal.ensures.ok)
          ∙ joins_step join c.entries.out.items t u e f some_left some_right c.e-item-in-entries.is c.f-item-in-entries.is c.in-Equal.ensures
          ∙ c.entries.invariant.rest;
      maps = ap (λ n. n.maps) c.in_ok-join_entries-in-Equal.ensures.counted ∙ c.entries.invariant.maps;
      merges = ap (λ n. n.merges) c.in_ok-join_entries-in-Equal.ensures.counted ∙ c.entries.invariant.merges;
      least = omega (arith, ap (λ n. n.joins) c.in_ok-join_entries-in-Equal.ensures.counted, c.entries.invariant.least);
      most = omega (arith, ap (λ n. n.joins) c.in_ok-join_entries-in-Equal.ensures.counted, ties-joins t u e f some_left some_right c.e-item-in-entries.is c.f-item-in-entries.is c.in-Equal.ensures, c.entries.invariant.most);
    }

pub entries-preserved : goal.entries-preserved
entries-preserved g c =
    let join = g.J.Job.joined (g.J.Job.setting c.args.job.now) in
    let t = c.entries.left.now in
    let u = c.entries.right.now in
    let e = c.e-item-in-entries.result in
    let f = c.f-item-in-entries.result in
    let some_left : 1 ≤ length t = search rules in
    let some_right : 1 ≤ length u = search rules in
    record {
      left = c.entries.invariant.left;
      right = good_rest (g.J.Job.good (g.J.Job.setting c.args.job.now)) u c.entries.invariant.right;
      rest =
          ap (λ es. es ++ merge_in_order join t (rest_of u)) (c.in_ok-push-in-Greater.ensures.items ∙ ap (λ v. c.entries.out.items ++ v ∷ []) c.in_ok-copy_entry-in-Greater.ensures)
          ∙ takes_right_step join c.entries.out.items t u e f some_left some_right c.e-item-in-entries.is c.f-item-in-entries.is c.in-Greater.ensures
          ∙ c.entries.invariant.rest;
      maps = c.entries.invariant.maps;
      merges = c.entries.invariant.merges;
      least = c.entries.invariant.least;
      most = omega (arith, ties-takes_right t u e f some_left some_right c.e-item-in-entries.is c.f-item-in-entries.is c.in-Greater.ensures, c.entries.invariant.most);
    }

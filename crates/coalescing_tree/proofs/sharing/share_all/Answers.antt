use Rattle.std.proofs.Common.{◌≡◌, ◌+◌, ◌<◌, List, [], ◌∷◌, ◌++◌, length, take, sym, ap, subst, ◌∙◌, arith, append_assoc}
use Rattle.std.proofs.lemmas.List.{take_at, take_more}
use Rattle.std.proofs.lemmas.List.Elements.{All-more}
use Rattle.sheets.specs.Sheets.{SheetOf}
use Rattle.tree_laws.specs.Trees.{IsLeaf}
use Rattle.coalescing_tree.proofs.sharing.share_all.Goals as goal

pub returns-in-Err-clause-err : goal.returns-in-Err-clause-err
returns-in-Err-clause-err g c =
    let before = c.args.leaves.now.items in
    let n = c.fresh.invariant.count in
    let ok = c.args.leaves.now.ok.0 in
    c.truncate.ensures.items ∙ (ap (take c.len-count.result) (c.in-Err.ensures.err ∙ c.fresh.invariant.items) ∙ take_at before (take c.fresh.i c.args.fresh.now) c.len-count.result (omega (arith, n, ok)))

pub fresh-preserved : goal.fresh-preserved
fresh-preserved g c =
    let before = c.args.leaves.now.items in
    let fresh = c.args.fresh.now in
    let x = c.index-fresh-i.result in
    let lt : c.fresh.i < length fresh = c.fresh-test.true in
    let more : take c.fresh.i fresh ++ x ∷ [] ≡ take (c.fresh.i + 1) fresh = (let m = take_more fresh c.fresh.i x lt in rw (← c.index-fresh-i.is) at (sym m)) in
    record {
      items = c.in-Ok.ensures.ok ∙ (ap (λ (ss : List (SheetOf g.row.J-Val.Denot)). ss ++ x ∷ []) c.fresh.invariant.items ∙ (append_assoc before (take c.fresh.i fresh) (x ∷ []) ∙ ap (λ (ss : List (SheetOf g.row.J-Val.Denot)). before ++ ss) more));
      sound = All-more (λ (s : SheetOf g.row.J-Val.Denot). IsLeaf g.J.Job.good s.setting s) fresh c.fresh.i x lt c.fresh.invariant.sound (subst (λ (s : SheetOf g.row.J-Val.Denot). IsLeaf g.J.Job.good s.setting s) c.index-fresh-i.is c.in-Ok.ensures.sound);
      count = c.fresh.invariant.count;
    }

use Rattle.std.proofs.Common.{◌≡◌, ℕ, ◌+◌, ◌<◌, [], ◌∷◌, ◌++◌, length, take, sym, subst, arith, length-take}
use Rattle.std.proofs.lemmas.List.{take_more}
use Rattle.std.proofs.lemmas.List.Elements.{All-nil, All-more}
use Rattle.sheets.specs.Sheets.{SheetOf}
use Rattle.tree_laws.specs.Trees.{IsLeaf}
use Rattle.random_tree.specs.Steps.{AreLeaves}
use Rattle.random_tree.proofs.DraftLaws.{leaves-length, leaves-push}
use Rattle.random_tree.proofs.sharing.share_all.Goals as goal

pub sheets-init : goal.sheets-init
sheets-init g c = record {
  leaves = subst (λ gs. AreLeaves [] gs) (sym c.requires.none) tt;
  sound = All-nil (λ (s : SheetOf g.row.J-Val.Denot). IsLeaf g.J.Job.good s.setting s);
}

pub returns-in-Err-clause-err : goal.returns-in-Err-clause-err
returns-in-Err-clause-err g c =
    let ss = c.args.sheets.now in
    let gs = c.sheets.leaves.items in
    let lt : c.sheets.i < length ss = c.sheets-test.true in
    let n = leaves-length (take c.sheets.i ss) gs c.sheets.invariant.leaves in
    let m = length-take c.sheets.i ss in
    let count : length gs ≡ c.sheets.i = omega (arith, n, m, lt) in
    subst (λ hs. AreLeaves (take (length hs) ss) hs) (sym c.in-Err.ensures.err) (subst (λ (k : ℕ). AreLeaves (take k ss) gs) (sym count) c.sheets.invariant.leaves)

pub sheets-preserved : goal.sheets-preserved
sheets-preserved g c =
    let ss = c.args.sheets.now in
    let gs = c.sheets.leaves.items in
    let x = c.index-sheets-i.result in
    let lt : c.sheets.i < length ss = c.sheets-test.true in
    let a = c.in-Ok.ensures.ok in
    let more : take c.sheets.i ss ++ x ∷ [] ≡ take (c.sheets.i + 1) ss = (let m = take_more ss c.sheets.i x lt in rw (← c.index-sheets-i.is) at (sym m)) in
    record {
      leaves = subst (λ ts. AreLeaves ts c.share_one.new.leaves.items) more (subst (λ hs. AreLeaves (take c.sheets.i ss ++ x ∷ []) hs) (sym a.is) (leaves-push (take c.sheets.i ss) gs x a.group c.sheets.invariant.leaves a.first a.none a.ended));
      sound = All-more (λ (s : SheetOf g.row.J-Val.Denot). IsLeaf g.J.Job.good s.setting s) ss c.sheets.i x lt c.sheets.invariant.sound (subst (λ (s : SheetOf g.row.J-Val.Denot). IsLeaf g.J.Job.good s.setting s) c.index-sheets-i.is c.in-Ok.ensures.sound);
    }

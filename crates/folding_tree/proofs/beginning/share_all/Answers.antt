use Rattle.std.proofs.Common.{◌≡◌, ◌++◌, ◌∷◌, [], map, take, get_or, refl, sym, ap, subst, ◌∙◌, arith}
use Rattle.std.specs.List.{All}
use Rattle.std.proofs.lemmas.List.{map-append, take_more, take_all, get_or_read}
use Rattle.std.proofs.lemmas.List.Elements.{All-nil, All-push}
use Rattle.tree_laws.specs.Trees.{IsLeaf}
use Rattle.folding_tree.specs.declared.part.Part.TheVariants.{Shared}
use Rattle.folding_tree.proofs.beginning.share_all.Goals as goal

pub sheets-init : goal.sheets-init
sheets-init g c = record {
  room = c.in_ok-parts.ensures.exact;
  count = c.in_ok-parts.ensures.len;
  parts = c.in_ok-parts.ensures.items;
  leaves = All-nil (λ s. IsLeaf g.J.Job.good s.setting s);
}

pub sheets-preserved : goal.sheets-preserved
sheets-preserved g c =
    let ss = c.args.sheets.now in
    let i = c.sheets.i in
    let inv = c.sheets.invariant in
    let lt = c.sheets-test.true in
    let sheet = c.in_ok-sheet.sheet in
    let at : c.index-sheets-i.result ≡ get_or ss i sheet = get_or_read ss i c.index-sheets-i.result lt c.index-sheets-i.is sheet in
    let is : sheet ≡ get_or ss i sheet = c.in_ok-sheet.ensures.same ∙ at in
    let count = inv.count in
    record {
      room = c.push_back_reserved.ensures.capacity ∙ inv.room;
      count = (let n = c.push_back_reserved.ensures.len in omega (arith, n, count));
      parts = c.push_back_reserved.ensures.items ∙ ap (λ xs. xs ++ Shared sheet ∷ []) inv.parts
          ∙ ap (λ s. map Shared (take i ss) ++ Shared s ∷ []) is
          ∙ sym (ap (map Shared) (take_more ss i sheet lt) ∙ map-append Shared (take i ss) (get_or ss i sheet ∷ []));
      leaves = subst (All (λ s. IsLeaf g.J.Job.good s.setting s)) (sym (take_more ss i sheet lt))
          (All-push (λ s. IsLeaf g.J.Job.good s.setting s) (take i ss) (get_or ss i sheet) inv.leaves
          (subst (λ s. IsLeaf g.J.Job.good s.setting s) at (record { setting_is = refl; values = c.in_ok-sheet.ensures.good; rising = c.in_ok-sheet.ensures.rising })));
    }

pub returns-clause-parts : goal.returns-clause-parts
returns-clause-parts g c = c.sheets.invariant.parts ∙ ap (map Shared) (take_all c.sheets.i c.args.sheets.now c.sheets-test.false)

pub returns-clause-leaves : goal.returns-clause-leaves
returns-clause-leaves g c = subst (All (λ s. IsLeaf g.J.Job.good s.setting s)) (take_all c.sheets.i c.args.sheets.now c.sheets-test.false) c.sheets.invariant.leaves

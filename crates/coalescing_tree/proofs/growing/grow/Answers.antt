use Rattle.std.proofs.Common.{◌≡◌, ◌+◌, ◌-◌, ◌<◌, List, ◌++◌, length, take, sym, ap, subst, ◌∙◌, arith}
use Rattle.std.specs.List.{All}
use Rattle.std.proofs.lemmas.List.Elements.{All-take, All-drop}
use Rattle.sheets.specs.Sheets.{SheetOf}
use Rattle.sheets.specs.United.{tables_of}
use Rattle.tree_laws.specs.Pairs.{pair_of, pair_digest}
use Rattle.tree_laws.specs.Holds.{all_pins}
use Rattle.tree_laws.specs.Trees.{IsLeaf, IsWithin, distinct_keys}
use Rattle.tree_laws.proofs.LeafLaws.{over-none, cost-within, all-within, merged-more, merged-within}
use Rattle.tree_laws.proofs.GetLaws.{gets-after, gets-push}
use Rattle.coalescing_tree.proofs.TopLaws.{top-push, top-read, top-same, over-not_none}
use Rattle.coalescing_tree.proofs.LooseLaws.{loose-push, loose-after}
use Rattle.coalescing_tree.proofs.growing.grow.Goals as goal

pub chain-requires-clause-leaves : goal.chain-requires-clause-leaves
chain-requires-clause-leaves g c =
    let s = g.J.Job.setting c.args.job.now in
    let news : All (IsLeaf g.J.Job.good s) c.split_at.result.1.now = subst (λ (ss : List (SheetOf g.row.J-Val.Denot)). All (IsLeaf g.J.Job.good s) ss) (sym c.split_at.ensures.back) (All-drop (IsLeaf g.J.Job.good s) c.args.standing c.args.leaves.now c.requires.leaves) in
    news

pub returns-in-Err-clause-counted : goal.returns-in-Err-clause-counted
returns-in-Err-clause-counted g c =
    let ts = tables_of c.args.leaves.now in
    let wnews : All (λ (x : SheetOf g.row.J-Val.Denot). IsWithin x.entries ts) c.split_at.result.1.now = subst (λ (ss : List (SheetOf g.row.J-Val.Denot)). All (λ (x : SheetOf g.row.J-Val.Denot). IsWithin x.entries ts) ss) (sym c.split_at.ensures.back) (All-drop (λ (x : SheetOf g.row.J-Val.Denot). IsWithin x.entries ts) c.args.standing c.args.leaves.now (all-within c.args.leaves.now)) in
    let n = c.split_at.ensures.back_len in
    let lt : c.args.standing < length c.args.leaves.now = c.requires.within in
    merged-within (length c.split_at.result.1.now - 1) (length c.args.leaves.now - c.args.standing) (distinct_keys ts) _ _ (omega (arith, n, lt)) (c.chain.ensures.counted ts wnews)

pub unreachable-requires : goal.unreachable-requires
unreachable-requires g c =
    let s = g.J.Job.setting c.args.job.now in
    let news : All (IsLeaf g.J.Job.good s) c.split_at.result.1.now = subst (λ (ss : List (SheetOf g.row.J-Val.Denot)). All (IsLeaf g.J.Job.good s) ss) (sym c.split_at.ensures.back) (All-drop (IsLeaf g.J.Job.good s) c.args.standing c.args.leaves.now c.requires.leaves) in
    let topnew = top-read g.J.Job.good g.J.Job.joined s c.split_at.result.1.now c.deref.result.now c.chain.new.made.items _ c.last.ensures.value c.deref.ensures.value c.in-Ok.ensures.top in
    let n = c.split_at.ensures.back_len in
    let lt : c.args.standing < length c.args.leaves.now = c.requires.within in
    let none = rw c.in_default.is at (c.root_over.ensures s news topnew) in over-not_none g.J.Job.good g.J.Job.joined s c.split_at.result.1.now (omega (arith, n, lt)) none

pub returns-in-None-clause-top : goal.returns-in-None-clause-top
returns-in-None-clause-top g c =
    let s = g.J.Job.setting c.args.job.now in
    let olds : All (IsLeaf g.J.Job.good s) c.split_at.result.0.now = subst (λ (ss : List (SheetOf g.row.J-Val.Denot)). All (IsLeaf g.J.Job.good s) ss) (sym c.split_at.ensures.front) (All-take (IsLeaf g.J.Job.good s) c.args.standing c.args.leaves.now c.requires.leaves) in
    let topold = top-same g.J.Job.good g.J.Job.joined s (take c.args.standing c.args.leaves.now) c.split_at.result.0.now _ (sym c.split_at.ensures.front) c.requires.top in
    let whole : c.split_at.result.0.now ++ c.split_at.result.1.now ≡ c.args.leaves.now = sym c.split_at.ensures.by_index.0 in
    let none = over-none g.J.Job.good g.J.Job.joined s c.split_at.result.0.now (c.in-None.ensures s olds topold) in top-same g.J.Job.good g.J.Job.joined s c.split_at.result.1.now c.args.leaves.now _ (sym (ap (λ (ss : List (SheetOf g.row.J-Val.Denot)). ss ++ c.split_at.result.1.now) none) ∙ whole) c.in-Ok.ensures.top

pub returns-in-None-clause-counted : goal.returns-in-None-clause-counted
returns-in-None-clause-counted g c =
    let ts = tables_of c.args.leaves.now in
    let wnews : All (λ (x : SheetOf g.row.J-Val.Denot). IsWithin x.entries ts) c.split_at.result.1.now = subst (λ (ss : List (SheetOf g.row.J-Val.Denot)). All (λ (x : SheetOf g.row.J-Val.Denot). IsWithin x.entries ts) ss) (sym c.split_at.ensures.back) (All-drop (λ (x : SheetOf g.row.J-Val.Denot). IsWithin x.entries ts) c.args.standing c.args.leaves.now (all-within c.args.leaves.now)) in
    let n = c.split_at.ensures.back_len in
    let lt : c.args.standing < length c.args.leaves.now = c.requires.within in
    merged-within (length c.split_at.result.1.now - 1) (length c.args.leaves.now - c.args.standing) (distinct_keys ts) _ _ (omega (arith, n, lt)) (c.chain.ensures.counted ts wnews)

pub merge_through-requires-clause-of : goal.merge_through-requires-clause-of
merge_through-requires-clause-of g c =
    c.chain.ensures.got.0.later.locks ∙ c.requires.of

pub merge_through-requires-clause-left : goal.merge_through-requires-clause-left
merge_through-requires-clause-left g c =
    let s = g.J.Job.setting c.args.job.now in
    let olds : All (IsLeaf g.J.Job.good s) c.split_at.result.0.now = subst (λ (ss : List (SheetOf g.row.J-Val.Denot)). All (IsLeaf g.J.Job.good s) ss) (sym c.split_at.ensures.front) (All-take (IsLeaf g.J.Job.good s) c.args.standing c.args.leaves.now c.requires.leaves) in
    let topold = top-same g.J.Job.good g.J.Job.joined s (take c.args.standing c.args.leaves.now) c.split_at.result.0.now _ (sym c.split_at.ensures.front) c.requires.top in
    let over = c.in-Some-root_over.ensures s olds topold in
    over.0

pub merge_through-requires-clause-right : goal.merge_through-requires-clause-right
merge_through-requires-clause-right g c =
    let s = g.J.Job.setting c.args.job.now in
    let news : All (IsLeaf g.J.Job.good s) c.split_at.result.1.now = subst (λ (ss : List (SheetOf g.row.J-Val.Denot)). All (IsLeaf g.J.Job.good s) ss) (sym c.split_at.ensures.back) (All-drop (IsLeaf g.J.Job.good s) c.args.standing c.args.leaves.now c.requires.leaves) in
    let topnew = top-read g.J.Job.good g.J.Job.joined s c.split_at.result.1.now c.deref.result.now c.chain.new.made.items _ c.last.ensures.value c.deref.ensures.value c.in-Ok.ensures.top in
    let under = c.in-Some.ensures s news topnew in
    under.0

pub push_reserved-requires : goal.push_reserved-requires
push_reserved-requires g c =
    let n = c.split_at.ensures.back_len in
    let lt : c.args.standing < length c.args.leaves.now = c.requires.within in
    let a = c.chain.ensures.count in let b = c.chain.ensures.room in let r = c.requires.room in omega (arith, n, lt, a, b, r)

pub returns-in-Ok-merge_through-clause-top : goal.returns-in-Ok-merge_through-clause-top
returns-in-Ok-merge_through-clause-top g c =
    let s = g.J.Job.setting c.args.job.now in
    let olds : All (IsLeaf g.J.Job.good s) c.split_at.result.0.now = subst (λ (ss : List (SheetOf g.row.J-Val.Denot)). All (IsLeaf g.J.Job.good s) ss) (sym c.split_at.ensures.front) (All-take (IsLeaf g.J.Job.good s) c.args.standing c.args.leaves.now c.requires.leaves) in
    let news : All (IsLeaf g.J.Job.good s) c.split_at.result.1.now = subst (λ (ss : List (SheetOf g.row.J-Val.Denot)). All (IsLeaf g.J.Job.good s) ss) (sym c.split_at.ensures.back) (All-drop (IsLeaf g.J.Job.good s) c.args.standing c.args.leaves.now c.requires.leaves) in
    let topold = top-same g.J.Job.good g.J.Job.joined s (take c.args.standing c.args.leaves.now) c.split_at.result.0.now _ (sym c.split_at.ensures.front) c.requires.top in
    let topnew = top-read g.J.Job.good g.J.Job.joined s c.split_at.result.1.now c.deref.result.now c.chain.new.made.items _ c.last.ensures.value c.deref.ensures.value c.in-Ok.ensures.top in
    let over = c.in-Some-root_over.ensures s olds topold in
    let under = c.in-Some.ensures s news topnew in
    let whole : c.split_at.result.0.now ++ c.split_at.result.1.now ≡ c.args.leaves.now = sym c.split_at.ensures.by_index.0 in
    top-push g.J.Job.good g.J.Job.joined s c.split_at.result.0.now c.split_at.result.1.now c.args.leaves.now c.in-Some-root_over.left.now c.in-Some.right.now c.chain.new.made.items c.push_reserved.new.self.items c.in-Ok-merge_through.hold (g.met.J.Job.join_laws s) olds news over under c.in-Ok-merge_through.ensures.value whole c.push_reserved.ensures.items

pub returns-in-Ok-merge_through-clause-got : goal.returns-in-Ok-merge_through-clause-got
returns-in-Ok-merge_through-clause-got g c =
    let d = pair_digest g.J.Job.encoded in
    gets-push d (pair_of c.in-Some-root_over.left.now c.in-Some.right.now) c.args.caller.now c.chain.new.caller c.merge_through.new.caller c.chain.new.made.items c.push_reserved.new.self.items c.in-Ok-merge_through.hold c.push_reserved.ensures.items c.in-Ok-merge_through.ensures.held c.chain.ensures.got

pub returns-in-Ok-merge_through-clause-loose : goal.returns-in-Ok-merge_through-clause-loose
returns-in-Ok-merge_through-clause-loose g c =
    let d = pair_digest g.J.Job.encoded in
    loose-push d (pair_of c.in-Some-root_over.left.now c.in-Some.right.now) c.args.caller.now c.chain.new.caller c.merge_through.new.caller c.chain.new.made.items c.push_reserved.new.self.items c.in-Ok-merge_through.hold c.push_reserved.ensures.items c.chain.ensures.got.0.later c.in-Ok-merge_through.ensures.held

pub returns-in-Ok-merge_through-clause-counted : goal.returns-in-Ok-merge_through-clause-counted
returns-in-Ok-merge_through-clause-counted g c =
    let s = g.J.Job.setting c.args.job.now in
    let ts = tables_of c.args.leaves.now in
    let olds : All (IsLeaf g.J.Job.good s) c.split_at.result.0.now = subst (λ (ss : List (SheetOf g.row.J-Val.Denot)). All (IsLeaf g.J.Job.good s) ss) (sym c.split_at.ensures.front) (All-take (IsLeaf g.J.Job.good s) c.args.standing c.args.leaves.now c.requires.leaves) in
    let topold = top-same g.J.Job.good g.J.Job.joined s (take c.args.standing c.args.leaves.now) c.split_at.result.0.now _ (sym c.split_at.ensures.front) c.requires.top in
    let over = c.in-Some-root_over.ensures s olds topold in
    let wolds : All (λ (x : SheetOf g.row.J-Val.Denot). IsWithin x.entries ts) c.split_at.result.0.now = subst (λ (ss : List (SheetOf g.row.J-Val.Denot)). All (λ (x : SheetOf g.row.J-Val.Denot). IsWithin x.entries ts) ss) (sym c.split_at.ensures.front) (All-take (λ (x : SheetOf g.row.J-Val.Denot). IsWithin x.entries ts) c.args.standing c.args.leaves.now (all-within c.args.leaves.now)) in
    let wnews : All (λ (x : SheetOf g.row.J-Val.Denot). IsWithin x.entries ts) c.split_at.result.1.now = subst (λ (ss : List (SheetOf g.row.J-Val.Denot)). All (λ (x : SheetOf g.row.J-Val.Denot). IsWithin x.entries ts) ss) (sym c.split_at.ensures.back) (All-drop (λ (x : SheetOf g.row.J-Val.Denot). IsWithin x.entries ts) c.args.standing c.args.leaves.now (all-within c.args.leaves.now)) in
    let cost = cost-within g.J.Job.good g.J.Job.joined s c.split_at.result.0.now c.in-Some-root_over.left.now c.in-Some.right.now ts olds wolds over in
    let n = c.split_at.ensures.back_len in
    let lt : c.args.standing < length c.args.leaves.now = c.requires.within in
    merged-within (length c.split_at.result.1.now - 1 + 1) (length c.args.leaves.now - c.args.standing) (distinct_keys ts) _ _ (omega (arith, n, lt)) (merged-more (length c.split_at.result.1.now - 1) (distinct_keys ts) _ _ _ _ cost (c.chain.ensures.counted ts wnews) c.in-Ok-merge_through.ensures.counted)

pub returns-in-Err-merge_through-clause-got : goal.returns-in-Err-merge_through-clause-got
returns-in-Err-merge_through-clause-got g c =
    let d = pair_digest g.J.Job.encoded in
    gets-after c.args.caller.now c.chain.new.caller c.merge_through.new.caller (all_pins d c.chain.new.made.items) c.chain.ensures.got c.in-Err-merge_through.ensures.unheld

pub returns-in-Err-merge_through-clause-loose : goal.returns-in-Err-merge_through-clause-loose
returns-in-Err-merge_through-clause-loose g c =
    loose-after c.args.caller.now c.chain.new.caller c.merge_through.new.caller c.chain.new.made.items c.chain.ensures.loose c.in-Err-merge_through.ensures.unheld

pub returns-in-Err-merge_through-clause-counted : goal.returns-in-Err-merge_through-clause-counted
returns-in-Err-merge_through-clause-counted g c =
    let s = g.J.Job.setting c.args.job.now in
    let ts = tables_of c.args.leaves.now in
    let olds : All (IsLeaf g.J.Job.good s) c.split_at.result.0.now = subst (λ (ss : List (SheetOf g.row.J-Val.Denot)). All (IsLeaf g.J.Job.good s) ss) (sym c.split_at.ensures.front) (All-take (IsLeaf g.J.Job.good s) c.args.standing c.args.leaves.now c.requires.leaves) in
    let topold = top-same g.J.Job.good g.J.Job.joined s (take c.args.standing c.args.leaves.now) c.split_at.result.0.now _ (sym c.split_at.ensures.front) c.requires.top in
    let over = c.in-Some-root_over.ensures s olds topold in
    let wolds : All (λ (x : SheetOf g.row.J-Val.Denot). IsWithin x.entries ts) c.split_at.result.0.now = subst (λ (ss : List (SheetOf g.row.J-Val.Denot)). All (λ (x : SheetOf g.row.J-Val.Denot). IsWithin x.entries ts) ss) (sym c.split_at.ensures.front) (All-take (λ (x : SheetOf g.row.J-Val.Denot). IsWithin x.entries ts) c.args.standing c.args.leaves.now (all-within c.args.leaves.now)) in
    let wnews : All (λ (x : SheetOf g.row.J-Val.Denot). IsWithin x.entries ts) c.split_at.result.1.now = subst (λ (ss : List (SheetOf g.row.J-Val.Denot)). All (λ (x : SheetOf g.row.J-Val.Denot). IsWithin x.entries ts) ss) (sym c.split_at.ensures.back) (All-drop (λ (x : SheetOf g.row.J-Val.Denot). IsWithin x.entries ts) c.args.standing c.args.leaves.now (all-within c.args.leaves.now)) in
    let cost = cost-within g.J.Job.good g.J.Job.joined s c.split_at.result.0.now c.in-Some-root_over.left.now c.in-Some.right.now ts olds wolds over in
    let n = c.split_at.ensures.back_len in
    let lt : c.args.standing < length c.args.leaves.now = c.requires.within in
    merged-within (length c.split_at.result.1.now - 1 + 1) (length c.args.leaves.now - c.args.standing) (distinct_keys ts) _ _ (omega (arith, n, lt)) (merged-more (length c.split_at.result.1.now - 1) (distinct_keys ts) _ _ _ _ cost (c.chain.ensures.counted ts wnews) c.in-Err-merge_through.ensures.counted)

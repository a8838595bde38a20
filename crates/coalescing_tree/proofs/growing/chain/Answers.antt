use Rattle.std.proofs.Common.{◌≡◌, ℕ, ◌+◌, ◌-◌, ◌*◌, ◌<◌, [], ◌∷◌, ◌++◌, length, take, vec_len, sym, subst, ◌∙◌, arith, length-take}
use Rattle.std.proofs.lemmas.List.Elements.{All-take, All-get_or, All-cons, All-nil}
use Rattle.std.proofs.lemmas.List.{take_more}
use Rattle.job_laws.specs.Counted.{RoseBy}
use Rattle.sheets.specs.Sheets.{SheetOf}
use Rattle.tree_laws.specs.Pairs.{pair_of, pair_digest}
use Rattle.tree_laws.specs.Holds.{all_pins}
use Rattle.tree_laws.specs.Trees.{IsLeaf, IsWithin, distinct_keys}
use Rattle.tree_laws.proofs.LeafLaws.{leaf-over, cost-within, merged-more, merged-within}
use Rattle.tree_laws.proofs.GetLaws.{gets-after, gets-push}
use Rattle.coalescing_tree.proofs.TopLaws.{top-push, top-read, over-not_none}
use Rattle.coalescing_tree.proofs.LooseLaws.{loose-push, loose-after}
use Rattle.coalescing_tree.proofs.growing.chain.Goals as goal

pub unreachable-requires : goal.unreachable-requires
unreachable-requires g c =
    let s = g.J.Job.setting c.args.job.now in
    let ss = take c.fresh.i c.args.fresh.now in
    let top = top-read g.J.Job.good g.J.Job.joined s ss c.deref.result.now c.fresh.made.items _ c.last.ensures.value c.deref.ensures.value c.fresh.invariant.top in
    let over = rw c.in_default.is at (c.root_over.ensures s (All-take (IsLeaf g.J.Job.good s) c.fresh.i c.args.fresh.now c.requires.leaves) top) in
    over-not_none g.J.Job.good g.J.Job.joined s ss (let l = length-take c.fresh.i c.args.fresh.now in let t = c.fresh-test.true in omega (arith, l, t, c.fresh.auto.i)) over

pub merge_through-requires-clause-left : goal.merge_through-requires-clause-left
merge_through-requires-clause-left g c =
    let s = g.J.Job.setting c.args.job.now in
    let ss = take c.fresh.i c.args.fresh.now in
    let top = top-read g.J.Job.good g.J.Job.joined s ss c.deref.result.now c.fresh.made.items _ c.last.ensures.value c.deref.ensures.value c.fresh.invariant.top in
    (c.in-Some.ensures s (All-take (IsLeaf g.J.Job.good s) c.fresh.i c.args.fresh.now c.requires.leaves) top).0

pub returns-in-Err-clause-got : goal.returns-in-Err-clause-got
returns-in-Err-clause-got g c = gets-after c.args.caller.now c.fresh.caller c.merge_through.new.caller (all_pins (pair_digest g.J.Job.encoded) c.fresh.made.items) c.fresh.invariant.got c.in-Err.ensures.unheld

pub returns-in-Err-clause-loose : goal.returns-in-Err-clause-loose
returns-in-Err-clause-loose g c = loose-after c.args.caller.now c.fresh.caller c.merge_through.new.caller c.fresh.made.items c.fresh.invariant.loose c.in-Err.ensures.unheld

pub returns-in-Err-clause-counted : goal.returns-in-Err-clause-counted
returns-in-Err-clause-counted g c = λ ts within.
    let s = g.J.Job.setting c.args.job.now in
    let ss = take c.fresh.i c.args.fresh.now in
    let leaves = All-take (IsLeaf g.J.Job.good s) c.fresh.i c.args.fresh.now c.requires.leaves in
    let top = top-read g.J.Job.good g.J.Job.joined s ss c.deref.result.now c.fresh.made.items _ c.last.ensures.value c.deref.ensures.value c.fresh.invariant.top in
    let over = c.in-Some.ensures s leaves top in
    let cost = cost-within g.J.Job.good g.J.Job.joined s ss c.in-Some.left.now c.index-fresh-i.result ts leaves (All-take (λ (x : SheetOf g.row.J-Val.Denot). IsWithin x.entries ts) c.fresh.i c.args.fresh.now within) over in
    merged-within (vec_len c.fresh.made + 1) (length c.args.fresh.now - 1) (distinct_keys ts) _ _ (let t = c.fresh-test.true in let n = c.fresh.invariant.count in omega (arith, t, n)) (merged-more (vec_len c.fresh.made) (distinct_keys ts) _ _ _ _ cost (c.fresh.invariant.counted ts within) c.in-Err.ensures.counted)

pub fresh-preserved : goal.fresh-preserved
fresh-preserved g c =
    let s = g.J.Job.setting c.args.job.now in
    let d = pair_digest g.J.Job.encoded in
    let u = c.args.caller.now in
    let v = c.fresh.caller in
    let w = c.merge_through.new.caller in
    let ss = take c.fresh.i c.args.fresh.now in
    let left = c.in-Some.left.now in
    let x = c.index-fresh-i.result in
    let hs = c.fresh.made.items in
    let new = c.push_reserved.new.self.items in
    let lt : c.fresh.i < length c.args.fresh.now = c.fresh-test.true in
    let leaves = All-take (IsLeaf g.J.Job.good s) c.fresh.i c.args.fresh.now c.requires.leaves in
    let leaf : IsLeaf g.J.Job.good s x = subst (IsLeaf g.J.Job.good s) (sym c.index-fresh-i.is) (All-get_or (IsLeaf g.J.Job.good s) c.args.fresh.now c.fresh.i x lt c.requires.leaves) in
    let top = top-read g.J.Job.good g.J.Job.joined s ss c.deref.result.now hs _ c.last.ensures.value c.deref.ensures.value c.fresh.invariant.top in
    let over = c.in-Some.ensures s leaves top in
    let whole : ss ++ x ∷ [] ≡ take (c.fresh.i + 1) c.args.fresh.now = (let m = take_more c.args.fresh.now c.fresh.i x lt in rw (← c.index-fresh-i.is) at (sym m)) in
    record {
      of = c.in-Ok.ensures.held.got.later.locks ∙ c.fresh.invariant.of;
      room = c.push_reserved.ensures.capacity ∙ c.fresh.invariant.room;
      count = (let n = c.push_reserved.ensures.len in let m = c.fresh.invariant.count in omega (arith, n, m));
      top = top-push g.J.Job.good g.J.Job.joined s ss (x ∷ []) (take (c.fresh.i + 1) c.args.fresh.now) left x hs new c.in-Ok.hold (g.met.J.Job.join_laws s) leaves (All-cons (IsLeaf g.J.Job.good s) x [] leaf (All-nil (IsLeaf g.J.Job.good s))) over (leaf-over g.J.Job.good g.J.Job.joined s x leaf) c.in-Ok.ensures.value whole c.push_reserved.ensures.items;
      got = gets-push d (pair_of left x) u v w hs new c.in-Ok.hold c.push_reserved.ensures.items c.in-Ok.ensures.held c.fresh.invariant.got;
      loose = loose-push d (pair_of left x) u v w hs new c.in-Ok.hold c.push_reserved.ensures.items c.fresh.invariant.got.0.later c.in-Ok.ensures.held;
      counted = λ ts within.
          let cost = cost-within g.J.Job.good g.J.Job.joined s ss left x ts leaves (All-take (λ (y : SheetOf g.row.J-Val.Denot). IsWithin y.entries ts) c.fresh.i c.args.fresh.now within) over in
          subst (λ (n : ℕ). RoseBy 0 n (n * distinct_keys ts) (g.J.Meter.Meter.counts c.args.m.now) (g.J.Meter.Meter.counts c.merge_through.new.m)) (sym c.push_reserved.ensures.len)
          (merged-more (vec_len c.fresh.made) (distinct_keys ts) _ _ _ _ cost (c.fresh.invariant.counted ts within) c.in-Ok.ensures.counted);
    }

pub returns-clause-counted : goal.returns-clause-counted
returns-clause-counted g c = λ ts within. merged-within (vec_len c.fresh.made) (length c.args.fresh.now - 1) (distinct_keys ts) _ _ (let n = c.fresh.invariant.count in let e = c.fresh.auto.i-end in let some = c.requires.some in omega (arith, n, e, some)) (c.fresh.invariant.counted ts within)

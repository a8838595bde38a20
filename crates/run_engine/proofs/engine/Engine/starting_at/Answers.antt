use Rattle.std.proofs.Common.{◌≡◌, ℕ, [], All, refl, subst}
use Rattle.tree_laws.specs.Trees.{bare}
use Rattle.run_engine.specs.declared.part_seat.PartSeat.{PartSeat}
use Rattle.run_engine.proofs.NewEngine.{rest-unused, new-whole, is-new}
use Rattle.run_engine.proofs.engine.Engine.starting_at.Goals as goal

pub lanes_of-requires : goal.lanes_of-requires
lanes_of-requires g c = record {
  unused = rest-unused c.args.n c.args.settings.shards 16 c.args.settings.keep c.in_ok-leaf_memo.leaf_memo c.in_ok-leaf_memo.callers.items c.last_sweep-leaf_sweep.new.callers.items c.last_sweep-leaf_sweep.result.collector c.in_ok-leaf_memo.ensures c.last_sweep-leaf_sweep.ensures.caller c.last_sweep-leaf_sweep.ensures.keep;
}

pub invariant_of-result : goal.invariant_of-result
invariant_of-result g c = (
  new-whole g.J.Job g.T.Tree.view g.T.Tree.pins g.T.Tree.most c.args.job c.args.settings c.requires.settings c.args.n c.in_ok-leaf_memo.leaf_memo c.in_ok-merge_memo.merge_memo
      c.in_ok-leaf_memo.callers.items c.last_sweep-leaf_sweep.new.callers.items c.in_ok-merge_memo.callers.items c.last_sweep-merge_sweep.new.callers.items c.last_sweep-leaf_sweep.result.collector c.last_sweep-merge_sweep.result.collector
      c.new.result.items c.in_ok-lanes.lanes.items c.in_ok-parts.parts.items c.new.ensures.items
      c.in_ok-leaf_memo.ensures c.last_sweep-leaf_sweep.ensures.caller c.last_sweep-leaf_sweep.ensures.keep
      c.in_ok-merge_memo.ensures c.last_sweep-merge_sweep.ensures.caller c.last_sweep-merge_sweep.ensures.keep
      c.in_ok-lanes.ensures.lanes c.in_ok-lanes.ensures.empty c.in_ok-parts.ensures.callers
      (subst (λ (n : ℕ). All (λ (s : PartSeat _ _ _ _). (g.T.Tree.pins s.tree ≡ []) × (g.T.Tree.view s.tree ≡ bare n c.args.settings.places) × (s.fresh.items ≡ [])) c.in_ok-parts.parts.items) c.setting.ensures c.in_ok-parts.ensures.trees),
  refl,
  refl,
)

pub returns : goal.returns
returns g c =
    is-new g.J.Job g.T.Tree.view g.T.Tree.pins g.T.Tree.most c.args.job c.args.settings c.requires.settings c.args.n c.in_ok-leaf_memo.leaf_memo c.in_ok-merge_memo.merge_memo
    c.in_ok-leaf_memo.callers.items c.last_sweep-leaf_sweep.new.callers.items c.in_ok-merge_memo.callers.items c.last_sweep-merge_sweep.new.callers.items c.last_sweep-leaf_sweep.result.collector c.last_sweep-merge_sweep.result.collector
    c.new.result.items c.in_ok-lanes.lanes.items c.in_ok-parts.parts.items c.new.ensures.items
    c.in_ok-leaf_memo.ensures c.last_sweep-leaf_sweep.ensures.caller c.last_sweep-leaf_sweep.ensures.keep
    c.in_ok-merge_memo.ensures c.last_sweep-merge_sweep.ensures.caller c.last_sweep-merge_sweep.ensures.keep
    c.in_ok-lanes.ensures.lanes c.in_ok-lanes.ensures.empty c.in_ok-parts.ensures.callers
    (subst (λ (n : ℕ). All (λ (s : PartSeat _ _ _ _). (g.T.Tree.pins s.tree ≡ []) × (g.T.Tree.view s.tree ≡ bare n c.args.settings.places) × (s.fresh.items ≡ [])) c.in_ok-parts.parts.items) c.setting.ensures c.in_ok-parts.ensures.trees)

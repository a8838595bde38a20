use Rattle.std.proofs.Common.{◌≡◌, ◌≤◌, ℕ, Some, length, refl, ap, ◌∙◌, subst, arith}
use Rattle.std.specs.List.{slice_get}
use Rattle.std.specs.VecDeque.{deque_capacity}
use Rattle.std.proofs.lemmas.Option.{slice_get_read, slice_get_within}
use Rattle.std.proofs.lemmas.List.{length-set}
use Rattle.tree_laws.specs.Pairs.{pair_digest}
use Rattle.folding_tree.specs.Levels.{Row}
use Rattle.folding_tree.proofs.LevelLaws.{rows-set_like, pins-set_like}
use Rattle.folding_tree.proofs.SettleLaws.{room-more}
use Rattle.folding_tree.proofs.deepening.make_room.Goals as goal

pub levels-init : goal.levels-init
levels-init g c = record {
  count = refl;
  rows = λ i. refl;
  pins = refl;
  room = λ i level draft lt. absurd (omega (arith, lt));
}

pub index_mut-requires : goal.index_mut-requires
index_mut-requires g c =
    let n = c.levels.invariant.count in
    let few = c.requires in
    let lt = c.levels-test.true in
    let ok = c.args.levels.now.ok.0 in
    omega (arith, n, few, lt, ok)

pub levels-preserved : goal.levels-preserved
levels-preserved g c =
    let d = pair_digest g.J.Job.encoded in
    let inv = c.levels.invariant in
    let levels = c.levels.levels.items in
    let drafts = c.args.drafts.now in
    let k = c.levels.k in
    let l = c.index_mut.result.now in
    let m = c.make_room_in.new.level in
    let draft = c.index-drafts-k.result in
    let n = inv.count in
    let few = c.requires in
    let lt = c.levels-test.true in
    let is = slice_get_read levels (length levels) k l refl (omega (arith, n, few, lt)) c.index_mut.ensures.value in
    let at : slice_get drafts k ≡ Some draft = slice_get_read drafts (length drafts) k draft refl lt c.index-drafts-k.is in
    record {
      count = length-set levels k m ∙ inv.count;
      rows = λ i. rows-set_like levels k l m is c.make_room_in.ensures.row i ∙ inv.rows i;
      pins = pins-set_like d levels k l m is (ap (λ (r : Row _ _ _). r.parts) c.make_room_in.ensures.row) ∙ inv.pins;
      room = room-more levels drafts k l m draft is at (subst (λ (x : ℕ). x ≤ deque_capacity m.nodes) c.saturating_sub-count.ensures c.in-Ok.ensures.room) inv.room;
    }

pub returns-in-Err-clause-count : goal.returns-in-Err-clause-count
returns-in-Err-clause-count g c = length-set c.levels.levels.items c.levels.k c.make_room_in.new.level ∙ c.levels.invariant.count

pub returns-in-Err-clause-rows : goal.returns-in-Err-clause-rows
returns-in-Err-clause-rows g c =
    let levels = c.levels.levels.items in
    let k = c.levels.k in
    let l = c.index_mut.result.now in
    let n = c.levels.invariant.count in
    let few = c.requires in
    let lt = c.levels-test.true in
    let is = slice_get_read levels (length levels) k l refl (omega (arith, n, few, lt)) c.index_mut.ensures.value in
    λ i. rows-set_like levels k l c.make_room_in.new.level is c.make_room_in.ensures.row i ∙ c.levels.invariant.rows i

pub returns-in-Err-clause-pins : goal.returns-in-Err-clause-pins
returns-in-Err-clause-pins g c =
    let levels = c.levels.levels.items in
    let k = c.levels.k in
    let l = c.index_mut.result.now in
    let n = c.levels.invariant.count in
    let few = c.requires in
    let lt = c.levels-test.true in
    let is = slice_get_read levels (length levels) k l refl (omega (arith, n, few, lt)) c.index_mut.ensures.value in
    pins-set_like (pair_digest g.J.Job.encoded) levels k l c.make_room_in.new.level is (ap (λ (r : Row _ _ _). r.parts) c.make_room_in.ensures.row) ∙ c.levels.invariant.pins

pub returns-clause-room : goal.returns-clause-room
returns-clause-room g c =
    λ i level draft at_level at_draft.
    let lt = slice_get_within c.args.drafts.now i draft at_draft in
    let end = c.levels-test.false in
    c.levels.invariant.room i level draft (omega (arith, lt, end)) at_level at_draft

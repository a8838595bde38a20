use Rattle.std.proofs.Common.{◌≡◌, inl, inr, ◌<◌, ◌≤◌, ℕ, [], ◌∷◌, ◌++◌, length, set, refl, sym, ap, subst, ◌∙◌, arith}
use Rattle.std.specs.List.{slice_get}
use Rattle.std.proofs.lemmas.Bool.{cases_eq, cases_lt}
use Rattle.std.proofs.lemmas.Option.{slice_get_read, slice_get_within}
use Rattle.std.proofs.lemmas.List.{length-set, length_push, nil_from_length, append-nil}
use Rattle.pin_table.specs.Covers.{Covered}
use Rattle.tree_laws.specs.Pairs.{pair_digest}
use Rattle.folding_tree.specs.Levels.{Row, IsFit, no_row, row_after, parts_pins}
use Rattle.folding_tree.specs.Folding.{row_of, ahead_of, rows_of, aheads_of, rows_after, levels_pins, draft_pins, drafts_pins}
use Rattle.tree_laws.specs.Trades.{Trades}
use Rattle.tree_laws.proofs.TradeLaws.{trades-same, trades-then, trades-covered}
use Rattle.folding_tree.proofs.LevelLaws.{rows-get, rows-past, rows-set_same, rows-set_other, aheads-before, aheads-last, aheads-past, drafts-push}
use Rattle.folding_tree.proofs.ListLaws.{get-last}
use Rattle.folding_tree.proofs.SettleLaws.{room-kept, drafts-fewer, levels-trade, levels-cover, levels-clear, levels-own}
use Rattle.folding_tree.proofs.settling.settle.Goals as goal

pub above-init : goal.above-init
above-init g c =
    let d = pair_digest g.J.Job.encoded in
    let ok = c.args.drafts.now.ok.0 in
    let n = c.len-k.ensures in
    record {
      of = c.requires.of;
      count = refl;
      below = λ i lt. refl;
      cleared = λ i le lt. absurd (omega (arith, le, lt, ok, n));
      room = c.requires.room;
      covered = c.requires.covered;
      trades = trades-same c.args.caller.now (levels_pins d c.args.levels.now.items ++ drafts_pins d c.args.drafts.now.items);
    }

pub clear-requires-clause-of : goal.clear-requires-clause-of
clear-requires-clause-of g c = c.above.invariant.of

pub clear-requires-clause-covered : goal.clear-requires-clause-covered
clear-requires-clause-covered g c =
    let d = pair_digest g.J.Job.encoded in
    let levels = c.above.levels.items in
    let l = c.index_mut.result.now in
    let size = c.above.invariant.count in
    let n = c.len-k-end.ensures in
    let ok = c.args.levels.now.ok.0 in
    let lt = c.above-test.true in
    let is = slice_get_read levels (length levels) c.above.k l refl (omega (arith, size, n, ok, lt)) c.index_mut.ensures.value in
    levels-own d c.above.caller c.above.caller levels c.above.k l is (drafts_pins d c.args.drafts.now.items) c.above.invariant.covered

pub above-preserved : goal.above-preserved
above-preserved g c =
    let d = pair_digest g.J.Job.encoded in
    let inv = c.above.invariant in
    let levels = c.above.levels.items in
    let k = c.above.k in
    let l = c.index_mut.result.now in
    let m = c.clear.new.level in
    let u = c.args.caller.now in
    let v = c.above.caller in
    let w = c.clear.new.caller in
    let own = drafts_pins d c.args.drafts.now.items in
    let size = inv.count in
    let n0 = c.len-k.ensures in
    let ok0 = c.args.drafts.now.ok.0 in
    let n = c.len-k-end.ensures in
    let ok = c.args.levels.now.ok.0 in
    let lt = c.above-test.true in
    let from = c.above.auto.k in
    let inside : k < length levels = omega (arith, size, n, ok, lt) in
    let behind : length c.args.drafts.now.items ≤ k = omega (arith, from, n0, ok0) in
    let is = slice_get_read levels (length levels) k l refl inside c.index_mut.ensures.value in
    let none : parts_pins d m.nodes.items ≡ [] = ap (λ (r : Row _ _ _). parts_pins d r.parts) c.clear.ensures.row in
    let gone : Trades v (parts_pins d l.nodes.items) w (parts_pins d m.nodes.items) = subst (λ qs. Trades v (parts_pins d l.nodes.items) w qs) (sym none) c.clear.ensures.trades in
    let step = levels-clear d v w levels k l is m own gone in
    record {
      of = step.balanced.later.locks ∙ inv.of;
      count = length-set levels k m ∙ inv.count;
      below = λ i i_lt. rows-set_other levels k i m (λ e. omega (arith, e, i_lt, behind)) ∙ inv.below i i_lt;
      cleared = λ i le i_lt. elim (cases_eq i k) [
        | inl e ↦ subst (λ (j : ℕ). rows_of (set levels k m) j ≡ no_row) (sym e) (rows-set_same levels k m inside ∙ c.clear.ensures.row)
        | inr off ↦ rows-set_other levels k i m off ∙ inv.cleared i le (omega (arith, i_lt, off))
      ];
      room = room-kept levels c.args.drafts.now.items c.args.drafts.now.items k m (λ i draft at. (λ e. (let x = slice_get_within c.args.drafts.now.items i draft at in omega (arith, x, e, behind)), at)) inv.room;
      covered = trades-covered v w (levels_pins d levels ++ own) (levels_pins d (set levels k m) ++ own) step inv.covered;
      trades = trades-then u v w (levels_pins d c.args.levels.now.items ++ own) (levels_pins d levels ++ own) (levels_pins d (set levels k m) ++ own) inv.trades step;
    }

pub drafts-init : goal.drafts-init
drafts-init g c =
    let inv = c.above.invariant in
    let size = inv.count in
    let n = c.len-k-end.ensures in
    let ok = c.args.levels.now.ok.0 in
    let le = c.above-test.false in
    record {
      of = inv.of;
      count = inv.count;
      short = omega arith;
      same = λ i lt. refl;
      below = inv.below;
      above = λ i i_le.
          let past = aheads-past c.args.drafts.now.items i i_le in
          let after : rows_after c.args.levels.now.items c.args.drafts.now.items i ≡ no_row = ap (λ a. row_after (rows_of c.args.levels.now.items i) a) past in
          elim (cases_lt i c.above.k) [
            | inl lt ↦ inv.cleared i i_le lt ∙ sym after
            | inr ge ↦ rows-past c.above.levels.items i (omega (arith, ge, size, n, ok, le)) ∙ sym after
          ];
      room = inv.room;
      covered = inv.covered;
      trades = inv.trades;
    }

pub settle_level-requires-clause-of : goal.settle_level-requires-clause-of
settle_level-requires-clause-of g c = c.drafts.invariant.of

pub settle_level-requires-clause-covered : goal.settle_level-requires-clause-covered
settle_level-requires-clause-covered g c =
    let d = pair_digest g.J.Job.encoded in
    let inv = c.drafts.invariant in
    let levels = c.drafts.levels.items in
    let rest = c.pop.new.self.items in
    let k = c.len-k-in-Some.result in
    let l = c.index_mut-in-Some.result.now in
    let draft = c.in-Some.draft in
    let is : c.drafts.drafts.items ≡ rest ++ draft ∷ [] = c.in-Some.ensures.items in
    let at : k ≡ length rest = (let n = c.len-k-in-Some.ensures in let ok = c.pop.new.self.ok.0 in omega (arith, n, ok)) in
    let inside : k < length levels = (let a = ap length is in let b = length_push rest draft in let e = inv.short in let f = inv.count in let h = c.requires.count in omega (arith, a, b, e, f, h, at)) in
    let get = slice_get_read levels (length levels) k l refl inside c.index_mut-in-Some.ensures.value in
    levels-cover d c.drafts.caller c.drafts.caller levels k l get (drafts_pins d rest) (draft_pins d draft) (subst (λ ps. Covered c.drafts.caller (levels_pins d levels ++ ps)) (ap (drafts_pins d) is ∙ drafts-push d rest draft) inv.covered)

pub settle_level-requires-clause-fit : goal.settle_level-requires-clause-fit
settle_level-requires-clause-fit g c =
    let inv = c.drafts.invariant in
    let levels = c.drafts.levels.items in
    let rest = c.pop.new.self.items in
    let k = c.len-k-in-Some.result in
    let l = c.index_mut-in-Some.result.now in
    let draft = c.in-Some.draft in
    let is : c.drafts.drafts.items ≡ rest ++ draft ∷ [] = c.in-Some.ensures.items in
    let at : k ≡ length rest = (let n = c.len-k-in-Some.ensures in let ok = c.pop.new.self.ok.0 in omega (arith, n, ok)) in
    let more : k < length c.drafts.drafts.items = (let a = ap length is in let b = length_push rest draft in omega (arith, a, b, at)) in
    let inside : k < length levels = (let e = inv.short in let f = inv.count in let h = c.requires.count in omega (arith, more, e, f, h)) in
    let get = slice_get_read levels (length levels) k l refl inside c.index_mut-in-Some.ensures.value in
    let row : rows_of c.args.levels.now.items k ≡ row_of l = sym (inv.below k more) ∙ rows-get levels k l get in
    let ahead : aheads_of c.args.drafts.now.items k ≡ ahead_of draft = sym (inv.same k more) ∙ ap (λ ds. aheads_of ds k) is ∙ aheads-last rest draft k at in
    subst (λ r. IsFit r (ahead_of draft)) row (subst (IsFit (rows_of c.args.levels.now.items k)) ahead (c.requires.fit k))

pub settle_level-requires-clause-room : goal.settle_level-requires-clause-room
settle_level-requires-clause-room g c =
    let inv = c.drafts.invariant in
    let levels = c.drafts.levels.items in
    let rest = c.pop.new.self.items in
    let k = c.len-k-in-Some.result in
    let l = c.index_mut-in-Some.result.now in
    let draft = c.in-Some.draft in
    let is : c.drafts.drafts.items ≡ rest ++ draft ∷ [] = c.in-Some.ensures.items in
    let at : k ≡ length rest = (let n = c.len-k-in-Some.ensures in let ok = c.pop.new.self.ok.0 in omega (arith, n, ok)) in
    let more : k < length c.drafts.drafts.items = (let a = ap length is in let b = length_push rest draft in omega (arith, a, b, at)) in
    let inside : k < length levels = (let e = inv.short in let f = inv.count in let h = c.requires.count in omega (arith, more, e, f, h)) in
    let get = slice_get_read levels (length levels) k l refl inside c.index_mut-in-Some.ensures.value in
    inv.room k l draft get (ap (λ ds. slice_get ds k) is ∙ get-last rest draft k at)

pub drafts-preserved : goal.drafts-preserved
drafts-preserved g c =
    let d = pair_digest g.J.Job.encoded in
    let inv = c.drafts.invariant in
    let levels = c.drafts.levels.items in
    let rest = c.pop.new.self.items in
    let k = c.len-k-in-Some.result in
    let l = c.index_mut-in-Some.result.now in
    let m = c.settle_level.new.level in
    let draft = c.in-Some.draft in
    let u = c.args.caller.now in
    let v = c.drafts.caller in
    let w = c.settle_level.new.caller in
    let is : c.drafts.drafts.items ≡ rest ++ draft ∷ [] = c.in-Some.ensures.items in
    let a = ap length is in
    let b = length_push rest draft in
    let at : k ≡ length rest = (let n = c.len-k-in-Some.ensures in let ok = c.pop.new.self.ok.0 in omega (arith, n, ok)) in
    let more : k < length c.drafts.drafts.items = omega (arith, a, b, at) in
    let inside : k < length levels = (let e = inv.short in let f = inv.count in let h = c.requires.count in omega (arith, more, e, f, h)) in
    let get = slice_get_read levels (length levels) k l refl inside c.index_mut-in-Some.ensures.value in
    let row : rows_of c.args.levels.now.items k ≡ row_of l = sym (inv.below k more) ∙ rows-get levels k l get in
    let ahead : aheads_of c.args.drafts.now.items k ≡ ahead_of draft = sym (inv.same k more) ∙ ap (λ ds. aheads_of ds k) is ∙ aheads-last rest draft k at in
    let made : row_of m ≡ rows_after c.args.levels.now.items c.args.drafts.now.items k = c.settle_level.ensures.row ∙ ap (λ r. row_after r (ahead_of draft)) (sym row) ∙ ap (row_after (rows_of c.args.levels.now.items k)) (sym ahead) in
    let pins : drafts_pins d c.drafts.drafts.items ≡ drafts_pins d rest ++ draft_pins d draft = ap (drafts_pins d) is ∙ drafts-push d rest draft in
    let one = levels-trade d v w levels k l get m (drafts_pins d rest) (draft_pins d draft) c.settle_level.ensures.trades in
    let step : Trades v (levels_pins d levels ++ drafts_pins d c.drafts.drafts.items) w (levels_pins d (set levels k m) ++ drafts_pins d rest) = subst (λ ps. Trades v (levels_pins d levels ++ ps) w (levels_pins d (set levels k m) ++ drafts_pins d rest)) (sym pins) one in
    record {
      of = step.balanced.later.locks ∙ inv.of;
      count = length-set levels k m ∙ inv.count;
      short = (let e = inv.short in omega (arith, a, b, e));
      same = λ i lt. sym (aheads-before rest draft i lt) ∙ ap (λ ds. aheads_of ds i) (sym is) ∙ inv.same i (omega (arith, a, b, lt));
      below = λ i lt. rows-set_other levels k i m (λ e. omega (arith, e, lt, at)) ∙ inv.below i (omega (arith, a, b, lt));
      above = λ i le. elim (cases_eq i k) [
        | inl e ↦ subst (λ (j : ℕ). rows_of (set levels k m) j ≡ rows_after c.args.levels.now.items c.args.drafts.now.items j) (sym e) (rows-set_same levels k m inside ∙ made)
        | inr off ↦ rows-set_other levels k i m off ∙ inv.above i (omega (arith, a, b, le, off, at))
      ];
      room = room-kept levels c.drafts.drafts.items rest k m (λ i x got.
          let f = drafts-fewer rest draft i x got in
          (λ e. f.0 (e ∙ at), ap (λ ds. slice_get ds i) is ∙ f.1)) inv.room;
      covered = trades-covered v w _ _ step inv.covered;
      trades = trades-then u v w _ _ _ inv.trades step;
    }

pub returns-clause-none : goal.returns-clause-none
returns-clause-none g c =
    let none = c.in_default.ensures.cases in
    nil_from_length c.pop.new.self.items (omega (arith, none.1, c.pop.new.self.ok.0))

pub returns-clause-rows : goal.returns-clause-rows
returns-clause-rows g c =
    let none = c.in_default.ensures.cases in
    let zero : length c.drafts.drafts.items ≡ 0 = omega (arith, none.0, c.drafts.drafts.ok.0) in
    λ k. c.drafts.invariant.above k (omega (arith, zero))

pub returns-clause-trades : goal.returns-clause-trades
returns-clause-trades g c =
    let d = pair_digest g.J.Job.encoded in
    let none = c.in_default.ensures.cases in
    let empty : c.drafts.drafts.items ≡ [] = nil_from_length c.drafts.drafts.items (omega (arith, none.0, c.drafts.drafts.ok.0)) in
    let pins : levels_pins d c.drafts.levels.items ++ drafts_pins d c.drafts.drafts.items ≡ levels_pins d c.drafts.levels.items = ap (λ ds. levels_pins d c.drafts.levels.items ++ drafts_pins d ds) empty ∙ append-nil (levels_pins d c.drafts.levels.items) in
    subst (λ qs. Trades c.args.caller.now (levels_pins d c.args.levels.now.items ++ drafts_pins d c.args.drafts.now.items) c.drafts.caller qs) pins c.drafts.invariant.trades

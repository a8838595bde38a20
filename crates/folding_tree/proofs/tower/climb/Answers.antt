use Rattle.std.proofs.Common.{◌≡◌, ◌⊎◌, inl, inr, ◌+◌, ◌-◌, ◌*◌, ◌<◌, ◌≤◌, ℕ, suc, [], ◌∷◌, ◌++◌, length, true, false, refl, sym, ap, subst, ◌∙◌, arith}
use Rattle.std.proofs.lemmas.Bool.{false≢true}
use Rattle.std.proofs.lemmas.List.{length_push}
use Rattle.sheets.specs.Sheets.{SheetOf}
use Rattle.pin_table.specs.OwnEvents.{Met}
use Rattle.pin_table.proofs.OwnEvents.{any-met-later}
use Rattle.tree_laws.specs.Pairs.{pair_digest}
use Rattle.tree_laws.specs.Trees.{IsLeaf, IsWithin, distinct_keys}
use Rattle.folding_tree.specs.Levels.{Ahead, IsFit, IsRaised, IsAligned, EachSheet, row_after, ahead_loose, beyond}
use Rattle.folding_tree.specs.Folding.{ahead_of, rows_of, aheads_of, draft_pins, drafts_pins}
use Rattle.tree_laws.specs.Trades.{Trades}
use Rattle.tree_laws.proofs.TradeLaws.{trades-same}
use Rattle.folding_tree.proofs.RaiseLaws.{trades-add, trades-idle}
use Rattle.tree_laws.proofs.LeafLaws.{rose-still, leaf-merge, within-merge}
use Rattle.folding_tree.proofs.SheetLaws.{each-over}
use Rattle.folding_tree.proofs.LevelLaws.{rows-read, aheads-read, aheads-before, aheads-last, aheads-past, drafts-tight, drafts-push}
use Rattle.folding_tree.proofs.BoundLaws.{beyond-few}
use Rattle.folding_tree.proofs.ClimbLaws.{climb-aligned, climb-over, climb-grows, climb-few, climb-loose, climb-spent, climb-ended, climb-stopped, all-fit, raised-few}
use Rattle.folding_tree.proofs.tower.climb.Goals as goal

pub levels-init : goal.levels-init
levels-init g c =
    let d = pair_digest g.J.Job.encoded in
    let b = c.requires.begun in
    record {
      of = c.requires.of;
      count = (let n = c.requires.one in omega (arith, n));
      first = refl;
      aligned = λ b i le. let z : i ≡ 0 = omega (arith, le) in subst (λ n. IsAligned b.folded n (rows_of c.args.levels.now n) (aheads_of c.args.drafts.now.items n)) (sym z) b.aligned;
      grows = λ more i le. let z : i ≡ 0 = omega (arith, le) in subst (λ n. (aheads_of c.args.drafts.now.items n).mid < (aheads_of c.args.drafts.now.items n).high) (sym z) more;
      over = λ i lt. absurd (omega (arith, lt));
      leaves = c.requires.leaves;
      within = λ ts within. within;
      few = beyond-few (aheads_of c.args.drafts.now.items 0).low (aheads_of c.args.drafts.now.items 0).places;
      loose = λ i h. absurd (drafts-tight c.args.drafts.now.items c.requires.one c.requires.plain i h);
      trades = trades-same c.args.caller.now (drafts_pins d c.args.drafts.now.items);
      counted = λ ts within. (0, omega arith, rose-still 0 (0 * distinct_keys ts) (g.J.Meter.Meter.counts c.args.m.now));
    }

pub raise-requires-clause-of : goal.raise-requires-clause-of
raise-requires-clause-of g c = c.levels.invariant.of

pub raise-requires-clause-fits : goal.raise-requires-clause-fits
raise-requires-clause-fits g c =
    let k = c.levels.k in
    let drafts = c.levels.drafts.items in
    let inv = c.levels.invariant in
    let count = inv.count in
    let level = c.index-levels-k.result in
    let draft = c.index.result.now in
    let deep = c.requires.deep in
    let lt = c.levels-test.true in
    let er = rows-read c.args.levels.now k level (omega (arith, deep, lt)) c.index-levels-k.is in
    let ed = ap (λ ds. aheads_of ds k) (sym c.reserve.ensures.items) ∙ aheads-read c.reserve.new.self.items k draft (let n = ap length c.reserve.ensures.items in omega (arith, n, count)) c.index.ensures in
    let fit = (inv.aligned c.requires.begun k (omega arith)).fit in
    subst (λ r. IsFit r (ahead_of draft)) er (subst (IsFit (rows_of c.args.levels.now k)) ed fit)

pub raise-requires-clause-begins : goal.raise-requires-clause-begins
raise-requires-clause-begins g c =
    let k = c.levels.k in
    let drafts = c.levels.drafts.items in
    let inv = c.levels.invariant in
    let count = inv.count in
    let draft = c.index.result.now in
    let ed = ap (λ ds. aheads_of ds k) (sym c.reserve.ensures.items) ∙ aheads-read c.reserve.new.self.items k draft (let n = ap length c.reserve.ensures.items in omega (arith, n, count)) c.index.ensures in
    subst (λ (a : Ahead _ _ _). a.low ≡ a.high → a.low ≡ 0) ed (inv.aligned c.requires.begun k (omega arith)).none

pub raise-requires-clause-leaves : goal.raise-requires-clause-leaves
raise-requires-clause-leaves g c =
    let k = c.levels.k in
    let inv = c.levels.invariant in
    let count = inv.count in
    let level = c.index-levels-k.result in
    let draft = c.index.result.now in
    let deep = c.requires.deep in
    let lt = c.levels-test.true in
    let er = rows-read c.args.levels.now k level (omega (arith, deep, lt)) c.index-levels-k.is in
    let ed = ap (λ ds. aheads_of ds k) (sym c.reserve.ensures.items) ∙ aheads-read c.reserve.new.self.items k draft (let n = ap length c.reserve.ensures.items in omega (arith, n, count)) c.index.ensures in
    subst (λ r. EachSheet (IsLeaf g.J.Job.good (g.J.Job.setting c.args.job.now)) (row_after r (ahead_of draft))) er
    (subst (λ a. EachSheet (IsLeaf g.J.Job.good (g.J.Job.setting c.args.job.now)) (row_after (rows_of c.args.levels.now k) a)) ed inv.leaves)

pub levels-preserved : goal.levels-preserved
levels-preserved g c =
    let d = pair_digest g.J.Job.encoded in
    let join = g.J.Job.joined in
    let s = g.J.Job.setting c.args.job.now in
    let b = c.requires.begun in
    let k = c.levels.k in
    let inv = c.levels.invariant in
    let count = inv.count in
    let lt = c.levels-test.true in
    let deep = c.requires.deep in
    let olds = c.levels.drafts.items in
    let now = c.push_reserved.new.self.items in
    let above = c.in-Ok-raise.above in
    let rows = rows_of c.args.levels.now in
    let level = c.index-levels-k.result in
    let draft = c.index.result.now in
    let u = c.args.caller.now in
    let v = c.levels.caller in
    let w = c.raise.new.caller in
    let er = rows-read c.args.levels.now k level (omega (arith, deep, lt)) c.index-levels-k.is in
    let ed = ap (λ ds. aheads_of ds k) (sym c.reserve.ensures.items) ∙ aheads-read c.reserve.new.self.items k draft (let n = ap length c.reserve.ensures.items in omega (arith, n, count)) c.index.ensures in
    let is : now ≡ olds ++ above ∷ [] = c.push_reserved.ensures.items ∙ ap (λ ds. ds ++ above ∷ []) c.reserve.ensures.items in
    let same : (i : ℕ) → i ≤ k → aheads_of now i ≡ aheads_of olds i = λ i le. ap (λ ds. aheads_of ds i) is ∙ aheads-before olds above i (omega (arith, le, count)) in
    let last : aheads_of now (suc k) ≡ ahead_of above = ap (λ ds. aheads_of ds (suc k)) is ∙ aheads-last olds above (suc k) (omega (arith, count)) in
    let raised : IsRaised join (rows k) (aheads_of olds k) (aheads_of now (suc k)) =
    subst (λ a. IsRaised join (rows k) (aheads_of olds k) a) (sym last)
    (subst (λ a. IsRaised join (rows k) a (ahead_of above)) (sym ed)
    (subst (λ r. IsRaised join r (ahead_of draft) (ahead_of above)) (sym er) c.in-Ok-raise.ensures.raised)) in
    let grows : (k < b.folded) ⊎ ((aheads_of olds k).mid < (aheads_of olds k).high) = elim b.grows [ inl e ↦ inl (omega (arith, e, lt)) | inr more ↦ inr (inv.grows more k (omega arith)) ] in
    let overs = climb-over join rows (aheads_of olds) (aheads_of now) k same raised b.folded (inv.aligned b) (b.over k) grows inv.over in
    let e : suc k ≡ k + 1 = omega arith in
    let kept : row_after (rows k) (aheads_of olds k) ≡ row_after (rows k) (aheads_of now k) = ap (row_after (rows k)) (sym (same k (omega arith))) in
    let late : (i : ℕ) → suc (suc k) ≤ i → ahead_loose (aheads_of now i) ≡ true → ⊥ = λ i le h.
    let n = ap length is in
    let m = length_push olds above in
    let past = aheads-past now i (omega (arith, n, m, count, le)) in
    (let no : false ≡ true = sym (ap ahead_loose past) ∙ h in false≢true no) in
    record {
      of = c.in-Ok-raise.ensures.trades.balanced.later.locks ∙ inv.of;
      count = (let n = ap length is in let m = length_push olds above in omega (arith, n, m, count));
      first = same 0 (omega arith) ∙ inv.first;
      aligned = λ x i le. climb-aligned join rows (aheads_of olds) (aheads_of now) k same raised x.folded (inv.aligned x) (x.over k) (elim x.grows [ inl q ↦ inl (omega (arith, q, lt)) | inr more ↦ inr (inv.grows more k (omega arith)) ]) i (omega (arith, le));
      grows = λ more i le. climb-grows join rows (aheads_of olds) (aheads_of now) k same raised (inv.grows more) i (omega (arith, le));
      over = λ i i_lt. overs i (omega (arith, i_lt));
      leaves = subst (λ n. EachSheet (IsLeaf g.J.Job.good s) (row_after (rows n) (aheads_of now n))) e
          (each-over join (IsLeaf g.J.Job.good s) (leaf-merge join g.J.Job.good s (g.met.J.Job.join_laws s)) (row_after (rows k) (aheads_of now k)) (row_after (rows (suc k)) (aheads_of now (suc k))) (overs k (omega arith)) (subst (EachSheet (IsLeaf g.J.Job.good s)) kept inv.leaves));
      within = λ ts within. subst (λ n. EachSheet (λ (x : SheetOf g.row.J-Val.Denot). IsWithin x.entries ts) (row_after (rows n) (aheads_of now n))) e
          (each-over join (λ (x : SheetOf g.row.J-Val.Denot). IsWithin x.entries ts) (within-merge join ts) (row_after (rows k) (aheads_of now k)) (row_after (rows (suc k)) (aheads_of now (suc k))) (overs k (omega arith)) (subst (EachSheet (λ (x : SheetOf g.row.J-Val.Denot). IsWithin x.entries ts)) kept (inv.within ts within)));
      few = subst (λ n. beyond (aheads_of now n).low (aheads_of now n).places ≤ length (aheads_of c.args.drafts.now.items 0).places) e (climb-few join rows (aheads_of olds) (aheads_of now) k same raised (length (aheads_of c.args.drafts.now.items 0).places) inv.few);
      loose = climb-loose join rows (aheads_of olds) (aheads_of now) k same raised u v w inv.trades.balanced.later c.in-Ok-raise.ensures.trades.balanced.later inv.loose (λ h. c.in-Ok-raise.ensures.loose (sym (ap ahead_loose last) ∙ h)) late;
      trades = subst (λ ps. Trades u (drafts_pins d c.args.drafts.now.items) w ps) (sym (ap (drafts_pins d) is ∙ drafts-push d olds above)) (trades-add u v w (drafts_pins d c.args.drafts.now.items) (drafts_pins d olds) (draft_pins d above) inv.trades c.in-Ok-raise.ensures.trades);
      counted = λ ts within.
          let spent = inv.counted ts within in
          let first = aheads_of c.args.drafts.now.items 0 in
          let old = aheads_of olds k in
          let new = aheads_of now (suc k) in
          let here = subst (λ r. EachSheet (λ (x : SheetOf g.row.J-Val.Denot). IsWithin x.entries ts) (row_after r (ahead_of draft))) er (subst (λ a. EachSheet (λ (x : SheetOf g.row.J-Val.Denot). IsWithin x.entries ts) (row_after (rows k) a)) ed (inv.within ts within)) in
          let bound : ℕ = 2 + beyond draft.low draft.places.items + (draft.high - draft.mid) - (above.high - above.mid) in
          let few : beyond draft.low draft.places.items ≤ length first.places = subst (λ a. beyond a.low a.places ≤ length first.places) ed inv.few in
          let fit = (inv.aligned b k (omega arith)).fit in
          let fresh : above.high - above.mid ≤ (draft.high - draft.mid) + 1 = subst (λ a. above.high - above.mid ≤ (a.high - a.mid) + 1) ed (subst (λ a. a.high - a.mid ≤ (old.high - old.mid) + 1) last (raised-few join (rows k) old new raised)) in
          let at : spent.0 + (draft.high - draft.mid) ≤ first.high - first.mid + (2 + length first.places) * k = subst (λ a. spent.0 + (a.high - a.mid) ≤ first.high - first.mid + (2 + length first.places) * k) ed spent.1 in
          let more = climb-spent spent.0 bound (first.high - first.mid) k (length first.places) (beyond draft.low draft.places.items) (draft.high - draft.mid) (above.high - above.mid) (distinct_keys ts) _ _ _ few at fresh (omega arith) spent.2 (c.in-Ok-raise.ensures.spared ts here) in
          (more.0, subst (λ n. more.0 + ((aheads_of now n).high - (aheads_of now n).mid) ≤ first.high - first.mid + (2 + length first.places) * (k + 1)) e (subst (λ a. more.0 + (a.high - a.mid) ≤ first.high - first.mid + (2 + length first.places) * (k + 1)) (sym last) more.1), more.2);
    }

pub returns-clause-fit : goal.returns-clause-fit
returns-clause-fit g c =
    all-fit c.requires.begun.folded c.levels.k (rows_of c.args.levels.now) (aheads_of c.levels.drafts.items) (c.levels.invariant.aligned c.requires.begun) (λ i lt. aheads-past c.levels.drafts.items i (let n = c.levels.invariant.count in omega (arith, n, lt)))

pub returns-clause-first : goal.returns-clause-first
returns-clause-first g c =
    c.levels.invariant.first

pub returns-clause-trades : goal.returns-clause-trades
returns-clause-trades g c =
    c.levels.invariant.trades

pub returns-clause-loose : goal.returns-clause-loose
returns-clause-loose g c =
    c.levels.invariant.loose

pub returns-clause-counted : goal.returns-clause-counted
returns-clause-counted g c =
    λ ts within.
    let spent = c.levels.invariant.counted ts within in
    let first = aheads_of c.args.drafts.now.items 0 in
    let last = aheads_of c.levels.drafts.items c.levels.k in
    climb-ended spent.0 (first.high - first.mid) c.levels.k c.args.height (length first.places) (last.high - last.mid) (distinct_keys ts) _ _ (omega arith) spent.1 spent.2

pub returns-in-Err-clause-fit : goal.returns-in-Err-clause-fit
returns-in-Err-clause-fit g c =
    subst (λ ds. (i : ℕ) → IsFit (rows_of c.args.levels.now i) (aheads_of ds i)) (sym c.reserve.ensures.items)
    (all-fit c.requires.begun.folded c.levels.k (rows_of c.args.levels.now) (aheads_of c.levels.drafts.items) (c.levels.invariant.aligned c.requires.begun) (λ i lt. aheads-past c.levels.drafts.items i (let n = c.levels.invariant.count in omega (arith, n, lt))))

pub returns-in-Err-clause-first : goal.returns-in-Err-clause-first
returns-in-Err-clause-first g c =
    subst (λ ds. aheads_of ds 0 ≡ aheads_of c.args.drafts.now.items 0) (sym c.reserve.ensures.items)
    (c.levels.invariant.first)

pub returns-in-Err-clause-trades : goal.returns-in-Err-clause-trades
returns-in-Err-clause-trades g c =
    subst (λ ds. Trades c.args.caller.now (drafts_pins (pair_digest g.J.Job.encoded) c.args.drafts.now.items) c.levels.caller (drafts_pins (pair_digest g.J.Job.encoded) ds)) (sym c.reserve.ensures.items)
    (c.levels.invariant.trades)

pub returns-in-Err-clause-loose : goal.returns-in-Err-clause-loose
returns-in-Err-clause-loose g c =
    subst (λ ds. (i : ℕ) → ahead_loose (aheads_of ds i) ≡ true → Met c.args.caller.now c.levels.caller) (sym c.reserve.ensures.items)
    (c.levels.invariant.loose)

pub returns-in-Err-clause-counted : goal.returns-in-Err-clause-counted
returns-in-Err-clause-counted g c =
    λ ts within.
    let spent = c.levels.invariant.counted ts within in
    let first = aheads_of c.args.drafts.now.items 0 in
    let last = aheads_of c.levels.drafts.items c.levels.k in
    climb-ended spent.0 (first.high - first.mid) c.levels.k c.args.height (length first.places) (last.high - last.mid) (distinct_keys ts) _ _ (omega arith) spent.1 spent.2

pub returns-in-Err-raise-clause-fit : goal.returns-in-Err-raise-clause-fit
returns-in-Err-raise-clause-fit g c =
    subst (λ ds. (i : ℕ) → IsFit (rows_of c.args.levels.now i) (aheads_of ds i)) (sym c.reserve.ensures.items)
    (all-fit c.requires.begun.folded c.levels.k (rows_of c.args.levels.now) (aheads_of c.levels.drafts.items) (c.levels.invariant.aligned c.requires.begun) (λ i lt. aheads-past c.levels.drafts.items i (let n = c.levels.invariant.count in omega (arith, n, lt))))

pub returns-in-Err-raise-clause-first : goal.returns-in-Err-raise-clause-first
returns-in-Err-raise-clause-first g c =
    subst (λ ds. aheads_of ds 0 ≡ aheads_of c.args.drafts.now.items 0) (sym c.reserve.ensures.items)
    (c.levels.invariant.first)

pub returns-clause-count : goal.returns-clause-count
returns-clause-count g c =
    let n = c.levels.invariant.count in
    let lt = c.levels-test.false in
    let le : c.levels.k ≤ c.args.height = omega arith in
    omega (arith, n, lt, le)

pub returns-clause-over : goal.returns-clause-over
returns-clause-over g c =
    λ i lt. c.levels.invariant.over i (let end = c.levels-test.false in omega (arith, lt, end))

pub returns-in-Err-raise-clause-trades : goal.returns-in-Err-raise-clause-trades
returns-in-Err-raise-clause-trades g c =
    let d = pair_digest g.J.Job.encoded in
    let k = c.levels.k in
    let inv = c.levels.invariant in
    let count = inv.count in
    let level = c.index-levels-k.result in
    let draft = c.index.result.now in
    let deep = c.requires.deep in
    let lt = c.levels-test.true in
    let u = c.args.caller.now in
    let v = c.levels.caller in
    let w = c.raise.new.caller in
    let er = rows-read c.args.levels.now k level (omega (arith, deep, lt)) c.index-levels-k.is in
    let ed = ap (λ ds. aheads_of ds k) (sym c.reserve.ensures.items) ∙ aheads-read c.reserve.new.self.items k draft (let n = ap length c.reserve.ensures.items in omega (arith, n, count)) c.index.ensures in
    subst (λ ds. Trades u (drafts_pins d c.args.drafts.now.items) w (drafts_pins d ds)) (sym c.reserve.ensures.items)
    (trades-idle u v w (drafts_pins d c.args.drafts.now.items) (drafts_pins d c.levels.drafts.items) inv.trades c.in-Err-raise.ensures.err)

pub returns-in-Err-raise-clause-loose : goal.returns-in-Err-raise-clause-loose
returns-in-Err-raise-clause-loose g c =
    let d = pair_digest g.J.Job.encoded in
    let k = c.levels.k in
    let inv = c.levels.invariant in
    let count = inv.count in
    let level = c.index-levels-k.result in
    let draft = c.index.result.now in
    let deep = c.requires.deep in
    let lt = c.levels-test.true in
    let u = c.args.caller.now in
    let v = c.levels.caller in
    let w = c.raise.new.caller in
    let er = rows-read c.args.levels.now k level (omega (arith, deep, lt)) c.index-levels-k.is in
    let ed = ap (λ ds. aheads_of ds k) (sym c.reserve.ensures.items) ∙ aheads-read c.reserve.new.self.items k draft (let n = ap length c.reserve.ensures.items in omega (arith, n, count)) c.index.ensures in
    subst (λ ds. (i : ℕ) → ahead_loose (aheads_of ds i) ≡ true → Met u w) (sym c.reserve.ensures.items)
    (λ i h. any-met-later u v w c.in-Err-raise.ensures.err.balanced.later (inv.loose i h))

pub returns-in-Err-raise-clause-counted : goal.returns-in-Err-raise-clause-counted
returns-in-Err-raise-clause-counted g c =
    let d = pair_digest g.J.Job.encoded in
    let k = c.levels.k in
    let inv = c.levels.invariant in
    let count = inv.count in
    let level = c.index-levels-k.result in
    let draft = c.index.result.now in
    let deep = c.requires.deep in
    let lt = c.levels-test.true in
    let u = c.args.caller.now in
    let v = c.levels.caller in
    let w = c.raise.new.caller in
    let er = rows-read c.args.levels.now k level (omega (arith, deep, lt)) c.index-levels-k.is in
    let ed = ap (λ ds. aheads_of ds k) (sym c.reserve.ensures.items) ∙ aheads-read c.reserve.new.self.items k draft (let n = ap length c.reserve.ensures.items in omega (arith, n, count)) c.index.ensures in
    λ ts within.
    let spent = inv.counted ts within in
    let first = aheads_of c.args.drafts.now.items 0 in
    let here = subst (λ r. EachSheet (λ (x : SheetOf g.row.J-Val.Denot). IsWithin x.entries ts) (row_after r (ahead_of draft))) er (subst (λ a. EachSheet (λ (x : SheetOf g.row.J-Val.Denot). IsWithin x.entries ts) (row_after (rows_of c.args.levels.now k) a)) ed (inv.within ts within)) in
    let few : beyond draft.low draft.places.items ≤ length first.places = subst (λ a. beyond a.low a.places ≤ length first.places) ed inv.few in
    let at : spent.0 + (draft.high - draft.mid) ≤ first.high - first.mid + (2 + length first.places) * k = subst (λ a. spent.0 + (a.high - a.mid) ≤ first.high - first.mid + (2 + length first.places) * k) ed spent.1 in
    climb-stopped spent.0 (2 + beyond draft.low draft.places.items + (draft.high - draft.mid)) (first.high - first.mid) k c.args.height (length first.places) (beyond draft.low draft.places.items) (draft.high - draft.mid) (distinct_keys ts) _ _ _ lt few at (omega arith) spent.2 (c.raise.ensures.counted ts here)
